use Rattle.std.proofs.Common.{◌≡◌, ◌∙◌, filter, length, rules, sym, ap, subst}
use Rattle.std.proofs.lemmas.Fn.{filter_same}
use Rattle.tera_editor.specs.Sites.{IsGiven}
use Rattle.tera_editor.proofs.SiteLemmas.{EachBelow, filter_all, gone_found, is_other_than, sited_found}
use Rattle.tera_editor.proofs.sites.Sites.remove.Goals as goal

pub returns-clause-set : goal.returns-clause-set
returns-clause-set c = λ f.
    let folder = c.args.folder.now in
    let xs = c.args.self.now.all.items in
    let left : c.retain.new.self.items ≡ filter (is_other_than folder) xs = filter_same _ _ _ (λ x b f' k. search rules) _ _ c.retain.ensures.filtered in
    ap (sited_found f) left ∙ gone_found f folder xs

pub returns-clause-given : goal.returns-clause-given
returns-clause-given c = λ g.
    let folder = c.args.folder.now in
    let xs = c.args.self.now.all.items in
    let left : c.retain.new.self.items ≡ filter (is_other_than folder) xs = filter_same _ _ _ (λ x b f' k. search rules) _ _ c.retain.ensures.filtered in
    subst (λ ys. EachBelow IsGiven (length ys) ys) (sym left) (filter_all IsGiven (is_other_than folder) xs g)
