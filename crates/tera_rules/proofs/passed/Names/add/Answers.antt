use Rattle.std.proofs.Common.{rules, ◌≡◌, ◌∙◌, sym, ap, true, if◌then◌else◌, string_bytes, bytes_eq}
use Rattle.std.specs.BTreeSet.{contains_text}
use Rattle.std.proofs.lemmas.Map.Text.{btree_set_updates_text}
use Rattle.tera_rules.specs.Passed.{passed_view, is_under}
use Rattle.tera_rules.proofs.passed.Names.add.Goals as goal

pub returns-in_ok-insert-in-Named-clause-under : goal.returns-in_ok-insert-in-Named-clause-under
returns-in_ok-insert-in-Named-clause-under c = λ n.
    let key = string_bytes c.in_ok-clone-in-Named.field-0 in
    let before = contains_text c.args.self.now.under n in
    let same : key ≡ string_bytes c.in-Named.named.name.now = search rules in
    btree_set_updates_text key c.args.self.now.under c.insert.new.self true c.in_ok-insert-in-Named.ensures.updates n
    ∙ ap (λ bs. if bytes_eq bs n then true else before) same
    ∙ ap (λ p. if is_under n (passed_view p) then true else before) (sym c.in-Named.is)
