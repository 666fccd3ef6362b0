use Rattle.std.proofs.Common.{◌≡◌, ◌∙◌, cond, string_bytes, subst, sym, true}
use Rattle.std.specs.BTreeSet.{contains_text}
use Rattle.std.specs.Str.{bytes_eq}
use Rattle.std.proofs.lemmas.Map.Text.{btree_set_updates_text}
use Rattle.tera_site.specs.Kept.{is_one_of, names_in}
use Rattle.tera_site.proofs.KeptLemmas.{name_put, none_put, one_of}
use Rattle.tera_site.proofs.kept.put_if.Goals as goal

pub returns-then-not-is_so : goal.returns-then-not-is_so
returns-then-not-is_so c = λ n. none_put _ c.args.is_so c.args.name.now n c.if-not-is_so.true

pub returns : goal.returns
returns c = λ n.
    let old = c.args.names.now in
    let new = c.insert.new.self in
    let key = string_bytes c.in_ok-from_str.field-0 in
    let now : contains_text new n ≡ cond (bytes_eq key n) true (contains_text old n) = btree_set_updates_text key old new true c.in_ok-insert.ensures.updates n in
    name_put (is_one_of (names_in old) n) (is_one_of (names_in new) n) c.args.is_so c.args.name.now n c.if-not-is_so.false
    (subst (λ bs. is_one_of (names_in new) n ≡ cond (bytes_eq bs n) true (is_one_of (names_in old) n)) c.in_ok-from_str.ensures.ok
    (sym (one_of new n) ∙ now ∙ (λ i. cond (bytes_eq key n) true (one_of old n i))))
