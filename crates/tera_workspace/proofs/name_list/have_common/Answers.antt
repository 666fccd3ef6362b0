use Rattle.std.proofs.Common.{◌≡◌, ◌∙◌, rules, bytes_eq, ℕ, List, Bool, map, string_bytes, true, false, sym, ap}
use Rattle.std.specs.List.{list_any}
use Rattle.tera_workspace.specs.Names.{is_among}
use Rattle.tera_workspace.proofs.TouchedLemmas.{named_in, any_next, any_last}
use Rattle.tera_workspace.proofs.name_list.have_common.Goals as goal

pub loop-name-preserved : goal.loop-name-preserved
loop-name-preserved c =
    let names = c.args.names.now.items in
    let items = c.deref-name-items.result.now in
    let name = c.name-item.result in
    let is_named : List ℕ → Bool = λ n. is_among n (map string_bytes names) in
    let found : list_any (λ s. bytes_eq (string_bytes s) (string_bytes name)) names ≡ false = search rules in
    let none : is_named (string_bytes name) ≡ false = sym (named_in (string_bytes name) names) ∙ found in
    c.loop-name.invariant ∙ any_next is_named items c.loop-name.name-index name false c.loop-name-test.true c.name-item.is none

pub returns-then-contains : goal.returns-then-contains
returns-then-contains c =
    let names = c.args.names.now.items in
    let items = c.deref-name-items.result.now in
    let name = c.name-item.result in
    let is_named : List ℕ → Bool = λ n. is_among n (map string_bytes names) in
    let found : list_any (λ s. bytes_eq (string_bytes s) (string_bytes name)) names ≡ true = search rules in
    let some : is_named (string_bytes name) ≡ true = sym (named_in (string_bytes name) names) ∙ found in
    sym (ap (λ ns. list_any is_named (map string_bytes ns)) (sym c.deref-name-items.ensures.value)
    ∙ (c.loop-name.invariant ∙ any_next is_named items c.loop-name.name-index name true c.loop-name-test.true c.name-item.is some))

pub returns : goal.returns
returns c =
    let names = c.args.names.now.items in
    let items = c.deref-name-items.result.now in
    let is_named : List ℕ → Bool = λ n. is_among n (map string_bytes names) in
    sym (ap (λ ns. list_any is_named (map string_bytes ns)) (sym c.deref-name-items.ensures.value)
    ∙ (c.loop-name.invariant ∙ any_last is_named items c.loop-name.name-index c.loop-name-test.false))
