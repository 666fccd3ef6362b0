use Rattle.std.proofs.Common.{◌≡◌, ◌∙◌, cond, map, take, string_bytes, sym, ap, subst}
use Rattle.std.specs.BTreeMap.{get_by_text}
use Rattle.std.specs.Option.{option_map}
use Rattle.std.specs.Str.{bytes_eq}
use Rattle.std.proofs.lemmas.List.{take_all}
use Rattle.tera_workspace.specs.Names.{is_among}
use Rattle.tera_editor.specs.Sites.{asked_again, asked_if}
use Rattle.tera_editor.proofs.SiteLemmas.{asked_of_next, asked_of_nil, names_next}
use Rattle.tera_editor.proofs.sites.ask_each.Goals as goal

pub loop-name-init : goal.loop-name-init
loop-name-init c = λ n. asked_of_nil (get_by_text c.args.presences.now n)

pub loop-name-preserved : goal.loop-name-preserved
loop-name-preserved c = λ n.
    let names = c.args.names.now in
    let k = c.loop-name.name-index in
    let name = c.name-item.result in
    let was = get_by_text c.args.presences.now n in
    let so_far = get_by_text c.loop-name.presences n in
    c.ask.ensures n
    ∙ ap (λ m. cond (bytes_eq m n) (option_map asked_again so_far) so_far) c.as_str.ensures.value
    ∙ ap (λ o. cond (bytes_eq (string_bytes name) n) (option_map asked_again o) o) (c.loop-name.invariant n)
    ∙ asked_of_next (map string_bytes (take k names)) (string_bytes name) n was
    ∙ ap (λ ns. option_map (asked_if (is_among n ns)) was) (sym (names_next names k name c.loop-name-test.true c.name-item.is))

pub returns : goal.returns
returns c = λ n.
    subst (λ xs. get_by_text c.loop-name.presences n ≡ option_map (asked_if (is_among n (map string_bytes xs))) (get_by_text c.args.presences.now n))
    (take_all c.loop-name.name-index c.args.names.now c.loop-name-test.false) (c.loop-name.invariant n)
