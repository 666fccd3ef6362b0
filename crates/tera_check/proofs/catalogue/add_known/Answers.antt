use Rattle.std.proofs.Common.{◌≡◌, ◌∙◌, rules, sym, ap, cond, Some, string_bytes, bytes_eq}
use Rattle.std.specs.BTreeMap.{get_by_text}
use Rattle.std.specs.Option.{option_map}
use Rattle.std.proofs.lemmas.Map.Text.{btree_map_updates_text}
use Rattle.tera_rules.specs.Judged.{known_view}
use Rattle.tera_check.specs.Named.{known_in}
use Rattle.tera_check.proofs.CatalogueLemmas.{some_known, none_known, known_by, kept, added}
use Rattle.tera_check.proofs.catalogue.add_known.Goals as goal

pub returns-then-contains_key : goal.returns-then-contains_key
returns-then-contains_key c = λ n.
    kept (known_in c.args.catalogue.now) (known_view c.args.known) n c.as_str-name.result.now c.as_str-name.ensures.value
    (some_known _ ∙ sym c.if-contains_key.ensures)

pub returns : goal.returns
returns c = λ n.
    let map = c.args.catalogue.now in
    let known = c.args.known in
    let name = c.as_str-name.result.now in
    let key = string_bytes c.in_ok-clone.field-0 in
    let same : key ≡ string_bytes known.definition.now.name = search rules in
    added (known_in map) (known_view known) n name _ c.as_str-name.ensures.value (none_known _ c.if-contains_key.ensures)
    (ap (option_map known_view) (btree_map_updates_text key map c.insert.new.self (Some known) c.in_ok-insert.ensures.updates n)
    ∙ known_by (bytes_eq key n) known (get_by_text map n)
    ∙ ap (λ bs. cond (bytes_eq bs n) (Some (known_view known)) (known_in map n)) (same ∙ sym c.as_str-name.ensures.value))
