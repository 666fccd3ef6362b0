use Rattle.std.proofs.Common.{◌∙◌, Some, ap, map, sym}
use Rattle.json.proofs.Trees.{view-Array}
use Rattle.json.specs.Value.{value_view}
use Rattle.protocol_values.specs.Members.{seen, array_in}
use Rattle.protocol_values.proofs.NumberLemmas.{listed_items}
use Rattle.protocol_values.proofs.reading.items_of.Goals as goal

pub returns-in-Array : goal.returns-in-Array
returns-in-Array c =
    ap (λ items. Some (map value_view items)) c.as_slice.ensures.value
    ∙ ap Some (sym (listed_items (map value_view c.in-Array.items.items)))
    ∙ ap (λ value. array_in (Some value)) (sym (view-Array c.in-Array.items))
    ∙ ap (λ value. array_in (Some (value_view value))) (sym c.in-Array.is)
    ∙ ap (λ value. array_in (seen value)) (sym c.in_ok-items.was)
