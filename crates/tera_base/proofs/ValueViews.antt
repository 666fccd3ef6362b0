-- A value, level by level.
use Rattle.std.proofs.Common.{◌≡◌, List, Vec, Global, rules}
use Rattle.tera_base.specs.Values as values
use Rattle.tera_base.specs.ValueView.{value_view, vals_view, pairs_view}
use Rattle.tera_base.specs.declared.values.Key.{Key}
use Rattle.tera_base.specs.declared.values.Value.{Value, Array, Map, the_lemmas}

pub view_array : (v : Vec Value Global) → value_view (Array v) ≡ values.Array (vals_view v.items)
view_array v = search (rules, the_lemmas)

pub view_map : (m : List (Key × Value)) → value_view (Map m) ≡ values.Map (pairs_view m)
view_map m = search (rules, the_lemmas)
