-- The names that may be meant.
use Rattle.std.specs.Prelude.{ℕ, List, Bool, not, map, String, string_bytes}
use Rattle.std.specs.declared.alloc.Global.{Global}
use Rattle.std.specs.BTreeMap.{BTreeMap}
use Rattle.std.specs.List.{filter}
use Rattle.std.specs.Map.{keys_of}
use Rattle.tera_rules.specs.declared.known.Known.{Known}
use Rattle.tera_tree.specs.Tree.{Definition}
use Rattle.tera_fixes.specs.Attributes.{CallVal, passes}

abbrev pub component_names : BTreeMap (String Global) Known → List (List ℕ)
component_names catalogue = map string_bytes (keys_of catalogue.entries)

abbrev pub parameter_names : Definition → List (List ℕ)
parameter_names d = map (λ a. a.0) d.arguments

-- the parameters of a component that a call has no attribute for
abbrev pub free_of : CallVal → List (List ℕ) → List (List ℕ)
free_of call names = filter (λ name. not (passes call name)) names

abbrev pub free_parameters : Definition → CallVal → List (List ℕ)
free_parameters d call = free_of call (parameter_names d)
