-- The keys of a map, where it has some.
use Rattle.std.specs.Prelude.{List, [], Option, Some, None}
use Rattle.std.specs.Global.{Box}
use Rattle.indexmap.specs.IndexSet.{IndexSet}
use Rattle.tera_base.specs.declared.values.Key.{Key}

abbrev pub keys_in : {S : Type 0} → Option (Box (IndexSet Key S)) → List Key
keys_in None = []
keys_in (Some set) = set.value.keys
