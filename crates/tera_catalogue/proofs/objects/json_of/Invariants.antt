use Rattle.std.proofs.Common.{◌≡◌, ◌++◌, drop}
use Rattle.std.specs.List.{flat_map}
use Rattle.tera_catalogue.specs.Objects.{object_of}
use Rattle.tera_catalogue.proofs.objects.json_of.Given as goal

abbrev pub invariant-loop-component : goal.invariant-loop-component
invariant-loop-component l =
    l.initial.writer ++ flat_map object_of l.components ≡ l.writer ++ flat_map object_of (drop l.component-index l.components)
