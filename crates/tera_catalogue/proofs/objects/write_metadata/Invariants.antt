use Rattle.std.proofs.Common.{◌≡◌, ◌++◌, map}
use Rattle.std.specs.List.{flat_map}
use Rattle.tera_tree.specs.Definitions.{named_value}
use Rattle.tera_catalogue.specs.Objects.{named}
use Rattle.tera_catalogue.proofs.objects.write_metadata.Given as goal

abbrev pub invariant-loop-name : goal.invariant-loop-name
invariant-loop-name l =
    l.initial.writer ++ flat_map named (map named_value l.metadata.entries) ≡ l.writer ++ flat_map named (map named_value l.name-iterator)
