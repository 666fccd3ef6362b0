use Rattle.std.proofs.Common.{◌≡◌, ◌++◌, map}
use Rattle.std.specs.List.{flat_map}
use Rattle.tera_tree.specs.Definitions.{named_value}
use Rattle.tera_catalogue.specs.Pages.{entry}
use Rattle.tera_catalogue.proofs.cells.push_metadata.Given as goal

abbrev pub invariant-loop-name : goal.invariant-loop-name
invariant-loop-name l =
    l.initial.page.items ++ flat_map entry (map named_value l.metadata.entries) ≡ l.page.items ++ flat_map entry (map named_value l.name-iterator)
