use Rattle.std.proofs.Common.{◌≡◌, ◌++◌, drop}
use Rattle.tera_ast.specs.View.{entries_view}
use Rattle.tera_tree.specs.Parts.{parts_view, parts_of_entries}
use Rattle.tera_tree.proofs.parts.push_entries.Given as goal

abbrev pub invariant-loop-entry : goal.invariant-loop-entry
invariant-loop-entry l =
    parts_view l.initial.parts.items ++ parts_of_entries (entries_view l.entry-items)
    ≡ parts_view l.parts.items ++ parts_of_entries (entries_view (drop l.entry-index l.entry-items))
