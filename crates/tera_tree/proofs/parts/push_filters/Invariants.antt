use Rattle.std.proofs.Common.{◌≡◌, ◌++◌, drop}
use Rattle.tera_ast.specs.View.{filters_view}
use Rattle.tera_tree.specs.Parts.{parts_view, parts_of_filters}
use Rattle.tera_tree.proofs.parts.push_filters.Given as goal

abbrev pub invariant-loop-filter : goal.invariant-loop-filter
invariant-loop-filter l =
    parts_view l.initial.parts.items ++ parts_of_filters (filters_view l.filter-items)
    ≡ parts_view l.parts.items ++ parts_of_filters (filters_view (drop l.filter-index l.filter-items))
