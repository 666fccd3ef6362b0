use Rattle.std.proofs.Common.{◌≡◌, ◌++◌, drop, string_bytes}
use Rattle.tera_ast.specs.View.{filters_view}
use Rattle.tera_tree_text.specs.TreeText.{filters_text}
use Rattle.tera_tree_text.proofs.lines.push_filters.Given as goal

abbrev pub invariant-loop-filter : goal.invariant-loop-filter
invariant-loop-filter l =
    string_bytes l.initial.out ++ filters_text l.following (filters_view l.filter-items) ≡ string_bytes l.out ++ filters_text l.later (filters_view (drop l.filter-index l.filter-items))
