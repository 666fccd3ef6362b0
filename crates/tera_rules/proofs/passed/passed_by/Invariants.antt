use Rattle.std.proofs.Common.{◌≡◌, ◌++◌, drop, map}
use Rattle.tera_ast.specs.View.{entries_view}
use Rattle.tera_rules.specs.Passed.{passed_view, passed_by}
use Rattle.tera_rules.proofs.passed.passed_by.Given as goal

abbrev pub invariant-loop-attribute : goal.invariant-loop-attribute
invariant-loop-attribute l =
    passed_by (entries_view l.attribute-items)
    ≡ map passed_view l.passed.items ++ passed_by (entries_view (drop l.attribute-index l.attribute-items))
