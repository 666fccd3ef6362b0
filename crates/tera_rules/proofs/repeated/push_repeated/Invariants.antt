use Rattle.std.proofs.Common.{◌≡◌, ◌++◌, List, length, map}
use Rattle.tera_base.specs.Values.{KeyVal}
use Rattle.tera_ast.specs.Tree.{Expr}
use Rattle.tera_ast.specs.View.{entry_view, entries_of}
use Rattle.tera_ast.specs.declared.ast.MapEntryOf.{MapEntryOf}
use Rattle.tera_findings.specs.Findings.{finding_view}
use Rattle.tera_rules.specs.Repeated.{span_at_key, next_in, repeated_findings}
use Rattle.tera_rules.proofs.repeated.push_repeated.Given as goal

abbrev pub invariant-entries : goal.invariant-entries
invariant-entries l =
    (done : List (MapEntryOf Expr)) × (map entry_view l.left ++ done ≡ map entry_view l.entries.items)
    × (map finding_view l.findings.items ≡ map finding_view l.fn.findings.items ++ repeated_findings l.holder l.file (entries_of done))
    × ((k : KeyVal) → span_at_key l.following k ≡ next_in k (entries_of done))

abbrev pub decreases-entries : goal.decreases-entries
decreases-entries l = length l.left
