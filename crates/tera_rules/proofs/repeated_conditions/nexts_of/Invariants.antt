use Rattle.std.proofs.Common.{◌≡◌, ◌++◌, ℕ, List, length, map, reverse, find}
use Rattle.tera_ast.specs.Tree.{Expr}
use Rattle.tera_ast.specs.View.{expression_view}
use Rattle.tera_rules.specs.RepeatedConditions.{has_text, nexts, seen_if, under_text}
use Rattle.tera_rules.proofs.repeated_conditions.nexts_of.Given as goal

abbrev pub invariant-conditions : goal.invariant-conditions
invariant-conditions l =
    (done : List Expr) × (map (λ e. expression_view e.now) l.conditions.items ++ done ≡ map (λ e. expression_view e.now) l.fn.conditions.items)
    × (reverse (map seen_if l.nexts.items) ≡ nexts done)
    × ((text : List ℕ) → under_text l.following text ≡ find (has_text text) done)

abbrev pub decreases-conditions : goal.decreases-conditions
decreases-conditions l = length l.conditions.items
