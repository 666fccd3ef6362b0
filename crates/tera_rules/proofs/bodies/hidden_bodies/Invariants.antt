use Rattle.std.proofs.Common.{◌≡◌, ◌||◌, ℕ, List, drop, map}
use Rattle.std.specs.BTreeSet.{contains_text}
use Rattle.tera_tree.specs.View.{definition_view}
use Rattle.tera_rules.specs.Bodies.{is_hidden_in}
use Rattle.tera_rules.proofs.bodies.hidden_bodies.Given as goal

abbrev pub invariant-loop-definition : goal.invariant-loop-definition
invariant-loop-definition l =
    (n : List ℕ) → is_hidden_in (map definition_view l.definition-items) n
    ≡ (contains_text l.hidden n || is_hidden_in (map definition_view (drop l.definition-index l.definition-items)) n)
