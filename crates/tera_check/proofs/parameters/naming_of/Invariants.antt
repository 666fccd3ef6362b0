use Rattle.std.proofs.Common.{◌≡◌, ◌||◌, false, ℕ, List}
use Rattle.tera_ast.specs.View.{nodes_view}
use Rattle.tera_check.specs.Named.{known_in, taken_in}
use Rattle.tera_check.specs.Parameters.{named_in_nodes}
use Rattle.tera_check.specs.Scopes.{is_named, is_to_come}
use Rattle.tera_check.proofs.parameters.naming_of.Given as goal

abbrev pub invariant-loop-part : goal.invariant-loop-part
invariant-loop-part l = (n : List ℕ) → (is_named l.naming n || is_to_come (taken_in (known_in l.catalogue)) n l.scopes.items) ≡ named_in_nodes (taken_in (known_in l.catalogue)) false n (nodes_view l.body.items)
