-- Parts of a tree that are still to be taken, and the calls that were found.
use Rattle.std.specs.Prelude.{List, [], ◌∷◌}
use Rattle.std.specs.Borrow.{Bor}
use Rattle.std.specs.List.{flat_map}
use Rattle.tera_base.specs.Spanned.{node_of, span_of}
use Rattle.tera_base.specs.declared.utils.Spanned.{Spanned}
use Rattle.tera_ast.specs.Tree.{Expr, ComponentCall}
use Rattle.tera_ast.specs.View.{call_view}
use Rattle.tera_ast.specs.declared.ast.ComponentCall.{ComponentCall as Call}
use Rattle.tera_tree.specs.Parts.{PartVal, NodePart, ExpressionPart, parts_view}
use Rattle.tera_tree.specs.declared.parts.Part.{Part}
use Rattle.tera_rules.specs.Calls.{calls_in, calls_in_node}

-- a call, as the tree has it
abbrev pub seen : Bor (Spanned Call) → Expr
seen c = call_view (node_of c.now) (span_of c.now)

abbrev pub calls_in_part : PartVal → List Expr
calls_in_part (NodePart n) = calls_in_node n
calls_in_part (ExpressionPart e) = calls_in e

-- the part by itself, if it is a call
abbrev pub itself : PartVal → List Expr
itself (ExpressionPart (ComponentCall name es body closed span)) = ComponentCall name es body closed span ∷ []
itself _ = []

abbrev pub to_come : List Part → List Expr
to_come ps = flat_map calls_in_part (parts_view ps)
