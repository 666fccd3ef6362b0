use Rattle.std.proofs.Common.{◌∷◌, ◌-◌, suc, map, ◌+◌, ◌*◌}
use Rattle.tera_lexer.specs.code.Cursors.{size}
use Rattle.tera_ast.specs.View.{node_view}
use Rattle.tera_grammar.specs.statements.Grammar.{Path, in_loop, InIf}
use Rattle.tera_grammar.specs.statements.Reading.{body, branches}
use Rattle.tera_grammar.specs.statements.Reading.Loops.{Going, Branching}
use Rattle.tera_statements.specs.Adding.{here}
use Rattle.tera_statements.specs.Around.{Represents, context_of}
use Rattle.tera_expr_parts.specs.Allowed.{limits_of}
use Rattle.tera_expect.specs.Taking.{GoesOn}
use Rattle.tera_statements.specs.Conditions.{branch_view}
use Rattle.tera_statements.proofs.+bodies.Given as goal

abbrev pub invariant-bodies::body-items : goal.invariant-bodies::body-items
invariant-bodies::body-items l = record {
  going : (path : Path) → Represents path l.around
      → Going (body (suc (l.depth - 1)) (limits_of l.setting.limits) (context_of l.opening.context ∷ path)) (in_loop (context_of l.opening.context ∷ path))
      (here l.fn.names l.fn.cursor) (here l.names l.cursor) (map node_view l.nodes.items);
  later : GoesOn l.fn.cursor l.cursor;
}

abbrev pub decreases-bodies::body-items : goal.decreases-bodies::body-items
decreases-bodies::body-items l = size l.cursor.left

abbrev pub invariant-conditions::other_branches-branches : goal.invariant-conditions::other_branches-branches
invariant-conditions::other_branches-branches l = record {
  branching : (path : Path) → Represents path l.around
      → Branching (λ p. branches (limits_of l.setting.limits) (body l.depth (limits_of l.setting.limits)) (InIf ∷ path) p) (in_loop path)
      (here l.fn.names l.fn.cursor) (here l.names l.cursor) (map branch_view l.branches.items);
  later : GoesOn l.fn.cursor l.cursor;
}

abbrev pub decreases-conditions::other_branches-branches : goal.decreases-conditions::other_branches-branches
decreases-conditions::other_branches-branches l = size l.cursor.left

-- each call opens a body, or goes to a function of a lower rank
abbrev pub decreases-bodies::body : goal.decreases-bodies::body
decreases-bodies::body l = 10 * l.depth + 0

abbrev pub decreases-bodies::next_node : goal.decreases-bodies::next_node
decreases-bodies::next_node l = 10 * l.depth + 9

abbrev pub decreases-bodies::item_node : goal.decreases-bodies::item_node
decreases-bodies::item_node l = 10 * l.depth + 8

abbrev pub decreases-items::item : goal.decreases-items::item
decreases-items::item l = 10 * l.depth + 7

abbrev pub decreases-items::tag : goal.decreases-items::tag
decreases-items::tag l = 10 * l.depth + 6

abbrev pub decreases-captures::set : goal.decreases-captures::set
decreases-captures::set l = 10 * l.depth + 5

abbrev pub decreases-captures::set_body : goal.decreases-captures::set_body
decreases-captures::set_body l = 10 * l.depth + 4

abbrev pub decreases-captures::section : goal.decreases-captures::section
decreases-captures::section l = 10 * l.depth + 4

abbrev pub decreases-captures::call : goal.decreases-captures::call
decreases-captures::call l = 10 * l.depth + 4

abbrev pub decreases-blocks::block : goal.decreases-blocks::block
decreases-blocks::block l = 10 * l.depth + 4

abbrev pub decreases-blocks::definition : goal.decreases-blocks::definition
decreases-blocks::definition l = 10 * l.depth + 4

abbrev pub decreases-loops::for_loop : goal.decreases-loops::for_loop
decreases-loops::for_loop l = 10 * l.depth + 5

abbrev pub decreases-loops::else_body : goal.decreases-loops::else_body
decreases-loops::else_body l = 10 * l.depth + 3

abbrev pub decreases-conditions::condition : goal.decreases-conditions::condition
decreases-conditions::condition l = 10 * l.depth + 5

abbrev pub decreases-conditions::read_branch : goal.decreases-conditions::read_branch
decreases-conditions::read_branch l = 10 * l.depth + 3

abbrev pub decreases-conditions::other_branches : goal.decreases-conditions::other_branches
decreases-conditions::other_branches l = 10 * l.depth + 4
