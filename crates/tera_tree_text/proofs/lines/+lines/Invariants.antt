use Rattle.std.proofs.Common.{◌≡◌, ◌++◌, drop, string_bytes, ◌*◌, ◌+◌, ◌≤◌, IsUtf8}
use Rattle.tera_ast.specs.View.{nodes_view, if_view}
use Rattle.tera_tree_text.specs.TreeText.{nodes_text, node_text}
use Rattle.tera_ast.specs.declared.ast.If.{size-If}
use Rattle.tera_tree_text.proofs.lines.+lines.Given as goal

abbrev pub invariant-push_nodes-loop-node : goal.invariant-push_nodes-loop-node
invariant-push_nodes-loop-node l =
    string_bytes l.initial.out ++ nodes_text l.word l.indent (nodes_view l.node-items) ≡ string_bytes l.out ++ nodes_text l.word l.indent (nodes_view (drop l.node-index l.node-items))

abbrev pub decreases-push_node : goal.decreases-push_node
decreases-push_node l = 10 * goal.size-push_node l + 1

abbrev pub decreases-push_nodes : goal.decreases-push_nodes
decreases-push_nodes l = 10 * goal.size-push_nodes l + 2

abbrev pub decreases-push_body : goal.decreases-push_body
decreases-push_body l = 10 * goal.size-push_body l + 3

abbrev pub decreases-push_shown : goal.decreases-push_shown
decreases-push_shown l = 10 * goal.size-push_shown l + 5

abbrev pub decreases-push_call : goal.decreases-push_call
decreases-push_call l = 10 * goal.size-push_call l + 4

abbrev pub decreases-push_block : goal.decreases-push_block
decreases-push_block l = 10 * goal.size-push_block l + 4

abbrev pub decreases-push_block_set : goal.decreases-push_block_set
decreases-push_block_set l = 10 * goal.size-push_block_set l + 4

abbrev pub decreases-push_section : goal.decreases-push_section
decreases-push_section l = 10 * goal.size-push_section l + 4

abbrev pub decreases-push_for : goal.decreases-push_for
decreases-push_for l = 10 * goal.size-push_for l + 5

abbrev pub decreases-push_else : goal.decreases-push_else
decreases-push_else l = 10 * goal.size-push_else l + 4

abbrev pub decreases-push_if : goal.decreases-push_if
decreases-push_if l = 10 * goal.size-push_if l + 5

abbrev pub invariant-push_if-loop-out : goal.invariant-push_if-loop-out
invariant-push_if-loop-out l =
    (string_bytes l.initial.out ++ node_text l.initial.word l.indent (if_view l.initial.parts) ≡ string_bytes l.out ++ node_text l.word l.indent (if_view l.parts))
    × (size-If l.parts ≤ size-If l.initial.parts)
    × IsUtf8 l.word
