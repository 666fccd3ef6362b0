use Rattle.std.proofs.Common.{◌∙◌, ap, string_bytes}
use Rattle.std.specs.Prelude.{◌||◌}
use Rattle.tera_ast.specs.View.{expression_view, name_view, nodes_view}
use Rattle.tera_ast.specs.declared.ast.ForLoop.{out-ForLoop}
use Rattle.tera_tree.specs.Parts.{parts_view}
use Rattle.tera_check.specs.Parameters.{binds, named_in, named_in_nodes}
use Rattle.tera_check.specs.Scopes.{is_hidden, is_to_come, named_in_parts}
use Rattle.tera_check.proofs.ParametersLemmas.{in_nodes, loop_sum, or_false, pushed, put_after, scope_more}
use Rattle.tera_check.proofs.parameters.take_loop.Goals as goal

pub returns : goal.returns
returns c = λ takes n.
    let hidden = is_hidden c.args.hidden.now.items n in
    let t = out-ForLoop c.args.turns.now in
    let others = is_to_come takes n c.args.scopes.now.items in
    let before = named_in_parts takes hidden n (parts_view c.args.parts.now.items) in
    let body = named_in_nodes takes (hidden || binds (name_view t.key) (string_bytes t.value) n) n (nodes_view t.body.items) in
    let otherwise = named_in_nodes takes hidden n (nodes_view t.else_body.items) in
    let scopes =
    scope_more takes n c.args.scopes.now.items c.push-2.new.self.items c.in_ok-scope_of.field-0 body c.in_ok-push-2.ensures.items
    (c.in_ok-scope_of.ensures takes n ∙ ap (λ h. named_in_nodes takes h n (nodes_view t.body.items)) (c.in_ok-inner.ensures n)) in
    let target = pushed takes hidden n c.args.parts.now.items c.push.new.self.items _ _ c.in_ok-push.ensures.items (or_false _) in
    let parts = put_after takes hidden n c.push.new.self.items c.push_nodes.new.parts.items _ _ c.in_ok-push_nodes.ensures (in_nodes takes hidden n (nodes_view t.else_body.items)) in
    (λ i. scopes i || (parts ∙ ap (λ b. b || otherwise) target) i) ∙ loop_sum others before (named_in takes hidden n (expression_view t.target)) body otherwise
