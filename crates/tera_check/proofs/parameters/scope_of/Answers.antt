use Rattle.std.proofs.Common.{◌∙◌, ◌++◌, ap}
use Rattle.tera_ast.specs.View.{nodes_view}
use Rattle.tera_tree.specs.Parts.{parts_view, parts_of_nodes}
use Rattle.tera_check.specs.Scopes.{is_hidden, named_in_parts}
use Rattle.tera_check.proofs.ParametersLemmas.{in_nodes}
use Rattle.tera_check.proofs.parameters.scope_of.Goals as goal

pub returns : goal.returns
returns c = λ takes n.
    let hidden = is_hidden c.args.hidden.items n in
    ap (named_in_parts takes hidden n) (c.in_ok-push_nodes.ensures ∙ ap (λ ps. parts_view ps ++ parts_of_nodes (nodes_view c.args.body.now.items)) c.new-parts.ensures.items)
    ∙ in_nodes takes hidden n (nodes_view c.args.body.now.items)
