use Rattle.std.proofs.Common.{sym, ◌∙◌}
use Rattle.std.specs.Cmp.Derive.Mapped.{pointwise-map}
use Rattle.tera_ast.specs.View.{node_view}
use Rattle.tera_ast.specs.Same.{stmt_eq}
use Rattle.tera_tree.proofs.outputs.same_nodes.Goals as goal

pub returns : goal.returns
returns c = c.eq.ensures ∙ sym (pointwise-map node_view stmt_eq c.args.a.now.items c.args.b.now.items)
