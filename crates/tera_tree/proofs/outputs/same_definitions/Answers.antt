use Rattle.std.proofs.Common.{sym, ◌∙◌}
use Rattle.std.specs.Cmp.Derive.Mapped.{pointwise-map}
use Rattle.tera_tree.specs.View.{definition_view}
use Rattle.tera_tree.specs.Definitions.{definition_eq}
use Rattle.tera_tree.proofs.outputs.same_definitions.Goals as goal

pub returns : goal.returns
returns c = c.eq.ensures ∙ sym (pointwise-map definition_view definition_eq c.args.a.now.items c.args.b.now.items)
