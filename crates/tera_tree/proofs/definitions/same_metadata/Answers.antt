use Rattle.std.proofs.Common.{sym, ◌∙◌}
use Rattle.std.specs.Cmp.Derive.Mapped.{pointwise-map}
use Rattle.tera_tree.specs.Definitions.{named_value, named_value_eq}
use Rattle.tera_tree.proofs.definitions.same_metadata.Goals as goal

pub returns : goal.returns
returns c = c.eq.ensures ∙ sym (pointwise-map named_value named_value_eq c.args.a.now.entries c.args.b.now.entries)
