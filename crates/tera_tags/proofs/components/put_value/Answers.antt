use Rattle.std.proofs.Common.{map, ap, ◌∙◌}
use Rattle.tera_base.specs.ValueView.{value_view}
use Rattle.tera_tree.specs.Definitions.{named_value}
use Rattle.tera_tags.proofs.PairsLemmas.{put_named}
use Rattle.tera_tags.proofs.components.put_value.Goals as goal

pub returns : goal.returns
returns c = ap (map named_value) c.in_ok-_before.ensures.entries ∙ put_named value_view c.args.values.now.entries c.args.name c.args.value
