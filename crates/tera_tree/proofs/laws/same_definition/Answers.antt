use Rattle.std.proofs.Common.{◌≡◌}
use Rattle.tera_tree.specs.DefinitionLaws.{definition_decides}
use Rattle.tera_tree.specs.View.{definition_view}
use Rattle.tera_tree.proofs.laws.same_definition.Goals as goal

pub returns : goal.returns
returns c = let d = definition_decides (definition_view c.args.a.now) (definition_view c.args.b.now) in rw (c.eq.ensures) d
