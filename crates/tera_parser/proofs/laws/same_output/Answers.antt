use Rattle.tera_tree.specs.Outputs.{output_view}
use Rattle.tera_tree.specs.DefinitionLaws.{output_decides}
use Rattle.tera_parser.proofs.laws.same_output.Goals as goal

pub returns : goal.returns
returns c = let d = output_decides (output_view c.args.a.now) (output_view c.args.b.now) in rw (c.eq.ensures) d
