use Rattle.std.proofs.Common.{subst, sym}
use Rattle.tera_grammar.specs.statements.Trees.{IsRight}
use Rattle.tera_grammar.proofs.statements.Trees.{template_right}
use Rattle.tera_parser.proofs.laws.right_trees.Goals as goal

pub returns : goal.returns
returns c = λ l m source read d. subst IsRight (sym d.2.2) (template_right l _ d.2.0 d.2.1)
