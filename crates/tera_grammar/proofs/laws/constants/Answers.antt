use Rattle.tera_grammar.specs.expressions.Constants.{IsLiteralNumber}
use Rattle.tera_grammar.proofs.expressions.Numbers.{constants_hold, literal_negates}
use Rattle.tera_grammar.proofs.statements.Numbers.{template_holds, source_holds}
use Rattle.tera_grammar.proofs.laws.constants.Goals as goal

pub returns : goal.returns
returns c = record {
  of_expressions = λ l e rest h. (constants_hold IsLiteralNumber literal_negates l e rest h).0;
  of_templates = λ l items b is h. template_holds IsLiteralNumber literal_negates l items b is h;
  of_sources = λ l m valid source out d. source_holds l m valid source out d;
}
