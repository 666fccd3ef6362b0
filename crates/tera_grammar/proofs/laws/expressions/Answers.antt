use Rattle.tera_lexer.specs.grammar.Tokens.{Ended}
use Rattle.tera_grammar.proofs.expressions.Fronts.{ends_stop}
use Rattle.tera_grammar.proofs.expressions.Wholes.{expression_one, ends_ended}
use Rattle.tera_grammar.proofs.Readings.{expression_found, expression_read}
use Rattle.tera_grammar.proofs.laws.expressions.Goals as goal

pub returns : goal.returns
returns c = record {
  sound = λ limits l items rest e h. expression_found limits l items rest e h;
  complete = λ limits l e rest is within stop. expression_read limits l e rest is within (ends_stop rest stop);
  unique = λ l one other rest last a b s t h. expression_one l one other rest last a b (ends_stop rest s) (ends_stop last t) h;
  alone = λ l one other a b h. (expression_one l one other Ended Ended a b ends_ended ends_ended h).0;
}
