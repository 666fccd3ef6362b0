use Rattle.tera_grammar.proofs.Readings.{kwargs_found, kwargs_read}
use Rattle.tera_grammar.proofs.expressions.Only.{kwargs_one}
use Rattle.tera_grammar.proofs.laws.arguments.Goals as goal

pub returns : goal.returns
returns c = record {
  sound = λ limits l items rest x h. kwargs_found limits l items rest x h;
  complete = λ limits l x rest is within. kwargs_read limits l x rest is within;
  unique = λ l one other rest last a b h. kwargs_one l one other rest last a b h;
}
