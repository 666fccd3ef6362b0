use Rattle.tera_grammar.proofs.Readings.{attributes_found_whole, attributes_read_whole}
use Rattle.tera_grammar.proofs.expressions.Only.{attributes_one, attributes_end}
use Rattle.tera_grammar.proofs.laws.attributes.Goals as goal

pub returns : goal.returns
returns c = record {
  sound = λ limits l items rest x h. attributes_found_whole limits l items rest x h;
  complete = λ limits l x rest is within end. attributes_read_whole limits l x rest is within (attributes_end rest end);
  unique = λ l one other rest last a b s t h. attributes_one l one other rest last a b (attributes_end rest s) (attributes_end last t) h;
}
