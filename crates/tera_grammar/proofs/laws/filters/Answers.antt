use Rattle.tera_grammar.proofs.Readings.{filter_found, filter_read_whole}
use Rattle.tera_grammar.proofs.expressions.Only.{filter_one, filter_end}
use Rattle.tera_grammar.proofs.laws.filters.Goals as goal

pub returns : goal.returns
returns c = record {
  sound = λ limits l items rest x h. filter_found limits l items rest x h;
  complete = λ limits l x rest is within end. filter_read_whole limits l x rest is within (filter_end rest end);
  unique = λ l one other rest last a b s t h. filter_one l one other rest last a b (filter_end rest s) (filter_end last t) h;
}
