use Rattle.tera_grammar.proofs.Readings.{literal_array_found, literal_array_read}
use Rattle.tera_grammar.proofs.expressions.Only.{literal_array_one}
use Rattle.tera_grammar.proofs.laws.literal_arrays.Goals as goal

pub returns : goal.returns
returns c = record {
  sound = λ limits items rest x values h. literal_array_found limits items rest x values h;
  complete = λ limits x values rest is within. literal_array_read limits x values rest is within;
  unique = λ one other values others rest last a b h. literal_array_one one other values others rest last a b h;
}
