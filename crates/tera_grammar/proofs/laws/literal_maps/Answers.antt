use Rattle.tera_grammar.proofs.Readings.{literal_map_found, literal_map_read}
use Rattle.tera_grammar.proofs.expressions.Only.{literal_map_one}
use Rattle.tera_grammar.proofs.laws.literal_maps.Goals as goal

pub returns : goal.returns
returns c = record {
  sound = λ limits items rest x pairs h. literal_map_found limits items rest x pairs h;
  complete = λ limits x pairs rest is within. literal_map_read limits x pairs rest is within;
  unique = λ one other pairs others rest last a b h. literal_map_one one other pairs others rest last a b h;
}
