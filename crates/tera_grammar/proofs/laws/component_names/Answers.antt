use Rattle.tera_grammar.proofs.Readings.{path_found, path_read}
use Rattle.tera_grammar.proofs.expressions.Only.{path_one, path_end}
use Rattle.tera_grammar.proofs.laws.component_names.Goals as goal

pub returns : goal.returns
returns c = record {
  sound = λ items rest x h. path_found items rest x h;
  complete = λ x rest end. path_read x rest (path_end rest end);
  unique = λ one other rest last s t h. path_one one other rest last (path_end rest s) (path_end last t) h;
}
