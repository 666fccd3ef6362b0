use Rattle.tera_source.proofs.Derived.{each_prints_back, each_node_prints_back}
use Rattle.tera_parser.proofs.laws.printed_back.Goals as goal

pub returns : goal.returns
returns c = record {
  of_sources = λ l m source read d. each_prints_back m source l read d;
  of_trees = λ l m source read d. each_node_prints_back m source l read d;
}
