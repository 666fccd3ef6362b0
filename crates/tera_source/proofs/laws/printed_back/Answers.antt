use Rattle.tera_source.proofs.Derived.{prints_back, each_prints_back, each_node_prints_back}
use Rattle.tera_source.proofs.laws.printed_back.Goals as goal

pub returns : goal.returns
returns c = record {
  each = λ m source limits l e sound is small some. prints_back m source limits l e sound is small some;
  of_sources = λ m source limits read d. each_prints_back m source limits read d;
  of_trees = λ m source limits read d. each_node_prints_back m source limits read d;
}
