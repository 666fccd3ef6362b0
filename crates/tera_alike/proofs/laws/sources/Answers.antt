use Rattle.tera_alike.proofs.Derivations.{derived_both, derived_same}
use Rattle.tera_alike.proofs.laws.sources.Goals as goal

pub returns : goal.returns
returns c = record {
  derived = λ limits m n one other valid right alike. derived_both limits m n one other valid right alike;
  same = λ limits m n one other valid right alike x y d e. derived_same limits m n one other valid right alike x y d e;
}
