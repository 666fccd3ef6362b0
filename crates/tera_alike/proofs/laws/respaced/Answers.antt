use Rattle.tera_layout.proofs.Respaced.{respaced_alike}
use Rattle.tera_alike.proofs.Derivations.{derived_both, derived_same}
use Rattle.tera_alike.proofs.laws.respaced.Goals as goal

pub returns : goal.returns
returns c = record {
  derived = λ limits m one other valid h. derived_both limits m m one other valid valid (respaced_alike m one other h);
  same = λ limits m one other valid h x y d e.
      derived_same limits m m one other valid valid (respaced_alike m one other h) x y d e;
}
