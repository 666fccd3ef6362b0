use Rattle.tera_layout.proofs.Layouts.{laid_respaced}
use Rattle.tera_layout.proofs.Respaced.{respaced_alike}
use Rattle.tera_alike.proofs.Derivations.{derived_both, derived_same}
use Rattle.tera_alike.proofs.laws.layout.Goals as goal

pub returns : goal.returns
returns c = record {
  derived = λ limits m valid steady one other h.
      derived_both limits m m one other valid valid (respaced_alike m one other (laid_respaced m valid steady one other h));
  same = λ limits m valid steady one other x y h d e.
      derived_same limits m m one other valid valid (respaced_alike m one other (laid_respaced m valid steady one other h)) x y d e;
}
