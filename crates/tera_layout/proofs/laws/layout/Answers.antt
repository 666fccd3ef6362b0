use Rattle.tera_layout.proofs.Respaced.{respaced_alike}
use Rattle.tera_layout.proofs.Layouts.{layout_of, laid_respaced, laid_settled, laid_twice, laid_out_is}
use Rattle.tera_layout.proofs.laws.layout.Goals as goal

pub returns : goal.returns
returns c = record {
  exists = λ m ps one h. layout_of m ps one h;
  read = λ m valid one other. laid_out_is m valid one other;
  kept = λ m valid steady one other h. laid_respaced m valid steady one other h;
  tokens = λ m valid steady one other h. respaced_alike m one other (laid_respaced m valid steady one other h);
  settled = λ m valid steady one other h. laid_settled m valid steady one other h;
  twice = λ m valid steady one other third h k. laid_twice m valid steady one other third h k;
}
