use Rattle.tera_layout.proofs.Bytes.{source_bytes}
use Rattle.tera_layout.proofs.Solids.{respaced_same}
use Rattle.tera_layout.proofs.Respaced.{respaced_alike}
use Rattle.tera_layout.proofs.laws.respaced.Goals as goal

pub returns : goal.returns
returns c = record {
  bytes = λ m ps source h. source_bytes m ps source h;
  others = λ m one other h. respaced_same m one other h;
  tokens = λ m one other h. respaced_alike m one other h;
}
