use Rattle.tera_source.proofs.ReadBack.{reads_back}
use Rattle.tera_source.proofs.laws.read_back.Goals as goal

pub returns : goal.returns
returns c = λ m source limits l e sound is small read rest h stop. reads_back m source limits l e sound is small read rest h stop
