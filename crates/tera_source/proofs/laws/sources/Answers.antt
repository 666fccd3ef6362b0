use Rattle.tera_source.proofs.WrittenOutputs.{source_bound}
use Rattle.tera_source.proofs.Backs.{source_output}
use Rattle.tera_source.proofs.ReadBack.{stands_within}
use Rattle.tera_source.proofs.laws.sources.Goals as goal

pub returns : goal.returns
returns c = record {
  bound = λ l e is. source_bound l e is;
  within = λ m source limits l e sound is small. stands_within m source limits l e sound is small;
  same = λ l e is. source_output l e is;
}
