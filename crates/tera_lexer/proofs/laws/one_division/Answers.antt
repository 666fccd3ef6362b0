use Rattle.std.proofs.Common.{suc, length, arith}
use Rattle.tera_lexer.specs.reading.Front.{division_of}
use Rattle.tera_lexer.proofs.Divisions.{division_sound, division_one}
use Rattle.tera_lexer.proofs.laws.one_division.Goals as goal

pub returns : goal.returns
returns c = record {
  exists = λ m valid source. ((division_of m source).0, (division_of m source).1, division_sound m valid (suc (length source)) source (omega arith));
  unique = λ m valid one other end last source a b. division_one m valid one other end last source a b;
}
