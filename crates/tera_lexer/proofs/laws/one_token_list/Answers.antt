use Rattle.std.proofs.Common.{[], false}
use Rattle.tera_lexer.specs.reading.Left.{left_outside}
use Rattle.tera_lexer.proofs.Lefts.{tokens_one, tokens_sound}
use Rattle.tera_lexer.proofs.laws.one_token_list.Goals as goal

pub returns : goal.returns
returns c = record {
  exists = λ m valid source. (left_outside m [] false source, tokens_sound m valid source);
  unique = λ m valid source one other a b. tokens_one m valid source one other a b;
}
