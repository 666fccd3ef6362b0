use Rattle.tera_lexer.proofs.Tilings.{tokens_tile}
use Rattle.tera_lexer.proofs.TokensInLemmas.{each_sound}
use Rattle.tera_lexer.proofs.laws.tokens_tile.Goals as goal

pub returns : goal.returns
returns c = record {
  tile = λ m valid source items are. tokens_tile m valid source items are;
  stand = λ m valid texts source text items are. each_sound m valid texts source text items are;
}
