use Rattle.std.proofs.Common.{◌≡◌, ◌++◌, drop, map}
use Rattle.std.specs.List.{flat_map}
use Rattle.tera_answers.specs.SemanticTokens.{placed, data_of, data_from, number_tokens}
use Rattle.tera_answers.proofs.TokenLemmas.{AreReady}
use Rattle.tera_answers.proofs.semantic_tokens.put_data.Given as goal

abbrev pub invariant-loop-token : goal.invariant-loop-token
invariant-loop-token l = record {
  ready : AreReady l.encoding l.text l.last l.walk (drop l.token-index l.tokens);
  tokens : l.initial.out.tokens ++ flat_map number_tokens (data_of l.encoding l.text l.tokens)
      ≡ l.out.tokens ++ flat_map number_tokens (data_from l.last (map (placed l.encoding l.text) (drop l.token-index l.tokens)));
  before : l.out.before ≡ l.initial.out.before;
}
