use Rattle.std.proofs.Common.{◌≡◌, ◌++◌, drop}
use Rattle.std.specs.List.{flat_map}
use Rattle.tera_answers.specs.SemanticTokens.{number_tokens}
use Rattle.tera_answers.proofs.semantic_tokens.put_numbers.Given as goal

abbrev pub invariant-loop-number : goal.invariant-loop-number
invariant-loop-number l = record {
  tokens : l.initial.out.tokens ++ flat_map number_tokens l.numbers ≡ l.out.tokens ++ flat_map number_tokens (drop l.number-index l.numbers);
  before : l.out.before ≡ l.initial.out.before;
}
