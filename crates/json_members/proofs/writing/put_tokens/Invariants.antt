use Rattle.std.proofs.Common.{◌≡◌, ◌++◌, drop, map}
use Rattle.std.specs.List.{AllByRecursion}
use Rattle.json.specs.Print.{IsPrintable}
use Rattle.json.specs.Reads.{token_of}
use Rattle.json_members.proofs.writing.put_tokens.Given as goal

abbrev pub invariant-loop-token : goal.invariant-loop-token
invariant-loop-token l = record {
  tokens : l.initial.out.tokens ++ map token_of l.tokens ≡ l.out.tokens ++ map token_of (drop l.token-index l.tokens);
  before : l.out.before ≡ l.initial.out.before;
  printable : AllByRecursion (λ t. IsPrintable (token_of t)) (drop l.token-index l.tokens);
}
