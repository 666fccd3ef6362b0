use Rattle.std.proofs.Common.{◌≡◌, ◌++◌, drop, map}
use Rattle.std.specs.List.{flat_map}
use Rattle.tera_outline.specs.Signatures.{parameter_view}
use Rattle.tera_answers.specs.Signatures.{parameter_tokens}
use Rattle.tera_answers.proofs.signatures.put_parameters.Given as goal

abbrev pub invariant-loop-parameter : goal.invariant-loop-parameter
invariant-loop-parameter l = record {
  tokens : l.initial.out.tokens ++ flat_map (parameter_tokens l.placed) (map parameter_view l.parameters) ≡ l.out.tokens ++ flat_map (parameter_tokens l.placed) (map parameter_view (drop l.parameter-index l.parameters));
  before : l.out.before ≡ l.initial.out.before;
}
