use Rattle.std.proofs.Common.{◌≡◌, ◌++◌, reverse, vec_len}
use Rattle.tera_answers.specs.Outlines.{all_ended}
use Rattle.tera_answers.proofs.symbols.end_all.Given as goal

abbrev pub invariant-open : goal.invariant-open
invariant-open l = record {
  tokens : l.initial.out.tokens ++ all_ended (reverse l.initial.open.items) ≡ l.out.tokens ++ all_ended (reverse l.open.items);
  before : l.out.before ≡ l.initial.out.before;
}

abbrev pub decreases-open : goal.decreases-open
decreases-open l = vec_len l.open
