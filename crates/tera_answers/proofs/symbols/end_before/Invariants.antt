use Rattle.std.proofs.Common.{◌≡◌, ◌++◌, reverse, vec_len}
use Rattle.tera_answers.specs.Outlines.{end_tokens, open_at}
use Rattle.tera_answers.proofs.symbols.end_before.Given as goal

abbrev pub invariant-open : goal.invariant-open
invariant-open l = record {
  tokens : l.initial.out.tokens ++ end_tokens l.byte (reverse l.initial.open.items) ≡ l.out.tokens ++ end_tokens l.byte (reverse l.open.items);
  stay : open_at l.byte (reverse l.initial.open.items) ≡ open_at l.byte (reverse l.open.items);
  before : l.out.before ≡ l.initial.out.before;
}

abbrev pub decreases-open : goal.decreases-open
decreases-open l = vec_len l.open
