use Rattle.std.proofs.Common.{◌≡◌, ◌<◌, ◌≤◌, ◌-◌, ℕ, false, None, length, drop}
use Rattle.tera_lexer.specs.grammar.Raw.{endraw_word}
use Rattle.tera_lexer.specs.reading.Front.{at_dash, word_tag_at, raw_end}
use Rattle.tera_lexer.specs.code.Markers.{further_end}
use Rattle.tera_lexer.proofs.lexer.markers.end_after.Given as goal

-- the end is looked for in what is left, and no tag without a dash is there before the place that is kept
abbrev pub invariant-loop-len : goal.invariant-loop-len
invariant-loop-len l = record {
  within : l.from ≤ length l.bytes;
  reached : l.missed ≤ length l.bytes;
  left : raw_end l.start l.end false l.bytes ≡ further_end l.from (raw_end l.start l.end false (drop l.from l.bytes));
  none : (k : ℕ) → l.from < k → k ≤ l.missed → at_dash (drop k l.bytes) ≡ false → word_tag_at endraw_word l.end (drop k l.bytes) ≡ None;
}

abbrev pub decreases-loop-len : goal.decreases-loop-len
decreases-loop-len l = length l.bytes - l.from
