use Rattle.std.proofs.Common.{◌≡◌, ◌++◌, replicate, string_bytes}
use Rattle.terminal_text.proofs.excerpt.push_repeated.Given as goal

abbrev pub invariant-loop-time : goal.invariant-loop-time
invariant-loop-time l = string_bytes l.to ≡ string_bytes l.initial.to ++ replicate l._time l.character
