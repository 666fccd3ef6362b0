use Rattle.std.proofs.Common.{◌≡◌, map}
use Rattle.std.specs.Str.Lines.{strip_carriage_return}
use Rattle.terminal_text.proofs.source.lines_of.Given as goal

abbrev pub invariant-loop-piece : goal.invariant-loop-piece
invariant-loop-piece l = l.lines.items ≡ map (λ p. strip_carriage_return p.now) l.yielded
