use Rattle.std.proofs.Common.{◌≡◌, drop}
use Rattle.std.specs.List.{list_all}
use Rattle.line_text.specs.Line.{is_printable}
use Rattle.line_text.proofs.lines.is_printable.Given as goal

abbrev pub invariant-loop-byte : goal.invariant-loop-byte
invariant-loop-byte l = list_all is_printable (drop l.byte-index l.bytes) ≡ list_all is_printable l.text
