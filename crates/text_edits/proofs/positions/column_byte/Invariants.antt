use Rattle.std.proofs.Common.{◌≡◌, ◌+◌, drop}
use Rattle.text_edits.proofs.Columns.{column}
use Rattle.text_edits.proofs.positions.column_byte.Given as goal

-- what was passed, and what is still to be passed, are all
abbrev pub invariant-loop-at : goal.invariant-loop-at
invariant-loop-at l = l.at + column l.encoding (drop l.at l.text) l.left ≡ column l.encoding l.text l.fn.character
