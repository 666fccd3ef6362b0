use Rattle.std.proofs.Common.{◌∙◌, ap}
use Rattle.std.specs.List.{concat}
use Rattle.terminal_text.specs.Edits.{lines_of}
use Rattle.terminal_text.proofs.Sides.{old_sides, new_sides, lines_are}
use Rattle.terminal_text.proofs.laws.both_sides.Goals as goal

pub returns-clause-old : goal.returns-clause-old
returns-clause-old c old new = ap concat (old_sides (lines_of old) (lines_of new)) ∙ lines_are old

pub returns-clause-new : goal.returns-clause-new
returns-clause-new c old new = ap concat (new_sides (lines_of old) (lines_of new)) ∙ lines_are new
