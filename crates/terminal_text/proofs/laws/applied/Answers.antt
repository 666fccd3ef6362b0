use Rattle.std.proofs.Common.{◌∙◌, [], ap}
use Rattle.std.specs.List.{concat}
use Rattle.terminal_text.specs.Edits.{lines_of, edits_of}
use Rattle.terminal_text.proofs.Sides.{new_sides, lines_are}
use Rattle.terminal_text.proofs.ShownEdits.{taken_sides}
use Rattle.terminal_text.proofs.laws.applied.Goals as goal

pub returns : goal.returns
returns c old new =
    ap concat (taken_sides [] (edits_of (lines_of old) (lines_of new)) ∙ new_sides (lines_of old) (lines_of new)) ∙ lines_are new
