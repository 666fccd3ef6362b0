use Rattle.text_edits.specs.Lines.{lines_of}
use Rattle.text_edits.proofs.Division.{are_lines}
use Rattle.text_edits.proofs.Inverse.{exact_is}
use Rattle.text_edits.proofs.laws.exact.Goals as goal

pub returns : goal.returns
returns c e text p has = exact_is e (lines_of text) p.line p.character (are_lines text).ends has
