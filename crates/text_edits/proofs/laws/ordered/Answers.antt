use Rattle.text_edits.specs.Lines.{lines_of}
use Rattle.text_edits.proofs.Order.{bytes_order, positions_order}
use Rattle.text_edits.proofs.laws.ordered.Goals as goal

pub returns-clause-bytes : goal.returns-clause-bytes
returns-clause-bytes c e text p q h = bytes_order e (lines_of text) p.line p.character q.line q.character h

pub returns-clause-positions : goal.returns-clause-positions
returns-clause-positions c e text b d h = positions_order e (lines_of text) b d h
