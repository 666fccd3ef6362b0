use Rattle.std.proofs.lemmas.Iterator.Consumers.{map_from_collect}
use Rattle.terminal_text.proofs.SplitLines.{lines_come}
use Rattle.terminal_text.proofs.edits.lines_of.Goals as goal

pub returns : goal.returns
returns c =
    map_from_collect _ c.collect.ensures.ran
    (lines_come c.args.text.now c.split_inclusive.ensures.text c.split_inclusive.ensures.pattern)
