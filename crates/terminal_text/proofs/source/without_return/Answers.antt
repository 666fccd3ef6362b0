use Rattle.std.proofs.Common.{arith}
use Rattle.std.proofs.lemmas.Str.Pattern.{strip_suffix_char}
use Rattle.terminal_text.proofs.Ends.{stays}
use Rattle.terminal_text.proofs.source.without_return.Goals as goal

pub returns-in-None : goal.returns-in-None
returns-in-None c = stays c.args.text.now (rw c.in-None.is at (strip_suffix_char 13 c.args.text.now _ c.strip_suffix.ensures.cases (omega arith)))
