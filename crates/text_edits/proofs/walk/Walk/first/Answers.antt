use Rattle.std.proofs.Common.{sym, arith}
use Rattle.text_edits.proofs.Steps.{starts_at}
use Rattle.text_edits.proofs.walk.Walk.first.Goals as goal

pub returns : goal.returns
returns c e text = (omega arith, sym (starts_at e text))
