use Rattle.std.proofs.Common.{length, []}
use Rattle.tera_outline.specs.Symbols.{marks}
use Rattle.tera_outline.proofs.Nesting.{are_nested}
use Rattle.tera_outline.proofs.Rising.{marks_ascend}
use Rattle.tera_outline.proofs.Stopping.{parts_sound}
use Rattle.tera_outline.proofs.laws.symbols_nest.Goals as goal

pub returns : goal.returns
returns c = λ text parts are.
    are_nested 0 (length text) [] (marks (length text) parts) (marks_ascend 0 (length text) parts (parts_sound text parts are))
