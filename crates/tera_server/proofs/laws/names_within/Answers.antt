use Rattle.std.proofs.Common.{length, get_or}
use Rattle.tera_outline.specs.Symbols.{outline_of}
use Rattle.tera_answers.proofs.SelectionLemmas.{selectable}
use Rattle.tera_server.proofs.laws.names_within.Goals as goal

pub returns : goal.returns
returns c = λ e text parts are k d within. selectable e text (get_or (outline_of (length text) parts) k d) (c.symbols_in_text.ensures text parts are k d within)
