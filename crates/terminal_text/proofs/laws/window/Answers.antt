use Rattle.terminal_text.proofs.Windows.{is_window}
use Rattle.terminal_text.proofs.laws.window.Goals as goal

pub returns : goal.returns
returns c = is_window
