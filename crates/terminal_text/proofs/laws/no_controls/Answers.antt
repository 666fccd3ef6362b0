use Rattle.terminal_text.proofs.Controls.{feeds, starts, controls, shown_safe}
use Rattle.terminal_text.proofs.laws.no_controls.Goals as goal

pub returns-clause-feeds : goal.returns-clause-feeds
returns-clause-feeds c = feeds

pub returns-clause-escapes : goal.returns-clause-escapes
returns-clause-escapes c = starts

pub returns-clause-others : goal.returns-clause-others
returns-clause-others c = controls

pub returns-clause-shown : goal.returns-clause-shown
returns-clause-shown c = shown_safe
