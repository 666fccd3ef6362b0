use Rattle.terminal_text.proofs.excerpt.Window.of.Goals as goal

pub returns : goal.returns
returns c = cc
