use Rattle.tera_lexer.specs.code.Cursors.{size}
use Rattle.tera_templates.proofs.tags.closed_from.Given as goal

abbrev pub decreases-loop-item : goal.decreases-loop-item
decreases-loop-item l = size l.tokens.left
