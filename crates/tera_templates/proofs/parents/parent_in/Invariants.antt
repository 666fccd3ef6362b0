use Rattle.std.proofs.Common.{◌≡◌}
use Rattle.tera_lexer.specs.code.Cursors.{size}
use Rattle.tera_templates.specs.Parents.{name_after}
use Rattle.tera_templates.specs.declared.parents.Before.TheVariants.{Other}
use Rattle.tera_templates.proofs.parents.parent_in.Given as goal

abbrev pub invariant-tokens : goal.invariant-tokens
invariant-tokens l = name_after l.before l.tokens.left ≡ name_after Other l.initial.tokens.left

abbrev pub decreases-tokens : goal.decreases-tokens
decreases-tokens l = size l.tokens.left
