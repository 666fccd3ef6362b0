use Rattle.std.proofs.Common.{◌≡◌, ◌++◌}
use Rattle.tera_lexer.specs.code.Cursors.{size}
use Rattle.tera_templates.specs.Ignores.{ignores_in, ignores_view}
use Rattle.tera_templates.proofs.ignores.ignores_in.Given as goal

abbrev pub invariant-tokens : goal.invariant-tokens
invariant-tokens l =
    ignores_view l.ignores.items ++ ignores_in l.marks.start.now l.marks.end.now l.text l.tokens.left
    ≡ ignores_in l.marks.start.now l.marks.end.now l.text l.initial.tokens.left

abbrev pub decreases-tokens : goal.decreases-tokens
decreases-tokens l = size l.tokens.left
