use Rattle.std.proofs.Common.{◌≤◌, ◌+◌, ◌∙◌, take, length, ap, sym, subst, arith}
use Rattle.std.specs.Str.{IsCharBoundary}
use Rattle.tera_lexer.specs.reading.State.{Progress}
use Rattle.tera_lexer.proofs.Places.{moved_ahead, span_within, counters_fit}
use Rattle.tera_lexer.proofs.lexer.scanner.Scanner.peek.Goals as goal
use Rattle.tera_lexer.proofs.lexer.scanner.Scanner.peek.Goals.{After-split_at}

fits : (c : After-split_at) → (c.self.inside.place.line + length c.split_at.result.0.now ≤ 1 + length c.self.inside.source.now) × (c.self.inside.place.column + length c.split_at.result.0.now ≤ length c.self.inside.source.now)
fits c = counters_fit c.self.inside.source.now c.self.inside.place c.split_at.result.0.now c.args.n c.self.invariant.cut c.self.invariant.place (c.split_at.ensures.front ∙ ap (take c.args.n) c.self.invariant.following)

pub after-requires-clause-line : goal.after-requires-clause-line
after-requires-clause-line c = let f = fits (goal.at.after-requires-clause-line c).After-split_at in omega arith

pub after-requires-clause-column : goal.after-requires-clause-column
after-requires-clause-column c = let f = fits (goal.at.after-requires-clause-column c).After-split_at in omega arith

pub returns-clause-place : goal.returns-clause-place
returns-clause-place c =
    rw (← c.self.view_is) (moved_ahead c.self.inside.source.now c.self.inside.place c.after.result c.split_at.result.0.now c.args.n c.self.invariant.place (c.split_at.ensures.front ∙ ap (take c.args.n) c.self.invariant.following) c.after.ensures)

pub returns-clause-within : goal.returns-clause-within
returns-clause-within c =
    rw (← c.self.view_is) (span_within c.self.inside.source.now c.self.inside.place.byte c.args.n c.self.invariant.cut (subst (λ (r : Progress). IsCharBoundary r.rest c.args.n) (sym c.self.view_is) c.requires))
