use Rattle.std.proofs.Common.{◌++◌, take, drop, ap, sym, subst, ◌∙◌}
use Rattle.std.specs.Str.{IsCharBoundary}
use Rattle.tera_lexer.specs.grammar.Place.{place_after, joined}
use Rattle.tera_lexer.specs.reading.State.{Progress}
use Rattle.tera_lexer.proofs.Places.{Advanced, place_advances}
use Rattle.tera_lexer.proofs.lexer.scanner.Scanner.advance.Goals as goal
use Rattle.tera_lexer.proofs.lexer.scanner.Scanner.advance.Goals.{After-peek}

advanced : (c : After-peek) → Advanced c.self.inside.source.now c.self.inside.place c.peek.result.1 c.args.n
advanced c =
    place_advances c.self.inside.source.now c.self.inside.place c.peek.result.1 c.args.n c.self.invariant.cut
    (subst (λ (r : Progress). IsCharBoundary r.rest c.args.n) (sym c.self.view_is) c.requires)
    (c.peek.ensures.place ∙ ap (λ (r : Progress). place_after (r.front ++ take c.args.n r.rest)) (sym c.self.view_is))

pub invariant_of-self : goal.invariant_of-self
invariant_of-self c =
    let a = advanced (goal.at.invariant_of-self c).After-peek in
    record { following = c.split_at.ensures.back ∙ ap (drop c.args.n) c.self.invariant.following ∙ sym a.rest; cut = a.cut; place = a.place; marks = c.self.invariant.marks; text = c.self.invariant.text; pairs = c.self.invariant.pairs; ahead = c.self.invariant.ahead }

pub returns-clause-state : goal.returns-clause-state
returns-clause-state c =
    let a = advanced (goal.at.returns-clause-state c).After-peek in
    let front = a.front in
    let rest = a.rest in
    rw (← c.self.view_is) cc

pub returns-clause-span : goal.returns-clause-span
returns-clause-span c =
    c.to-span.ensures ∙ (λ i. joined ((c.self.invariant.place ∙ ap (λ (r : Progress). place_after r.front) c.self.view_is) i) (c.peek.ensures.place i))
