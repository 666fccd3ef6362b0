use Rattle.std.proofs.Common.{◌≡◌, ℕ, List, ◌++◌, length, take, drop, ap, sym, subst, refl, ◌∙◌, arith}
use Rattle.std.specs.Str.{IsCharBoundary}
use Rattle.std.proofs.lemmas.List.{length-take-le}
use Rattle.tera_lexer.specs.grammar.Place.{place_after, joined, span_of, IsWithin}
use Rattle.tera_lexer.specs.code.Counting.{ArePrintable}
use Rattle.tera_lexer.specs.reading.State.{Progress}
use Rattle.tera_lexer.proofs.Places.{Advanced, place_advances, moved_ahead, counters_fit, span_within}
use Rattle.tera_lexer.proofs.lexer.scanner.Scanner.advance_plain.Goals as goal
use Rattle.tera_lexer.proofs.lexer.scanner.Scanner.advance_plain.Goals.{After-along-end}

len_is : (bytes : List ℕ) (n : ℕ) → IsCharBoundary bytes n → n ≡ length (take n bytes)
len_is bytes n cut = sym (length-take-le n bytes cut.0)

pub along-end-requires-clause-column : goal.along-end-requires-clause-column
along-end-requires-clause-column c =
    let left : List ℕ = drop c.self.inside.place.byte c.self.inside.source.now in
    let cut = subst (λ (r : Progress). IsCharBoundary r.rest c.args.n) (sym c.self.view_is) c.requires.cut in
    let fits = counters_fit c.self.inside.source.now c.self.inside.place (take c.args.n left) c.args.n c.self.invariant.cut c.self.invariant.place refl in
    omega (arith, len_is left c.args.n cut, fits.1)

-- where the next bytes may be cut, and the place after them
cut : (c : After-along-end) → IsCharBoundary (drop c.self.inside.place.byte c.self.inside.source.now) c.args.n
cut c = subst (λ (r : Progress). IsCharBoundary r.rest c.args.n) (sym c.self.view_is) c.requires.cut

end_is : (c : After-along-end) → c.along-end.result ≡ place_after (take c.self.inside.place.byte c.self.inside.source.now ++ take c.args.n (drop c.self.inside.place.byte c.self.inside.source.now))
end_is c =
    let left : List ℕ = drop c.self.inside.place.byte c.self.inside.source.now in
    let printable : ArePrintable (take c.args.n left) = subst (λ (r : Progress). ArePrintable (take c.args.n r.rest)) (sym c.self.view_is) c.requires.printable in
    moved_ahead c.self.inside.source.now c.self.inside.place c.along-end.result (take c.args.n left) c.args.n c.self.invariant.place refl (c.along-end.ensures (take c.args.n left) (len_is left c.args.n (cut c)) printable)

advanced : (c : After-along-end) → Advanced c.self.inside.source.now c.self.inside.place c.along-end.result c.args.n
advanced c = place_advances c.self.inside.source.now c.self.inside.place c.along-end.result c.args.n c.self.invariant.cut (cut c) (end_is c)

pub invariant_of-self : goal.invariant_of-self
invariant_of-self c =
    let a = advanced (goal.at.invariant_of-self c).After-along-end in
    record { following = c.split_at.ensures.back ∙ ap (drop c.args.n) c.self.invariant.following ∙ sym a.rest; cut = a.cut; place = a.place; marks = c.self.invariant.marks; text = c.self.invariant.text; pairs = c.self.invariant.pairs; ahead = c.self.invariant.ahead }

pub returns-clause-state : goal.returns-clause-state
returns-clause-state c =
    let a = advanced (goal.at.returns-clause-state c).After-along-end in
    let front = a.front in
    let rest = a.rest in
    rw (← c.self.view_is) cc

pub returns-clause-span : goal.returns-clause-span
returns-clause-span c =
    let end = end_is (goal.at.returns-clause-span c).After-along-end in
    rw (← c.self.view_is) (c.to-span.ensures ∙ (λ i. joined (c.self.invariant.place i) (end i)))

pub returns-clause-within : goal.returns-clause-within
returns-clause-within c =
    let at = (goal.at.returns-clause-within c).After-along-end in
    let front : List ℕ = take c.self.inside.place.byte c.self.inside.source.now in
    let left : List ℕ = drop c.self.inside.place.byte c.self.inside.source.now in
    let span : c.to-span.result ≡ span_of front (take c.args.n left) = c.to-span.ensures ∙ (λ i. joined (c.self.invariant.place i) (end_is at i)) in
    rw (← c.self.view_is) (subst (IsWithin (front ++ left)) (sym span) (span_within c.self.inside.source.now c.self.inside.place.byte c.args.n c.self.invariant.cut (cut at)))
