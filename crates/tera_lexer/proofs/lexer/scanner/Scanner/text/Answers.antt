use Rattle.std.proofs.Common.{◌≡◌, ℕ, List, take, drop, subst, sym, ap, ◌∙◌, false}
use Rattle.std.proofs.lemmas.List.{length-take-le}
use Rattle.tera_lexer.specs.grammar.Marks.{Marks, marks_of}
use Rattle.tera_lexer.specs.grammar.Trimming.{trimmed}
use Rattle.tera_lexer.specs.reading.State.{Progress}
use Rattle.tera_lexer.specs.reading.Left.{starts_dashed}
use Rattle.tera_lexer.specs.code.Steps.{IsPart}
use Rattle.tera_lexer.specs.code.Markers.{IsTextLen, IsAhead}
use Rattle.tera_lexer.proofs.Readings.{outside_text}
use Rattle.tera_lexer.proofs.lexer.scanner.Scanner.text.Goals as goal
use Rattle.tera_lexer.proofs.lexer.scanner.Scanner.text.Goals.{After-advance}

marks_is : (c : After-advance) → marks_of c.self.inside.delimiters ≡ c.args.self.now.marks
marks_is c = ap (λ (r : Progress). r.marks) c.self.view_is

after_is : (c : After-advance) → c.split_at.result.1.now ≡ drop c.text_len-len.result c.args.self.now.rest
after_is c = c.split_at.ensures.back ∙ ap (drop c.text_len-len.result) c.rest-rest.ensures.rest

length_of : (c : After-advance) → IsTextLen c.args.self.now.marks c.args.self.now.rest c.text_len-len.result
length_of c =
    subst (λ (m : Marks). IsTextLen m c.args.self.now.rest c.text_len-len.result) (marks_is c)
    (subst (λ (l : List ℕ). IsTextLen (marks_of c.self.inside.delimiters) l c.text_len-len.result) c.rest-rest.ensures.rest (c.text_len-len.ensures (marks_of c.self.inside.delimiters) c.self.invariant.pairs))

pub keep-requires : goal.keep-requires
keep-requires c =
    let at = (goal.at.keep-requires c).After-advance in
    subst (λ (r : Progress). IsAhead r.marks r.rest c.look_ahead-trim_end.result.1) (sym (c.self-2.view_is ∙ c.advance.ensures.state))
    (subst (λ (m : Marks). IsAhead m (drop c.text_len-len.result c.args.self.now.rest) c.look_ahead-trim_end.result.1) (marks_is at)
    (subst (λ (l : List ℕ). IsAhead (marks_of c.self.inside.delimiters) l c.look_ahead-trim_end.result.1) (after_is at) c.look_ahead-trim_end.ensures.ahead))

pub returns : goal.returns
returns c =
    let at = (goal.at.returns c).After-advance in
    let n = c.text_len-len.result in
    let marks = marks_is at in
    let len = length_of at in
    let front : c.split_at.result.0.now ≡ take n c.args.self.now.rest = c.split_at.ensures.front ∙ ap (take n) c.rest-rest.ensures.rest in
    let text : c.trimmed-text.result.now ≡ trimmed c.args.self.now.trim (starts_dashed c.args.self.now.marks (drop n c.args.self.now.rest)) (take n c.args.self.now.rest)
    = c.trimmed-text.ensures.value ∙ (λ i. trimmed (ap (λ (r : Progress). r.trim) c.self.view_is i) ((c.look_ahead-trim_end.ensures.trims ∙ (λ j. starts_dashed (marks j) (after_is at j))) i) (front i)) in
    outside_text c.args.self.now c.requires.going c.requires.outside c.rest-rest.ensures.valid _ c.trimmed-text.result c.advance.result.1 n c.requires.some c.requires.text len.plain len.stops
    (c.keep.ensures ∙ (λ i. record ((c.self-2.view_is ∙ c.advance.ensures.state) i) { trim = false })) text (subst (IsPart c.trimmed-text.result.now) front c.trimmed-text.ensures.part) (length-take-le n c.args.self.now.rest len.cut.0) c.advance.ensures.span c.advance.ensures.within
