use Rattle.std.proofs.Common.{◌≡◌, ◌+◌, List, ℕ, Some, length, take, drop, ap, sym, subst, ◌∙◌, false, ◌||◌}
use Rattle.std.specs.Str.{IsCharBoundary}
use Rattle.std.proofs.lemmas.Str.{IsCharBoundary-from_rest}
use Rattle.tera_lexer.specs.grammar.Marks.{Marks, IsValid, marks_of}
use Rattle.tera_lexer.specs.grammar.Trimming.{trimmed}
use Rattle.tera_lexer.specs.reading.State.{Progress}
use Rattle.tera_lexer.specs.reading.Front.{raw_end}
use Rattle.tera_lexer.specs.reading.Left.{starts_dashed}
use Rattle.tera_lexer.specs.code.Steps.{IsPart}
use Rattle.tera_lexer.specs.code.Markers.{marker_len, IsRawEndOf, IsAhead}
use Rattle.tera_lexer.proofs.Readings.{body_at, raw_step}
use Rattle.tera_lexer.proofs.lexer.scanner.Scanner.closed_raw.Goals as goal
use Rattle.tera_lexer.proofs.lexer.scanner.Scanner.closed_raw.Goals.{After-rest, After-split_at-3, Joined-opening, then-opening, else-opening}

-- how long the start is, and the whole piece
start_is : (c : After-rest) → c.len.result + c.dash_len.result ≡ marker_len c.args.self.now.marks.block_start c.args.dash
start_is c = λ i. (c.len.ensures ∙ ap (λ (r : Progress). length r.marks.block_start) c.self.view_is) i + c.dash_len.ensures i

whole_is : (c : After-rest) → c.len.result + c.dash_len.result + c.args.opening.len + (c.args.end.0 + (c.len-2.result + c.args.end.1.len))
    ≡ marker_len c.args.self.now.marks.block_start c.args.dash + c.args.opening.len + (c.args.end.0 + (length c.args.self.now.marks.block_start + c.args.end.1.len))
whole_is c =
    λ i. start_is c i + c.args.opening.len + (c.args.end.0 + ((c.len-2.ensures ∙ ap (λ (r : Progress). length r.marks.block_start) c.self.view_is) i + c.args.end.1.len))

-- it may be cut after the closing tag
whole_cut : (c : After-rest) → IsCharBoundary c.args.self.now.rest (c.len.result + c.dash_len.result + c.args.opening.len + (c.args.end.0 + (c.len-2.result + c.args.end.1.len)))
whole_cut c =
    let m = c.args.self.now.marks in
    let begin : ℕ = marker_len m.block_start c.args.dash + c.args.opening.len in
    let following : ℕ = c.args.end.0 + (length m.block_start + c.args.end.1.len) in
    subst (IsCharBoundary c.args.self.now.rest) (sym (whole_is c)) (IsCharBoundary-from_rest c.args.self.now.rest begin following c.requires.opens.3.0 c.requires.closes.1.1)

pub split_at-requires-3 : goal.split_at-requires-3
split_at-requires-3 c =
    let at = (goal.at.split_at-requires-3 c).After-rest in
    subst (λ (l : List ℕ). IsCharBoundary l (c.len.result + c.dash_len.result + c.args.opening.len + (c.args.end.0 + (c.len-2.result + c.args.end.1.len)))) (sym c.rest-2.ensures.rest) (whole_cut at)

pub advance-requires : goal.advance-requires
advance-requires c = whole_cut (goal.at.advance-requires c).After-rest

-- what trims the start of the body
start_trims : (c : Joined-opening) → c.if-opening.trim_start ≡ c.args.opening.dash_out || c.args.self.now.trim
start_trims c =
    let trim : c.self.inside.trim ≡ c.args.self.now.trim = ap (λ (r : Progress). r.trim) c.self.view_is in
    elim c.if-opening.branch [
      | then-opening w ↦ w.trim_start-is ∙ w.if-opening.true ∙ ap (λ b. b || c.args.self.now.trim) (sym w.if-opening.true)
      | else-opening w ↦ w.trim_start-is ∙ trim ∙ ap (λ b. b || c.args.self.now.trim) (sym w.if-opening.false)
    ]

-- after it is what was looked at
after_is : (c : After-split_at-3) → c.split_at-3.result.1.now ≡ drop (c.len.result + c.dash_len.result + c.args.opening.len + (c.args.end.0 + (c.len-2.result + c.args.end.1.len))) c.args.self.now.rest
after_is c = c.split_at-3.ensures.back ∙ ap (drop (c.len.result + c.dash_len.result + c.args.opening.len + (c.args.end.0 + (c.len-2.result + c.args.end.1.len)))) c.rest-2.ensures.rest

pub keep-requires : goal.keep-requires
keep-requires c =
    let at = (goal.at.keep-requires c).After-split_at-3 in
    let n : ℕ = c.len.result + c.dash_len.result + c.args.opening.len + (c.args.end.0 + (c.len-2.result + c.args.end.1.len)) in
    subst (λ (r : Progress). IsAhead r.marks r.rest c.look_ahead-trim_end.result.1) (sym (c.self-2.view_is ∙ c.advance.ensures.state))
    (subst (λ (m : Marks). IsAhead m (drop n c.args.self.now.rest) c.look_ahead-trim_end.result.1) (ap (λ (r : Progress). r.marks) c.self.view_is)
    (subst (λ (l : List ℕ). IsAhead (marks_of c.self.inside.delimiters) l c.look_ahead-trim_end.result.1) (after_is at) c.look_ahead-trim_end.ensures.ahead))

pub returns : goal.returns
returns c =
    let at = goal.at.returns c in
    let m = c.args.self.now.marks in
    let start = start_is at.After-rest in
    let n : ℕ = c.len.result + c.dash_len.result + c.args.opening.len + (c.args.end.0 + (c.len-2.result + c.args.end.1.len)) in
    let valid : IsValid m = subst IsValid (ap (λ (r : Progress). r.marks) c.self.view_is) c.self.invariant.marks in
    let marks : marks_of c.self.inside.delimiters ≡ m = ap (λ (r : Progress). r.marks) c.self.view_is in
    let begins = body_at c.args.self.now c.requires.going c.requires.outside valid c.args.dash c.requires.starts c.args.opening c.requires.opens in
    let ends = subst (λ (l : List ℕ). IsRawEndOf m.block_end (Some (c.args.end.0, c.args.end.1)) (raw_end m.block_start m.block_end false l)) begins c.requires.closes.0 in
    let inside : c.split_at.result.1.now ≡ c.requires.opens.1 = c.split_at.ensures.back ∙ (λ i. drop (start i + c.args.opening.len) (c.rest.ensures.rest i)) ∙ begins in
    let body : c.split_at-2.result.0.now ≡ take c.args.end.0 c.requires.opens.1 = c.split_at-2.ensures.front ∙ ap (take c.args.end.0) inside in
    let following = after_is at.After-split_at-3 in
    let end_trims : c.look_ahead-trim_end.result.0 ≡ c.args.end.1.dash_in || starts_dashed m (drop n c.args.self.now.rest)
    = c.look_ahead-trim_end.ensures.trims ∙ (λ i. c.args.end.1.dash_in || starts_dashed (marks i) (following i)) in
    let text = c.trimmed-text.ensures.value ∙ (λ i. trimmed (start_trims at.Joined-opening i) (end_trims i) (body i)) in
    raw_step c.args.self.now c.requires.going c.requires.outside valid c.args.dash c.requires.starts c.args.opening c.requires.opens _ c.trimmed-text.result c.advance.result.1 c.args.end.0 n c.args.end.1 ends (whole_is at.After-rest) text
    (subst (IsPart c.trimmed-text.result.now) body c.trimmed-text.ensures.part) (c.keep.ensures ∙ (λ i. record ((c.self-2.view_is ∙ c.advance.ensures.state) i) { trim = c.args.end.1.dash_out })) c.advance.ensures.span c.advance.ensures.within
