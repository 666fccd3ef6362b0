use Rattle.std.proofs.Common.{◌≡◌, ◌+◌, ◌<◌, List, ℕ, true, ◌||◌, length, take, drop, ap, sym, subst, ◌∙◌, arith, IsUtf8}
use Rattle.std.specs.Str.{IsCharBoundary}
use Rattle.std.proofs.lemmas.List.{length-take-le}
use Rattle.std.proofs.lemmas.Str.{IsCharBoundary-from_rest, IsUtf8-drop}
use Rattle.tera_lexer.specs.grammar.Marks.{IsValid, begins}
use Rattle.tera_lexer.specs.reading.State.{Progress}
use Rattle.tera_lexer.specs.grammar.Trimming.{ends_dashed}
use Rattle.tera_lexer.specs.code.Markers.{marker_len}
use Rattle.tera_lexer.proofs.TagCuts.{marker_cuts, marker_found}
use Rattle.tera_lexer.proofs.Readings.{comment_step}
use Rattle.tera_lexer.proofs.lexer.scanner.Scanner.closed_comment.Goals as goal
use Rattle.tera_lexer.proofs.lexer.scanner.Scanner.closed_comment.Goals.{After-split_at}

valid : (c : After-split_at) → IsValid c.args.self.now.marks
valid c = subst IsValid (ap (λ (r : Progress). r.marks) c.self.view_is) c.self.invariant.marks

-- how long the start is, and what is after it
start_is : (c : After-split_at) → c.len.result + c.dash_len.result ≡ marker_len c.args.self.now.marks.comment_start c.args.dash
start_is c = λ i. (c.len.ensures ∙ ap (λ (r : Progress). length r.marks.comment_start) c.self.view_is) i + c.dash_len.ensures i

after_is : (c : After-split_at) → c.split_at.result.1.now ≡ drop (marker_len c.args.self.now.marks.comment_start c.args.dash) c.args.self.now.rest
after_is c = c.split_at.ensures.back ∙ (λ i. drop (start_is c i) ((c.as_bytes.ensures.value ∙ c.rest.ensures.rest) i))

-- the end marker lies in it
there : (c : After-split_at) → (c.args.len < length (drop (marker_len c.args.self.now.marks.comment_start c.args.dash) c.args.self.now.rest))
    × (begins c.args.self.now.marks.comment_end (drop c.args.len (drop (marker_len c.args.self.now.marks.comment_start c.args.dash) c.args.self.now.rest)) ≡ true)
there c = marker_found c.args.self.now.marks.comment_end (drop (marker_len c.args.self.now.marks.comment_start c.args.dash) c.args.self.now.rest) c.args.len c.requires.closes

pub split_at-requires-2 : goal.split_at-requires-2
split_at-requires-2 c =
    let at = (goal.at.split_at-requires-2 c).After-split_at in
    let within = (there at).0 in
    omega (arith, ap length (after_is at))

pub advance-requires : goal.advance-requires
advance-requires c =
    let at = (goal.at.advance-requires c).After-split_at in
    let m = c.args.self.now.marks in
    let rest = c.args.self.now.rest in
    let start = marker_len m.comment_start c.args.dash in
    let (within, here) = there at in
    let end_is : c.as_str-end.result.now ≡ m.comment_end = c.as_str-end.ensures.value ∙ ap (λ (r : Progress). r.marks.comment_end) c.self.view_is in
    let after_text : IsUtf8 (drop start rest) = IsUtf8-drop rest start (subst IsUtf8 c.rest.ensures.rest c.rest.utf8) c.requires.starts.1 in
    let cuts = marker_cuts (drop start rest) m.comment_end c.args.len after_text (subst IsUtf8 end_is c.as_str-end.utf8) (valid at).comment_end within here in
    let whole : start + (c.args.len + length m.comment_end) ≡ c.len.result + c.dash_len.result + (c.args.len + length c.as_str-end.result.now)
    = λ i. sym (start_is at) i + (c.args.len + length (sym end_is i)) in
    subst (IsCharBoundary rest) whole (IsCharBoundary-from_rest rest start (c.args.len + length m.comment_end) c.requires.starts.1.0 cuts.1)

pub returns : goal.returns
returns c =
    let at = (goal.at.returns c).After-split_at in
    let following : List ℕ = drop (marker_len c.args.self.now.marks.comment_start c.args.dash) c.args.self.now.rest in
    let end_is : c.as_str-end.result.now ≡ c.args.self.now.marks.comment_end = c.as_str-end.ensures.value ∙ ap (λ (r : Progress). r.marks.comment_end) c.self.view_is in
    let inside : c.split_at-2.result.0.now ≡ take c.args.len following = c.split_at-2.ensures.front ∙ ap (take c.args.len) (after_is at) in
    let dash : c.ends_with-dash_end.result ≡ ends_dashed (take c.args.len following) = c.ends_with-dash_end.ensures.value ∙ ap ends_dashed inside in
    let within = (there at).0 in
    let taken : length (take c.args.len following) ≡ c.args.len = length-take-le c.args.len following (omega arith) in
    let whole : c.len.result + c.dash_len.result + (c.args.len + length c.as_str-end.result.now) ≡ marker_len c.args.self.now.marks.comment_start c.args.dash + (c.args.len + length c.args.self.now.marks.comment_end)
    = λ i. start_is at i + (c.args.len + length (end_is i)) in
    let trim : c.self-2.inside.trim || c.ends_with-dash_end.result ≡ c.args.self.now.trim || ends_dashed (take c.args.len following)
    = λ i. ap (λ (r : Progress). r.trim) (c.self-2.view_is ∙ c.advance.ensures.state) i || dash i in
    comment_step c.args.self.now c.requires.going c.requires.outside (valid at) c.args.dash c.requires.starts _ c.advance.result.1 c.args.len _ c.requires.closes whole taken
    (λ i. record ((c.self-2.view_is ∙ c.advance.ensures.state) i) { trim = trim i }) c.advance.ensures.span c.advance.ensures.within
