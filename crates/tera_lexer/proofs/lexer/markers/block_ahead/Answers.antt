use Rattle.std.proofs.Common.{◌≡◌, ◌+◌, List, ℕ, Option, Some, None, true, false, ap, sym, subst, refl, ◌∙◌, drop, IsUtf8}
use Rattle.std.proofs.lemmas.List.{drop-drop}
use Rattle.tera_lexer.specs.grammar.Marks.{marks_of}
use Rattle.tera_lexer.specs.grammar.Raw.{raw_word}
use Rattle.tera_lexer.specs.reading.Front.{word_tag_at, raw_end}
use Rattle.tera_lexer.specs.reading.Left.{starts_dashed}
use Rattle.tera_lexer.specs.declared.lexer.markers.WordTag.{WordTag}
use Rattle.tera_lexer.specs.code.Markers.{marker_len, IsWordTagOf, IsRawEndOf, IsRawCut, OpensBy, is_block_piece}
use Rattle.tera_lexer.proofs.Neighbours.{block_dashed, closes_here, opens_nothing}
use Rattle.tera_lexer.proofs.TagCuts.{opens_by, opens_cut}
use Rattle.tera_lexer.proofs.lexer.markers.block_ahead.Goals as goal
use Rattle.tera_lexer.proofs.lexer.markers.block_ahead.Goals.{After-raw_tag_at, After-raw_end}

-- the tag is looked for after the dash
after_is : (c : After-raw_tag_at) → c.split_at.result.1.now ≡ drop (marker_len (marks_of c.args.delimiters.now).block_start true) c.args.rest.now
after_is c = c.split_at.ensures.back ∙ ap (λ n. drop (n + 1) c.args.rest.now) c.len.ensures

end_is : (c : After-raw_tag_at) → c.as_bytes-end.result.now ≡ (marks_of c.args.delimiters.now).block_end
end_is c = c.as_bytes-end.ensures.value ∙ c.as_str.ensures.value

end_text : (c : After-raw_tag_at) → IsUtf8 (marks_of c.args.delimiters.now).block_end
end_text c = subst IsUtf8 c.as_str.ensures.value c.as_str.utf8

tag_at : (c : After-raw_tag_at) → IsWordTagOf raw_word (marks_of c.args.delimiters.now).block_end c.raw_tag_at.result (word_tag_at raw_word (marks_of c.args.delimiters.now).block_end c.split_at.result.1.now)
tag_at c =
    subst (λ (l : List ℕ). IsWordTagOf raw_word (marks_of c.args.delimiters.now).block_end c.raw_tag_at.result (word_tag_at raw_word (marks_of c.args.delimiters.now).block_end l)) c.as_bytes.ensures.value
    (subst (λ (l : List ℕ). IsWordTagOf raw_word l c.raw_tag_at.result (word_tag_at raw_word l c.as_bytes.result.now)) (end_is c) c.raw_tag_at.ensures)

-- the text begins with a dash where what is after that makes it a piece
dashed : (c : After-raw_tag_at) → starts_dashed (marks_of c.args.delimiters.now) c.args.rest.now ≡ is_block_piece (marks_of c.args.delimiters.now) c.split_at.result.1.now
dashed c =
    block_dashed (marks_of c.args.delimiters.now) c.requires.valid c.args.rest.now true _ c.requires.starts.0 ∙ ap (is_block_piece (marks_of c.args.delimiters.now)) (sym (after_is c))

pub returns-in_default-clause-trims : goal.returns-in_default-clause-trims
returns-in_default-clause-trims c =
    let at = (goal.at.returns-in_default-clause-trims c).After-raw_tag_at in
    opens_nothing (marks_of c.args.delimiters.now) c.split_at.result.1.now (rw c.in_default.is at (tag_at at)) ∙ sym (dashed at)

pub split_at-requires-2 : goal.split_at-requires-2
split_at-requires-2 c =
    let at = (goal.at.split_at-requires-2 c).After-raw_tag_at in
    opens_cut (marks_of c.args.delimiters.now) c.in-Some.opening c.split_at.result.1.now _ (subst IsUtf8 c.as_bytes.ensures.value c.as_bytes.ensures.utf8) (end_text at) refl (rw c.in-Some.is at (tag_at at))

-- the end is looked for after the tag
body_is : (c : After-raw_end) → c.split_at.result.1.now ≡ drop (marker_len (marks_of c.args.delimiters.now).block_start true) c.args.rest.now
    → c.split_at-2.result.1.now ≡ drop (marker_len (marks_of c.args.delimiters.now).block_start true + c.in-Some.opening.len) c.args.rest.now
body_is c following =
    c.split_at-2.ensures.back ∙ ap (drop c.in-Some.opening.len) following ∙ drop-drop c.in-Some.opening.len (marker_len (marks_of c.args.delimiters.now).block_start true) c.args.rest.now

closes : (c : After-raw_end) → IsWordTagOf raw_word (marks_of c.args.delimiters.now).block_end (Some c.in-Some.opening) (word_tag_at raw_word (marks_of c.args.delimiters.now).block_end c.split_at.result.1.now) → (o : Option (ℕ × WordTag)) → c.raw_end.result ≡ o
    → IsRawEndOf (marks_of c.args.delimiters.now).block_end o (raw_end (marks_of c.args.delimiters.now).block_start (marks_of c.args.delimiters.now).block_end false (drop c.in-Some.opening.len c.split_at.result.1.now))
closes c tag o is =
    let m = marks_of c.args.delimiters.now in
    subst (λ (l : List ℕ). IsRawEndOf m.block_end o (raw_end m.block_start m.block_end false l)) c.split_at-2.ensures.back (rw is at c.raw_end.ensures.end)

pub returns-in-Some-raw_end-clause-trims : goal.returns-in-Some-raw_end-clause-trims
returns-in-Some-raw_end-clause-trims c =
    let at = goal.at.returns-in-Some-raw_end-clause-trims c in
    let tag = rw c.in-Some.is at (tag_at at.After-raw_tag_at) in
    closes_here (marks_of c.args.delimiters.now) c.split_at.result.1.now c.in-Some.opening tag (Some c.in-Some-raw_end.closing) (closes at.After-raw_end tag _ c.in-Some-raw_end.is) ∙ sym (dashed at.After-raw_tag_at)

pub returns-in-None-clause-trims : goal.returns-in-None-clause-trims
returns-in-None-clause-trims c =
    let at = goal.at.returns-in-None-clause-trims c in
    let tag = rw c.in-Some.is at (tag_at at.After-raw_tag_at) in
    closes_here (marks_of c.args.delimiters.now) c.split_at.result.1.now c.in-Some.opening tag None (closes at.After-raw_end tag _ c.in-None.is) ∙ sym (dashed at.After-raw_tag_at)

pub returns-in-Some-raw_end-clause-ahead : goal.returns-in-Some-raw_end-clause-ahead
returns-in-Some-raw_end-clause-ahead c =
    let at = goal.at.returns-in-Some-raw_end-clause-ahead c in
    let m = marks_of c.args.delimiters.now in
    let following = after_is at.After-raw_tag_at in
    let body = body_is at.After-raw_end following in
    let tag : IsWordTagOf raw_word m.block_end (Some c.in-Some.opening) (word_tag_at raw_word m.block_end (drop (marker_len m.block_start true) c.args.rest.now))
    = subst (λ (l : List ℕ). IsWordTagOf raw_word m.block_end (Some c.in-Some.opening) (word_tag_at raw_word m.block_end l)) following (rw c.in-Some.is at (tag_at at.After-raw_tag_at)) in
    let opens : OpensBy m true c.in-Some.opening c.args.rest.now = opens_by m true c.in-Some.opening c.args.rest.now _ c.utf8.rest (end_text at.After-raw_tag_at) c.requires.starts.1 refl tag in (
      c.requires.starts,
      opens,
      (subst (λ (l : List ℕ). IsRawEndOf m.block_end (Some c.in-Some-raw_end.closing) (raw_end m.block_start m.block_end false l)) body c.in-Some-raw_end.ensures.end, subst (λ (l : List ℕ). IsRawCut m l c.in-Some-raw_end.closing) body c.in-Some-raw_end.ensures.cut),
    )
