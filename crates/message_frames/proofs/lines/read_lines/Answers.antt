use Rattle.std.proofs.Common.{◌≡◌, ◌<◌, ◌≤◌, ◌+◌, ◌++◌, length, take, drop, sym, ap, subst, ◌∙◌, arith}
use Rattle.std.specs.List.{flat_map}
use Rattle.std.proofs.lemmas.Bool.{eqb-true, eqb-false}
use Rattle.message_frames.specs.Header.{EndsAt, NoneEndsBefore, ended, head_text}
use Rattle.message_frames.specs.Reading.{field_of, stated_with}
use Rattle.message_frames.proofs.LineEnds.{end_fits, line_more, head_ended, left_by_length}
use Rattle.message_frames.proofs.lines.read_lines.Goals as goal

pub returns-then-is_empty : goal.returns-then-is_empty
returns-then-is_empty c =
    let bytes = c.args.bytes.now in
    let rest = c.lines.rest.now in
    let following = c.split_at-in-Some.result.1.now in
    let empty : length c.split_at.result.0.now ≡ 0 = eqb-true _ _ (sym c.is_empty.ensures ∙ c.if-is_empty.true) in
    let k : c.in-Some.len ≡ 0 = sym c.split_at.ensures.front_len ∙ empty in
    let ends : EndsAt rest 0 = subst (λ i. EndsAt rest i) k c.in-Some.ensures.0 in
    let is : following ≡ drop 2 rest =
    c.split_at-in-Some.ensures.back ∙ ap (drop 2) (c.split_at.ensures.back ∙ ap (λ i. drop i rest) k) in
    let read = c.lines.invariant.read in
    let whole : bytes ≡ head_text read.lines ++ following =
    rw is (head_ended bytes c.args.stated rest c.lines.stated read ends) in
    let left = left_by_length (head_text read.lines) following bytes whole in
    (omega arith, (read.lines, rw left.1 whole, read.each, read.states))

pub lines-preserved : goal.lines-preserved
lines-preserved c =
    let rest = c.lines.rest.now in
    let k = c.in-Some.len in
    let line : c.split_at.result.0.now ≡ take k rest = c.split_at.ensures.front in
    let some : 0 < k =
    omega (arith, c.split_at.ensures.front_len, eqb-false _ _ (sym c.is_empty.ensures ∙ c.if-is_empty.false)) in
    let following : c.split_at-in-Some.result.1.now ≡ drop 2 (drop k rest) =
    c.split_at-in-Some.ensures.back ∙ ap (drop 2) c.split_at.ensures.back in
    let stated : c.with-stated.result ≡ stated_with c.lines.stated (field_of (take k rest)) =
    c.with-stated.ensures ∙ ap (stated_with c.lines.stated) (c.read_field.ensures ∙ ap field_of line) in
    record {
      read = rw (following, stated) (line_more c.args.bytes.now c.args.stated rest c.lines.stated k c.lines.invariant.read some c.in-Some.ensures.0 c.in-Some.ensures.1);
      within = omega arith;
      none = λ i lt. absurd (omega arith);
    }

pub split_at-requires-in-Some : goal.split_at-requires-in-Some
split_at-requires-in-Some c =
    let rest = c.lines.rest.now in
    let room : c.in-Some.len + 2 ≤ length rest = end_fits rest c.in-Some.len c.in-Some.ensures.0 in
    omega (arith, room, c.split_at.ensures.back_len)

pub overflow_sub-result : goal.overflow_sub-result
overflow_sub-result c =
    let bytes = c.args.bytes.now in
    let rest = c.lines.rest.now in
    let read = c.lines.invariant.read in
    let left = left_by_length (flat_map ended read.lines) rest bytes read.whole in
    omega (arith, left.0, c.split_at.ensures.back_len, c.split_at-in-Some.ensures.back_len)

pub overflow_sub-result-2 : goal.overflow_sub-result-2
overflow_sub-result-2 c =
    let read = c.lines.invariant.read in
    (left_by_length (flat_map ended read.lines) c.lines.rest.now c.args.bytes.now read.whole).0

pub returns : goal.returns
returns c =
    let bytes = c.args.bytes.now in
    let rest = c.lines.rest.now in
    let read = c.lines.invariant.read in
    let left = left_by_length (flat_map ended read.lines) rest bytes read.whole in
    let none : NoneEndsBefore rest (length rest) = c.in_default.ensures in
    (omega arith, rw left.1 read, rw left.1 none, omega (arith, c.saturating_sub.ensures, left.0))
