use Rattle.std.proofs.Common.{◌≡◌, ◌∙◌, ◌++◌, [], cond, length, map, sym, ap, arith, string_bytes}
use Rattle.std.proofs.lemmas.List.{length-map}
use Rattle.std.specs.List.{flat_map}
use Rattle.terminal_text.specs.Edits.{texts_of, edit_view, lines_of, edits_of}
use Rattle.terminal_text.specs.Hunks.{old_lines, new_lines, hunks_of}
use Rattle.terminal_text.specs.Differences.{head_text, hunk_text}
use Rattle.terminal_text.proofs.Sides.{old_count_is, new_count_is}
use Rattle.terminal_text.proofs.differences.difference.Goals as goal

pub push_hunks-requires-clause-old : goal.push_hunks-requires-clause-old
push_hunks-requires-clause-old c =
    let a = c.as_slice.result.now in
    let b = c.as_slice-2.result.now in
    let count : old_lines (map edit_view c.as_slice-3.result.now) ≡ length a =
    ap (λ l. old_lines (map edit_view l)) c.as_slice-3.ensures.value ∙ ap old_lines c.in_ok-edits.ensures
    ∙ old_count_is (texts_of a) (texts_of b) ∙ length-map a (λ l. l.now) in
    omega (arith, count, c.as_slice.type_inv.0)

pub push_hunks-requires-clause-new : goal.push_hunks-requires-clause-new
push_hunks-requires-clause-new c =
    let a = c.as_slice.result.now in
    let b = c.as_slice-2.result.now in
    let count : new_lines (map edit_view c.as_slice-3.result.now) ≡ length b =
    ap (λ l. new_lines (map edit_view l)) c.as_slice-3.ensures.value ∙ ap new_lines c.in_ok-edits.ensures
    ∙ new_count_is (texts_of a) (texts_of b) ∙ length-map b (λ l. l.now) in
    omega (arith, count, c.as_slice-2.type_inv.0)

pub returns : goal.returns
returns c =
    let old = c.args.old.now in
    let new = c.args.new.now in
    let head = head_text c.args.style c.args.file.now in
    let a : texts_of c.as_slice.result.now ≡ lines_of old = ap texts_of c.as_slice.ensures.value ∙ c.in_ok-old.ensures in
    let b : texts_of c.as_slice-2.result.now ≡ lines_of new = ap texts_of c.as_slice-2.ensures.value ∙ c.in_ok-new.ensures in
    let edits : map edit_view c.as_slice-3.result.now ≡ edits_of (lines_of old) (lines_of new) =
    ap (map edit_view) c.as_slice-3.ensures.value ∙ c.in_ok-edits.ensures
    ∙ ap (λ l. edits_of l (texts_of c.as_slice-2.result.now)) a ∙ ap (edits_of (lines_of old)) b in
    let begun : string_bytes c.push_head.new.text ≡ head =
    c.in_ok-push_head.ensures ∙ ap (λ l. l ++ head) c.new-text.ensures.bytes in
    c.in_ok-push_hunks.ensures
    ∙ ap (λ l. l ++ flat_map (hunk_text c.args.style) (hunks_of (map edit_view c.as_slice-3.result.now))) begun
    ∙ ap (λ l. head ++ flat_map (hunk_text c.args.style) (hunks_of l)) edits
    ∙ ap (λ t. cond t [] (head ++ flat_map (hunk_text c.args.style) (hunks_of (edits_of (lines_of old) (lines_of new))))) (sym c.if-eq.false ∙ c.eq.ensures)
