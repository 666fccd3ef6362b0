use Rattle.std.proofs.Common.{◌≡◌, ◌∙◌, ◌++◌, ◌∷◌, ◌-◌, ◌+◌, ◌<◌, ℕ, min, List, [], map, length, take, drop, get_or, sym, ap, arith}
use Rattle.std.proofs.Math.Nat.{min-le_left, min-le_right}
use Rattle.std.proofs.lemmas.List.{length-map}
use Rattle.std.specs.Borrow.{Bor}
use Rattle.std.specs.Str.{bytes_eq}
use Rattle.terminal_text.specs.Edits.{SameLine, texts_of, edit_view, others_of, edits_of}
use Rattle.terminal_text.proofs.SideBySide.{edits_to, edits_last, joined, differ_more, text_at, texts_drop, texts_part}
use Rattle.terminal_text.proofs.edits.edits_of.Goals as goal
use Rattle.terminal_text.proofs.edits.edits_of.Goals.{then-eq+in_ok-push_others+in_ok-push_same, else-eq}

abbrev no_line : Bor (List ℕ)
no_line = record { ref_ptr = (0, 0); now = [] }

pub lines-preserved : goal.lines-preserved
lines-preserved c =
    let old = c.args.old.now in
    let new = c.args.new.now in
    let at = c.lines.at in
    let start = c.lines.start in
    let os = texts_of old in
    let ns = texts_of new in
    let o = (get_or old at no_line).now in
    let n = (get_or new at no_line).now in
    let in_old : at < length old = omega (arith, c.lines-test.true, c.min-at-end.ensures, min-le_left (length old) (length new)) in
    let in_new : at < length new = omega (arith, c.lines-test.true, c.min-at-end.ensures, min-le_right (length old) (length new)) in
    let is_old = text_at old at in_old no_line in
    let is_new = text_at new at in_new no_line in
    elim c.if-eq.branch [
      | then-eq+in_ok-push_others+in_ok-push_same w ↦
          let others = others_of (take (at - start) (drop start os)) (take (at - start) (drop start ns)) in
          let more = edits_of (drop (at + 1) os) (drop (at + 1) ns) in
          let pushed : map edit_view w.push_others.new.edits.items ≡ map edit_view c.lines.edits.items ++ others =
          w.in_ok-push_others.ensures
          ∙ ap (λ l. map edit_view c.lines.edits.items ++ others_of l (texts_of (take (at - start) (drop start new)))) (texts_part old start (at - start))
          ∙ ap (λ l. map edit_view c.lines.edits.items ++ others_of (take (at - start) (drop start os)) l) (texts_part new start (at - start)) in
          let now : map edit_view c.if-eq.edits.items ≡ (map edit_view c.lines.edits.items ++ others) ++ SameLine o ∷ [] =
          ap (λ v. map edit_view v.items) w.edits-is
          ∙ w.in_ok-push_same.ensures
          ∙ ap (λ l. l ++ SameLine o ∷ []) pushed in
          let here : edits_of (drop start os) (drop start ns) ≡ others ++ SameLine o ∷ more =
          edits_to os ns start at o n c.lines.invariant.order (omega (arith, length-map old (λ l. l.now))) (omega (arith, length-map new (λ l. l.now)))
          is_old is_new (sym c.eq.ensures ∙ w.if-eq.true) c.lines.invariant.differ in
          record {
            order = omega (arith, w.start-is);
            edits =
                c.lines.invariant.edits ∙ ap (λ l. map edit_view c.lines.edits.items ++ l) here
                ∙ joined (map edit_view c.lines.edits.items) others (SameLine o) more
                ∙ ap (λ l. l ++ more) (sym now)
                ∙ ap (λ k. map edit_view c.if-eq.edits.items ++ edits_of (drop k os) (drop k ns)) (sym w.start-is);
            differ = λ k p q. absurd (omega (arith, w.start-is));
          }
      | else-eq w ↦
          let differs = differ_more os ns start at c.lines.invariant.differ
          (ap (λ x. bytes_eq x (get_or ns at [])) is_old ∙ ap (λ x. bytes_eq o x) is_new ∙ sym c.eq.ensures ∙ w.if-eq.false) in
          record {
            order = omega (arith, w.start-is, c.lines.invariant.order);
            edits =
                c.lines.invariant.edits
                ∙ ap (λ v. map edit_view v.items ++ edits_of (drop start os) (drop start ns)) (sym w.edits-is)
                ∙ ap (λ k. map edit_view c.if-eq.edits.items ++ edits_of (drop k os) (drop k ns)) (sym w.start-is);
            differ = λ k p q. differs k (omega (arith, w.start-is)) q;
          }
    ]

pub returns : goal.returns
returns c =
    let old = c.args.old.now in
    let new = c.args.new.now in
    let start = c.lines.start in
    let both : min (length (texts_of old)) (length (texts_of new)) ≡ min (length old) (length new) =
    ap (λ k. min k (length (texts_of new))) (length-map old (λ l. l.now)) ∙ ap (min (length old)) (length-map new (λ l. l.now)) in
    c.in_ok-push_others-2.ensures
    ∙ ap (λ l. map edit_view c.lines.edits.items ++ others_of l (texts_of (take (length new - start) (drop start new)))) (texts_drop old start)
    ∙ ap (λ l. map edit_view c.lines.edits.items ++ others_of (drop start (texts_of old)) l) (texts_drop new start)
    ∙ ap (λ l. map edit_view c.lines.edits.items ++ l) (sym (edits_last (texts_of old) (texts_of new) start c.lines.at (omega (arith, c.lines-test.false, c.min-at-end.ensures, both)) c.lines.invariant.differ))
    ∙ sym c.lines.invariant.edits
