use Rattle.std.proofs.Common.{◌≡◌, ◌∙◌, ◌++◌, ◌∷◌, ◌+◌, ◌-◌, [], false, map, length, get_or, take, drop, sym, ap, subst, arith, string_bytes}
use Rattle.std.proofs.Math.ListN.{get_or-map}
use Rattle.std.proofs.lemmas.List.{append_assoc, append-nil, length-map}
use Rattle.std.proofs.lemmas.List as lists
use Rattle.std.specs.List.{flat_map, AllByRecursion}
use Rattle.terminal_text.specs.Hunks.{PlacedView, placed_view, cut_hunks, Fits}
use Rattle.terminal_text.specs.Differences.{hunk_text}
use Rattle.terminal_text.specs.declared.hunks.Placed.{Placed}
use Rattle.terminal_text.specs.declared.edits.Edit.TheVariants.{Same}
use Rattle.terminal_text.proofs.Hunked.{shown_more, cut_at, cut_last, part_view, rest_view, hidden, seen, on_ok, text_before}
use Rattle.terminal_text.proofs.differences.push_cut.Goals as goal
use Rattle.terminal_text.proofs.differences.push_cut.Goals.{then-is_hidden+in_ok-push_hunk, else-is_hidden}

abbrev none : Placed
none = record { old = 0; new = 0; shown = false; edit = Same (record { ref_ptr = (0, 0); now = [] }) }

pub push_hunk-requires : goal.push_hunk-requires
push_hunk-requires c =
    let placed = c.args.placed.now in
    let ps = map placed_view placed in
    let at = c.hunks.at in
    let start = c.hunks.start in
    let not_shown : (get_or ps at (placed_view none)).shown ≡ false =
    ap (λ (p : PlacedView). p.shown) (get_or-map placed_view placed at none)
    ∙ hidden (get_or placed at none).shown (sym c.is_hidden.ensures ∙ c.if-is_hidden.true) in
    let cut = cut_at ps start at (placed_view none) c.hunks.invariant.order (omega (arith, c.hunks-test.true, length-map placed placed_view)) not_shown c.hunks.invariant.shown in
    let fits : AllByRecursion Fits (take (at - start) (drop start ps) ∷ cut_hunks (drop (at + 1) ps)) = subst (AllByRecursion Fits) cut c.hunks.invariant.fit in
    subst Fits (sym (part_view placed start (at - start))) fits.0

pub push_hunk-requires-2 : goal.push_hunk-requires-2
push_hunk-requires-2 c =
    let placed = c.args.placed.now in
    let ps = map placed_view placed in
    let start = c.hunks.start in
    let cut = cut_last ps start c.hunks.at (omega (arith, c.hunks-test.false, length-map placed placed_view)) c.hunks.invariant.shown in
    let fits : AllByRecursion Fits (drop start ps ∷ []) = subst (AllByRecursion Fits) cut c.hunks.invariant.fit in
    subst Fits (sym (rest_view placed start)) fits.0

pub hunks-preserved : goal.hunks-preserved
hunks-preserved c =
    let placed = c.args.placed.now in
    let ps = map placed_view placed in
    let at = c.hunks.at in
    let start = c.hunks.start in
    let style = c.args.style in
    elim c.if-is_hidden.branch [
      | then-is_hidden+in_ok-push_hunk w ↦
          let not_shown : (get_or ps at (placed_view none)).shown ≡ false =
          ap (λ (p : PlacedView). p.shown) (get_or-map placed_view placed at none)
          ∙ hidden (get_or placed at none).shown (sym c.is_hidden.ensures ∙ w.if-is_hidden.true) in
          let cut = cut_at ps start at (placed_view none) c.hunks.invariant.order (omega (arith, c.hunks-test.true, length-map placed placed_view)) not_shown c.hunks.invariant.shown in
          let fits : AllByRecursion Fits (take (at - start) (drop start ps) ∷ cut_hunks (drop (at + 1) ps)) = subst (AllByRecursion Fits) cut c.hunks.invariant.fit in
          let hunk = map placed_view (take (at - start) (drop start placed)) in
          record {
            order = omega (arith, w.start-is);
            text =
                ap (λ k. string_bytes c.if-is_hidden.text ++ flat_map (hunk_text style) (cut_hunks (drop k ps))) w.start-is
                ∙ ap (λ t. string_bytes t ++ flat_map (hunk_text style) (cut_hunks (drop (at + 1) ps))) w.text-is
                ∙ ap (λ l. l ++ flat_map (hunk_text style) (cut_hunks (drop (at + 1) ps))) w.in_ok-push_hunk.ensures
                ∙ text_before (string_bytes c.hunks.text) (hunk_text style hunk) (take (at - start) (drop start ps)) style (cut_hunks (drop (at + 1) ps)) (ap (hunk_text style) (part_view placed start (at - start)))
                ∙ ap (λ l. string_bytes c.hunks.text ++ flat_map (hunk_text style) l) (sym cut)
                ∙ c.hunks.invariant.text;
            fit = subst (λ k. AllByRecursion Fits (cut_hunks (drop k ps))) (sym w.start-is) fits.1;
            shown = λ k d p q. absurd (omega (arith, w.start-is));
          }
      | else-is_hidden w ↦
          let more = shown_more ps start at c.hunks.invariant.shown
          (λ d. ap (λ (p : PlacedView). p.shown) (lists.get_or-map placed_view placed at none d c.hunks-test.true)
          ∙ seen (get_or placed at none).shown (sym c.is_hidden.ensures ∙ w.if-is_hidden.false)) in
          record {
            order = omega (arith, w.start-is, c.hunks.invariant.order);
            text =
                ap (λ k. string_bytes c.if-is_hidden.text ++ flat_map (hunk_text style) (cut_hunks (drop k ps))) w.start-is
                ∙ ap (λ t. string_bytes t ++ flat_map (hunk_text style) (cut_hunks (drop start ps))) w.text-is
                ∙ c.hunks.invariant.text;
            fit = subst (λ k. AllByRecursion Fits (cut_hunks (drop k ps))) (sym w.start-is) c.hunks.invariant.fit;
            shown = λ k d p q. more k d (omega (arith, w.start-is)) q;
          }
    ]

pub returns : goal.returns
returns c =
    let placed = c.args.placed.now in
    let ps = map placed_view placed in
    let start = c.hunks.start in
    let style = c.args.style in
    let cut = cut_last ps start c.hunks.at (omega (arith, c.hunks-test.false, length-map placed placed_view)) c.hunks.invariant.shown in
    let hunk = hunk_text style (map placed_view (take (length placed - start) (drop start placed))) in
    on_ok c.push_hunk-2.result (λ e.
    e ∙ sym (append-nil (string_bytes c.hunks.text ++ hunk))
    ∙ text_before (string_bytes c.hunks.text) hunk (drop start ps) style [] (ap (hunk_text style) (rest_view placed start))
    ∙ ap (λ l. string_bytes c.hunks.text ++ flat_map (hunk_text style) l) (sym cut)
    ∙ c.hunks.invariant.text) c.push_hunk-2.ensures
