use Rattle.std.proofs.Common.{◌≡◌, ◌∙◌, ◌+◌, ◌<◌, ◌++◌, ◌∷◌, [], map, length, get_or, take, drop, sym, ap, arith}
use Rattle.std.proofs.lemmas.List.{length-map, get_or-map, map-append, take-map, drop-map}
use Rattle.terminal_text.specs.Edits.{edit_view}
use Rattle.terminal_text.specs.Hunks.{placed_view, placed_edits, is_shown, old_lines, new_lines}
use Rattle.terminal_text.specs.declared.edits.Edit.{Edit}
use Rattle.terminal_text.specs.declared.edits.Edit.TheVariants.{Same}
use Rattle.terminal_text.proofs.Placing.{old_within, new_within, old_next, new_next, placed_to}
use Rattle.terminal_text.proofs.hunks.placed_of.Goals as goal

abbrev no_edit : Edit
no_edit = Same (record { ref_ptr = (0, 0); now = [] })

pub overflow_add-old : goal.overflow_add-old
overflow_add-old c =
    let edits = c.args.edits.now in
    let es = map edit_view edits in
    let e = edit_view (get_or edits c.edits.at no_edit) in
    let within : c.edits.at < length es = omega (arith, c.edits-test.true, length-map edits edit_view) in
    let is = get_or-map edit_view edits c.edits.at no_edit e c.edits-test.true in
    omega (arith, old_within es c.edits.at e within is, c.edits.invariant.old, c.old_lines-old.ensures, c.requires.old)

pub overflow_add-new : goal.overflow_add-new
overflow_add-new c =
    let edits = c.args.edits.now in
    let es = map edit_view edits in
    let e = edit_view (get_or edits c.edits.at no_edit) in
    let within : c.edits.at < length es = omega (arith, c.edits-test.true, length-map edits edit_view) in
    let is = get_or-map edit_view edits c.edits.at no_edit e c.edits-test.true in
    omega (arith, new_within es c.edits.at e within is, c.edits.invariant.new, c.new_lines-new.ensures, c.requires.new)

pub edits-preserved : goal.edits-preserved
edits-preserved c =
    let edits = c.args.edits.now in
    let es = map edit_view edits in
    let at = c.edits.at in
    let e = edit_view (get_or edits at no_edit) in
    let within : at < length es = omega (arith, c.edits-test.true, length-map edits edit_view) in
    let is = get_or-map edit_view edits at no_edit e c.edits-test.true in
    let shown : c.is_shown-shown.result ≡ is_shown (take at es) (drop at es) =
    c.is_shown-shown.ensures
    ∙ ap (λ l. is_shown l (map edit_view (drop at edits))) (sym (take-map edit_view at edits))
    ∙ ap (λ l. is_shown (take at es) l) (sym (drop-map edit_view at edits)) in
    record {
      placed =
          placed_to es at e (map placed_view c.edits.placed.items) c.edits.old c.edits.new c.is_shown-shown.result within is
          c.edits.invariant.old c.edits.invariant.new shown c.edits.invariant.placed
          ∙ ap (λ l. l ++ placed_edits (take (at + 1) es) (drop (at + 1) es))
          (sym (ap (map placed_view) c.in_ok-push.ensures.items ∙ map-append placed_view c.edits.placed.items (record { old = c.edits.old; new = c.edits.new; shown = c.is_shown-shown.result; edit = get_or edits at no_edit } ∷ [])));
      old = ap (λ n. n + c.old_lines-old.result) c.edits.invariant.old ∙ ap (λ n. old_lines (take at es) + n) c.old_lines-old.ensures ∙ old_next es at e within is;
      new = ap (λ n. n + c.new_lines-new.result) c.edits.invariant.new ∙ ap (λ n. new_lines (take at es) + n) c.new_lines-new.ensures ∙ new_next es at e within is;
    }
