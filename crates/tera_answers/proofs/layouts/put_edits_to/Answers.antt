use Rattle.std.proofs.Common.{◌≡◌, ◌∙◌, ◌+◌, ◌++◌, drop, refl, sym, ap, append_assoc, arith}
use Rattle.std.specs.List.{flat_map}
use Rattle.tera_workspace.proofs.LeftLemmas.{left_last}
use Rattle.tera_answers.specs.Layouts.{edit_json, edit_tokens}
use Rattle.tera_answers.proofs.ArrayLemmas.{items_written}
use Rattle.tera_answers.proofs.DropLemmas.{drop_at}
use Rattle.tera_answers.proofs.Tails.{and_so}
use Rattle.tera_answers.proofs.layouts.put_edits_to.Goals as goal

pub loop-edit-preserved : goal.loop-edit-preserved
unfolding edit_tokens
loop-edit-preserved c =
    let one = edit_tokens c.args.encoding c.args.text.now in
    let edits = c.deref-edit-items.result.now in
    let at = c.loop-edit.edit-index in
    let old = c.loop-edit.out.tokens in
    record {
      tokens =
          c.loop-edit.invariant.tokens
          ∙ ap (λ es. old ++ flat_map one es) (drop_at edits at _ (omega arith))
          ∙ sym (append_assoc old _ (flat_map one (drop (at + 1) edits)))
          ∙ ap (λ ts. ts ++ flat_map one (drop (at + 1) edits)) (sym (rw (c.position_at-start.ensures, c.position_at-end.ensures) at c.in_ok-put_edit.ensures.tokens));
      before = c.in_ok-put_edit.ensures.before ∙ c.loop-edit.invariant.before;
    }

pub returns-clause-tokens : goal.returns-clause-tokens
unfolding edit_tokens
returns-clause-tokens c =
    let one = edit_tokens c.args.encoding c.args.text.now in
    let edits = c.in_ok-edits.edits.items in
    let each : c.loop-edit.out.tokens ≡ c.begin_array.new.self.tokens ++ flat_map one c.deref-edit-items.result.now =
    left_last (λ es. flat_map one es) _ c.loop-edit.out.tokens c.deref-edit-items.result.now c.loop-edit.edit-index c.loop-edit-test.false refl c.loop-edit.invariant.tokens in
    and_so c.end_array.result c.end_array.ensures.ok
    (λ h. (
      edits,
      record { applied_are = c.in_ok-edits.ensures.applied; apart = c.in_ok-edits.ensures.apart; white = c.in_ok-edits.ensures.white },
      rw (items_written (edit_json c.args.encoding c.args.text.now) edits)
          (rw (h, each, c.in_ok-begin_array.ensures.ok, c.deref-edit-items.ensures.value)
          (simp append_assoc refl)),
    ))
