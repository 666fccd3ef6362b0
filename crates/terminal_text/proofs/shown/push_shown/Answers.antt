use Rattle.std.proofs.Common.{◌++◌, length, string_bytes, sym, ap, ◌∙◌, arith, zero-add}
use Rattle.std.proofs.lemmas.Str.{IsUtf8-past_char, chars_past_char}
use Rattle.terminal_text.specs.Shown.{shown_as}
use Rattle.terminal_text.proofs.Printable.{columns_as_it_sound, shown_as_it_sound, short_as_it_sound}
use Rattle.line_text.proofs.Steps.{text_step, text_end}
use Rattle.terminal_text.proofs.Steps.{columns_step, columns_end}
use Rattle.terminal_text.proofs.shown.push_shown.Goals as goal

pub overflow_add-columns : goal.overflow_add-columns
overflow_add-columns c =
    let held = c.loop-character.invariant in
    let long = ap length (chars_past_char _ _ c.in-Some.character held.utf8 c.in-Some.ensures.steps.0) in
    omega (arith, held.few, long, c.in_ok-columns.ensures.few)

pub loop-character-preserved : goal.loop-character-preserved
loop-character-preserved c =
    let held = c.loop-character.invariant in
    let parts = c.in-Some.ensures.steps.0 in
    let long = ap length (chars_past_char _ _ c.in-Some.character held.utf8 parts) in record {
      utf8 = IsUtf8-past_char _ _ c.in-Some.character held.utf8 parts;
      text = text_step shown_as _ _ _ _ c.in-Some.character held.utf8 parts c.in_ok-columns.ensures.text ∙ held.text;
      columns = columns_step shown_as _ _ _ _ c.in-Some.character held.utf8 parts c.in_ok-columns.ensures.columns ∙ held.columns;
      few = omega (arith, held.few, long, c.in_ok-columns.ensures.few);
    }

pub returns-clause-text : goal.returns-clause-text
returns-clause-text c = sym (text_end shown_as _ _ c.in-None.ensures.steps.0.0) ∙ c.loop-character.invariant.text

pub returns-clause-columns : goal.returns-clause-columns
returns-clause-columns c = sym (columns_end shown_as _ _ c.in-None.ensures.steps.0.0) ∙ c.loop-character.invariant.columns ∙ zero-add _

pub returns-then-is_printable-clause-text : goal.returns-then-is_printable-clause-text
returns-then-is_printable-clause-text c =
    let all = sym c.is_printable.ensures ∙ c.if-is_printable.true in
    c.in_ok-push_str.ensures.bytes ∙ ap (λ l. string_bytes c.args.to.now ++ l) (sym (shown_as_it_sound c.args.text.now c.utf8.text all))

pub returns-then-is_printable-clause-columns : goal.returns-then-is_printable-clause-columns
returns-then-is_printable-clause-columns c =
    sym (columns_as_it_sound c.args.text.now (sym c.is_printable.ensures ∙ c.if-is_printable.true))

pub returns-then-is_printable-clause-few : goal.returns-then-is_printable-clause-few
returns-then-is_printable-clause-few c =
    short_as_it_sound c.args.text.now (sym c.is_printable.ensures ∙ c.if-is_printable.true) c.requires
