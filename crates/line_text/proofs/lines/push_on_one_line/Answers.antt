use Rattle.std.proofs.Common.{◌++◌, string_bytes, sym, ap, ◌∙◌}
use Rattle.std.proofs.lemmas.Str.{IsUtf8-past_char}
use Rattle.line_text.specs.Line.{safe_as}
use Rattle.line_text.proofs.Printable.{line_as_it_is}
use Rattle.line_text.proofs.Steps.{pushed, text_step, text_end}
use Rattle.line_text.proofs.lines.push_on_one_line.Goals as goal

pub loop-character-preserved : goal.loop-character-preserved
loop-character-preserved c =
    let held = c.loop-character.invariant in
    let parts = c.in-Some.ensures.steps.0 in record {
      utf8 = IsUtf8-past_char _ _ c.in-Some.character held.utf8 parts;
      text = text_step safe_as _ _ _ _ c.in-Some.character held.utf8 parts c.in_ok-push_safe.ensures ∙ held.text;
    }

pub returns : goal.returns
returns c = sym (text_end safe_as _ _ c.in-None.ensures.steps.0.0) ∙ c.loop-character.invariant.text

pub returns-then-is_printable : goal.returns-then-is_printable
returns-then-is_printable c =
    let all = sym c.is_printable.ensures ∙ c.if-is_printable.true in
    let before = string_bytes c.args.to.now in
    pushed c.push_str.result _ before c.args.text.now _ c.push_str.ensures.bytes
    (ap (λ l. before ++ l) (sym (line_as_it_is c.args.text.now c.utf8.text all)))
