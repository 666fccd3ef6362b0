use Rattle.std.proofs.Common.{sym, ◌∙◌}
use Rattle.std.proofs.lemmas.Str.{IsUtf8-past_char}
use Rattle.line_text.specs.Line.{lines_as}
use Rattle.line_text.proofs.Steps.{text_step, text_end}
use Rattle.line_text.proofs.lines.push_on_lines.Goals as goal

pub loop-character-preserved : goal.loop-character-preserved
loop-character-preserved c =
    let held = c.loop-character.invariant in
    let parts = c.in-Some.ensures.steps.0 in record {
      utf8 = IsUtf8-past_char _ _ c.in-Some.character held.utf8 parts;
      text = text_step lines_as _ _ _ _ c.in-Some.character held.utf8 parts c.in_ok-push_in_lines.ensures ∙ held.text;
    }

pub returns : goal.returns
returns c = sym (text_end lines_as _ _ c.in-None.ensures.steps.0.0) ∙ c.loop-character.invariant.text
