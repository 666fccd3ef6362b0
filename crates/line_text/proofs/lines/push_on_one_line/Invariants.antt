use Rattle.std.proofs.Common.{◌≡◌, IsUtf8, string_bytes}
use Rattle.std.specs.Str.Iter.{chars_rest}
use Rattle.line_text.specs.Line.{safe_as}
use Rattle.line_text.proofs.Steps.{text_and}
use Rattle.line_text.proofs.lines.push_on_one_line.Given as goal

-- what was written, and what is left, are the whole
abbrev pub invariant-loop-character : goal.invariant-loop-character
invariant-loop-character l = record {
  utf8 : IsUtf8 (chars_rest l.character-iterator);
  text : text_and safe_as (string_bytes l.to) (chars_rest l.character-iterator) ≡ text_and safe_as (string_bytes l.initial.to) l.fn.text;
}
