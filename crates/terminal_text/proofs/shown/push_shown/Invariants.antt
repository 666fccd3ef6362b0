use Rattle.std.proofs.Common.{◌≡◌, ◌≤◌, ◌+◌, ◌*◌, IsUtf8, length, chars, string_bytes}
use Rattle.std.specs.Str.Iter.{chars_rest}
use Rattle.line_text.proofs.Steps.{text_and}
use Rattle.terminal_text.specs.Shown.{shown_as}
use Rattle.terminal_text.proofs.Steps.{columns_and}
use Rattle.terminal_text.proofs.shown.push_shown.Given as goal

-- what was written, and what is left, are the whole
abbrev pub invariant-loop-character : goal.invariant-loop-character
invariant-loop-character l = record {
  utf8 : IsUtf8 (chars_rest l.character-iterator);
  text : text_and shown_as (string_bytes l.to) (chars_rest l.character-iterator) ≡ text_and shown_as (string_bytes l.initial.to) l.fn.text;
  columns : columns_and shown_as l.columns (chars_rest l.character-iterator) ≡ columns_and shown_as 0 l.fn.text;
  few : l.columns + 4 * length (chars (chars_rest l.character-iterator)) ≤ 480;
}
