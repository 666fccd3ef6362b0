use Rattle.std.proofs.Common.{◌≡◌, ◌++◌, length, false}
use Rattle.std.specs.Prelude.{string_bytes}
use denote.Shadow.{shadow}
use denote.Text.{Utf8}
use Rattle.tera_lexer.specs.reading.Front.{unescaped, unknown_in}
use Rattle.tera_lexer.proofs.lexer.lexeme.unescape.Given as goal

-- the text and what is left stand for the whole
abbrev pub invariant-loop-text : goal.invariant-loop-text
invariant-loop-text l = record {
  utf8 : shadow (Utf8 l.rest);
  text : string_bytes l.text ++ unescaped l.rest ≡ unescaped l.inside;
  known : unknown_in false l.rest ≡ false;
}

abbrev pub decreases-loop-text : goal.decreases-loop-text
decreases-loop-text l = length l.rest
