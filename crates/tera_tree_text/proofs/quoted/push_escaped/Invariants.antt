use Rattle.std.proofs.Common.{◌≡◌, ◌++◌, length, string_bytes}
use denote.Text.{Utf8}
use denote.Shadow.{shadow}
use Rattle.std.specs.List.{flat_map}
use Rattle.tera_tree_text.specs.QuotedBytes.{escaped_byte}
use Rattle.tera_tree_text.proofs.quoted.push_escaped.Given as goal

-- the text, and what is left with its escapes, are the whole
abbrev pub invariant-loop-text : goal.invariant-loop-text
invariant-loop-text l = record {
  utf8 : shadow (Utf8 l.rest);
  text : string_bytes l.text ++ flat_map escaped_byte l.rest ≡ string_bytes l.initial.text ++ flat_map escaped_byte l.content;
}

abbrev pub decreases-loop-text : goal.decreases-loop-text
decreases-loop-text l = length l.rest
