use Rattle.std.proofs.Common.{◌≡◌, ◌++◌, string_bytes}
use Rattle.tera_spelling.specs.Spelling.{with_escapes}
use Rattle.std.specs.Str.Iter.{chars_rest}
use Rattle.tera_source.proofs.texts.push_quoted.Given as goal

abbrev pub invariant-loop-c : goal.invariant-loop-c
invariant-loop-c l = string_bytes l.out ++ with_escapes (chars_rest l.c-iterator) ≡ string_bytes l.initial.out ++ with_escapes l.content
