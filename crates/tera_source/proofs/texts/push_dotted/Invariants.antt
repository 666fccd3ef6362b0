use Rattle.std.proofs.Common.{◌≡◌, ◌++◌, string_bytes}
use Rattle.std.specs.Str.Iter.{chars_rest}
use Rattle.tera_source.specs.Writing.{dotted}
use Rattle.tera_source.proofs.texts.push_dotted.Given as goal

abbrev pub invariant-loop-c : goal.invariant-loop-c
invariant-loop-c l = string_bytes l.out ++ dotted (chars_rest l.c-iterator) ≡ string_bytes l.initial.out ++ dotted l.name
