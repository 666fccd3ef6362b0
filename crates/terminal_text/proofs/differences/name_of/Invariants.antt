use Rattle.std.proofs.Common.{◌≡◌, ◌++◌, codes}
use Rattle.std.specs.String.{string_bytes}
use Rattle.std.specs.List.{flat_map}
use Rattle.terminal_text.specs.Differences.{quoted_character}
use Rattle.terminal_text.proofs.differences.name_of.Given as goal

abbrev pub invariant-characters : goal.invariant-characters
invariant-characters l = string_bytes l.name ≡ codes "\"" ++ flat_map quoted_character l.yielded
