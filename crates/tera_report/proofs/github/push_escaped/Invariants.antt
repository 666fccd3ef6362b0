use Rattle.std.proofs.Common.{◌≡◌, ◌++◌}
use Rattle.std.specs.String.{string_bytes}
use Rattle.std.specs.List.{flat_map}
use Rattle.tera_report.specs.Annotations.{escaped_character}
use Rattle.tera_report.proofs.github.push_escaped.Given as goal

abbrev pub invariant-characters : goal.invariant-characters
invariant-characters l = string_bytes l.to ≡ string_bytes l.initial.to ++ flat_map escaped_character l.yielded
