use Rattle.std.proofs.Common.{◌≡◌, ◌++◌}
use Rattle.std.specs.String.{string_bytes}
use Rattle.std.specs.List.{flat_map}
use Rattle.tera_report.specs.Annotations.{property_character}
use Rattle.tera_report.proofs.github.push_property.Given as goal

abbrev pub invariant-characters : goal.invariant-characters
invariant-characters l = string_bytes l.to ≡ string_bytes l.initial.to ++ flat_map property_character l.yielded
