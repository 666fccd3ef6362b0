use Rattle.std.specs.Prelude.{◌≡◌}
use Rattle.tera_grammar.specs.statements.Reading.Meeting.{nothing_grouped}
use Rattle.tera_tags.specs.Known.{grouped_of, located_of}
use Rattle.tera_tags.proofs.KnownLemmas.{put_all}
use Rattle.tera_tags.proofs.names.copy_groups.Given as goal

abbrev pub invariant-entries : goal.invariant-entries
invariant-entries l = put_all located_of l.component-iterator (grouped_of l.copies) ≡ put_all located_of l.groups.entries nothing_grouped
