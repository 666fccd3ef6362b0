use Rattle.std.specs.Prelude.{◌≡◌}
use Rattle.tera_grammar.specs.statements.Reading.Meeting.{nothing_located}
use Rattle.tera_tags.specs.Known.{located_of}
use Rattle.tera_tags.proofs.KnownLemmas.{put_all}
use Rattle.tera_tags.proofs.names.copy.Given as goal

abbrev pub invariant-entries : goal.invariant-entries
invariant-entries l = put_all (λ s. s) l.name-iterator (located_of l.copies) ≡ put_all (λ s. s) l.names.entries nothing_located
