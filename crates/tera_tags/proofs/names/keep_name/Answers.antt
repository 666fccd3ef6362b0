use Rattle.std.proofs.Common.{◌∙◌}
use Rattle.tera_tags.specs.Known.{located_of}
use Rattle.tera_tags.proofs.KnownLemmas.{kept_at, same_place}
use Rattle.tera_tags.proofs.names.keep_name.Goals as goal

pub returns-clause-kept : goal.returns-clause-kept
returns-clause-kept c =
    kept_at c.args.names.now c.insert.new.self c.in_ok-name.name c.copied.result c.in_ok-_before.ensures.updates
    ∙ same_place (located_of c.args.names.now) c.in_ok-name.ensures.ok c.copied.ensures
