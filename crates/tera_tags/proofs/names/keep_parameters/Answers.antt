use Rattle.std.proofs.Common.{◌∙◌, refl}
use Rattle.tera_tags.specs.Known.{grouped_of}
use Rattle.tera_tags.proofs.KnownLemmas.{group_kept, same_group}
use Rattle.tera_tags.proofs.names.keep_parameters.Goals as goal

pub returns-clause-kept : goal.returns-clause-kept
returns-clause-kept c =
    group_kept c.args.groups.now c.insert.new.self c.in_ok-component.component c.args.names c.in_ok-_before.ensures.updates
    ∙ same_group (grouped_of c.args.groups.now) c.in_ok-component.ensures.ok refl
