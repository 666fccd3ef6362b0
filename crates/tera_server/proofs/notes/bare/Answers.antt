use Rattle.tera_server.proofs.NameLemmas.{not_slashed}
use Rattle.tera_server.proofs.notes.bare.Goals as goal

pub returns-in_default-2 : goal.returns-in_default-2
returns-in_default-2 c = not_slashed c.args.path.now c.strip_suffix.result c.strip_suffix.ensures.cases c.in_default.is
