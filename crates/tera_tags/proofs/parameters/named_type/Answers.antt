use Rattle.std.proofs.Common.{inr}
use Rattle.tera_tags.proofs.TypesLemmas.{type_missing}
use Rattle.tera_tags.proofs.parameters.named_type.Goals as goal

pub returns-in-Err-clause-unnamed : goal.returns-in-Err-clause-unnamed
returns-in-Err-clause-unnamed c = inr (type_missing c.args.name.now c.in-Err.ensures.none)
