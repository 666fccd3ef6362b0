use Rattle.std.proofs.Common.{◌∙◌}
use Rattle.tera_site.proofs.KeptLemmas.{one_of}
use Rattle.tera_site.proofs.kept.Surroundings.has.Goals as goal

pub returns : goal.returns
returns c = c.contains.ensures ∙ one_of c.args.self.now.there c.args.name.now
