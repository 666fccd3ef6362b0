use Rattle.std.proofs.Common.{◌∙◌}
use Rattle.tera_site.specs.Kept.{is_one_of, names_in}
use Rattle.tera_site.proofs.KeptLemmas.{one_of, twice}
use Rattle.tera_site.proofs.kept.Surroundings.lacks.Goals as goal

pub returns : goal.returns
returns c =
    let s = c.args.self.now in
    let block = c.args.block.now in
    c.contains.ensures ∙ one_of s.lacking block ∙ twice (is_one_of (names_in s.lacking) block)
