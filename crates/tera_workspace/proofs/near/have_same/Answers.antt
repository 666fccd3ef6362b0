use Rattle.std.proofs.Common.{◌∙◌, sym}
use Rattle.std.specs.Cmp.{booleans_Decides}
use Rattle.tera_site.proofs.KeptLemmas.{one_of}
use Rattle.tera_workspace.proofs.near.have_same.Goals as goal

pub returns : goal.returns
returns c = λ same.
    let before = c.args.before.now in
    let others = c.args.others.now in
    let name = c.args.name.now in
    sym (one_of before name) ∙ sym c.contains.ensures ∙ (booleans_Decides c.contains.result c.contains-2.result).0 same ∙ c.contains-2.ensures ∙ one_of others name
