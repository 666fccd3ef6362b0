use Rattle.std.proofs.Common.{◌∙◌, sym}
use Rattle.tera_outline.proofs.NameParts.{link_taken, links_taken}
use Rattle.tera_outline.proofs.dotted.dotted.Goals as goal

pub links-preserved : goal.links-preserved
links-preserved c =
    let taken = link_taken c.args.pieces.now c.links.len c.links.invariant.within (sym c.begins_link.ensures ∙ c.links-test.true) c.links.invariant.whole in
    record { within = taken.0; whole = taken.1 }

pub returns-clause-name : goal.returns-clause-name
returns-clause-name c = links_taken c.args.pieces.now c.links.len (sym c.begins_link.ensures ∙ c.links-test.false) c.links.invariant.whole
