use Rattle.std.proofs.Common.{◌∙◌, map, reverse, subst, sym}
use Rattle.link_groups.specs.Walks.{IsWalkOf}
use Rattle.link_groups.proofs.Paths.{none_from}
use Rattle.link_groups.proofs.walk.Walk.open_if_new.Goals as goal

pub open-requires-clause-from : goal.open-requires-clause-from
open-requires-clause-from c = λ i m is.
    let w = c.args.self.now in
    let links = map (λ l. l.items) w.links.now in
    absurd (none_from links w.places.items w.opened w.closed
    (subst (λ ks. IsWalkOf links w.places.items (reverse ks) w.opened w.closed) c.requires.path c.requires.walk) i m is)

pub returns-in_default-clause-met : goal.returns-in_default-clause-met
returns-in_default-clause-met c = (λ i is. is, λ is. c.in_default.not-New (c.place_of.ensures ∙ is))
