use Rattle.std.proofs.Common.{map, reverse, sym, subst}
use Rattle.std.proofs.lemmas.List.{length-map}
use Rattle.link_groups.specs.Walks.{IsWalkOf}
use Rattle.link_groups.proofs.Paths.{begun}
use Rattle.link_groups.proofs.walk.Walk.new.Goals as goal

pub returns-clause-walk : goal.returns-clause-walk
returns-clause-walk c =
    let links = map (λ l. l.items) c.args.links.now in
    let ps = c.in_ok-all_new.field-0.items in
    subst (λ ks. IsWalkOf links ps (reverse ks) 0 0) (sym c.new.ensures.items)
    (begun links c.args.links.now ps c.in_ok-all_new.ensures (sym (length-map c.args.links.now (λ l. l.items))))
