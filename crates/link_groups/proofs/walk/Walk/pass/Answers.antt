use Rattle.std.proofs.Common.{◌≡◌, ◌++◌, ◌∷◌, [], map, reverse, refl, sym, ap, subst, ◌∙◌}
use Rattle.link_groups.specs.Walks.{IsWalkOf}
use Rattle.link_groups.proofs.Paths.{reverse_push}
use Rattle.link_groups.proofs.Steps.{link_followed}
use Rattle.link_groups.proofs.walk.Walk.pass.Goals as goal

pub returns-clause-walk : goal.returns-clause-walk
returns-clause-walk c =
    let w = c.args.self.now in
    let j = c.without_last.result in
    let (rest, is) = c.requires.last in (
      subst (λ ks. IsWalkOf (map (λ l. l.items) w.links.now) w.places.items ks w.opened w.closed)
          (sym (ap reverse c.in_ok-push.ensures.items ∙ reverse_push w.knots.items j))
          (link_followed (map (λ l. l.items) w.links.now) w.places.items c.args.knot j (reverse w.knots.items) w.opened w.closed c.args.next
          c.without_last.ensures.others.0 c.without_last.ensures.others.1
          (subst (λ xs. c.args.knot.links.items ≡ xs ++ c.args.next ∷ []) (sym (c.without_last.ensures.links rest c.args.next is)) is)
          c.requires.followed c.requires.walk),
      refl,
    )
