use Rattle.std.proofs.Common.{◌≡◌, ◌∙◌, map, reverse, sym}
use Rattle.std.specs.List.{Contains}
use Rattle.link_groups.proofs.Paths.{pushed}
use Rattle.link_groups.proofs.Steps.{group_passed, is_passed, last_in, leads_before, leads_on}
use Rattle.link_groups.proofs.walk.Walk.follow.Goals as goal

pub open-requires-clause-walk : goal.open-requires-clause-walk
open-requires-clause-walk c =
    let w = c.args.self.now in
    pushed (map (λ l. l.items) w.links.now) w.places.items w.knots.items c.push.new.self.items c.args.knot w.opened w.closed c.in_ok-push-in-New.ensures.items c.requires.walk

pub open-requires-clause-new : goal.open-requires-clause-new
open-requires-clause-new c = sym c.in-New.ensures

pub open-requires-clause-from : goal.open-requires-clause-from
open-requires-clause-from c =
    let w = c.args.self.now in
    let (rest, is) = c.in-Some.ensures in
    leads_on (map (λ l. l.items) w.links.now) w.places.items c.args.knot (reverse w.knots.items) w.opened w.closed c.in-Some.next c.requires.walk
    (last_in rest c.args.knot.links.items c.in-Some.next is)

pub tie-requires-clause-back : goal.tie-requires-clause-back
tie-requires-clause-back c =
    let w = c.args.self.now in
    let (rest, is) = c.in-Some.ensures in
    leads_before (map (λ l. l.items) w.links.now) w.places.items c.args.knot (reverse w.knots.items) w.opened w.closed c.in-Some.next c.in-Open.number c.requires.walk
    (last_in rest c.args.knot.links.items c.in-Some.next is) (sym c.in-Open.ensures) c.if-number-knot.true

pub pass-requires-clause-followed : goal.pass-requires-clause-followed
pass-requires-clause-followed c = is_passed c.args.knot.first c.in-Open.number _ (sym c.in-Open.ensures) c.if-number-knot.false

pub pass-requires-in-Closed-clause-followed : goal.pass-requires-in-Closed-clause-followed
pass-requires-in-Closed-clause-followed c = group_passed c.args.knot.first _ _ (sym c.in-Closed.ensures)
