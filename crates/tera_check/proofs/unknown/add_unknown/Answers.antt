use Rattle.std.proofs.Common.{◌≡◌, arith, subst}
use Rattle.tera_rules.specs.Registered.{registered_view}
use Rattle.tera_check.specs.Unknown.{AreWithUnknown, due_unknown}
use Rattle.tera_check.proofs.AddedLemmas.{added_more, none_yet}
use Rattle.tera_check.proofs.unknown.add_unknown.Goals as goal

pub loop-number-init : goal.loop-number-init
loop-number-init c = none_yet (due_unknown (registered_view c.args.registered.now)) c.args.templates.now.items c.args.all.now.items

pub loop-number-preserved : goal.loop-number-preserved
loop-number-preserved c =
    added_more (due_unknown (registered_view c.args.registered.now)) c.args.templates.now.items c.loop-number.number c.args.all.now.items c.loop-number.all.items
    c.add_at.new.all.items c.loop-number.invariant c.in_ok-add_at.ensures

pub returns : goal.returns
returns c =
    let number = c.loop-number.number in
    let ended : number ≡ c.args.checked = (let past = c.loop-number-test.false in let end = c.loop-number.auto.number-end in omega (arith, past, end)) in
    subst (λ n. AreWithUnknown (registered_view c.args.registered.now) c.args.templates.now.items n c.args.all.now.items c.loop-number.all.items) ended c.loop-number.invariant
