use Rattle.std.proofs.Common.{◌≡◌, ℕ, List, Bool, arith, subst}
use Rattle.tera_check.specs.Added.{AreAdded}
use Rattle.tera_check.specs.UnusedComponents.{due_unused_components, is_called, may_be_called}
use Rattle.tera_check.proofs.AddedLemmas.{added_more, none_yet}
use Rattle.tera_check.proofs.FoundLemmas.{same_answers}
use Rattle.tera_check.proofs.unused_components.add_unused_components.Goals as goal

pub loop-number-init : goal.loop-number-init
loop-number-init c = none_yet (due_unused_components (is_called c.in_ok-called.called)) c.args.templates.now.items c.args.all.now.items

pub loop-number-preserved : goal.loop-number-preserved
loop-number-preserved c =
    added_more (due_unused_components (is_called c.in_ok-called.called)) c.args.templates.now.items c.loop-number.number c.args.all.now.items
    c.loop-number.all.items c.add_at.new.all.items c.loop-number.invariant c.in_ok-add_at.ensures

pub returns : goal.returns
returns c =
    let ts = c.args.templates.now.items in
    let number = c.loop-number.number in
    let called = is_called c.in_ok-called.called in
    let ended : number ≡ c.args.checked = (let past = c.loop-number-test.false in let end = c.loop-number.auto.number-end in omega (arith, past, end)) in
    let same : called ≡ may_be_called ts = same_answers called (may_be_called ts) c.in_ok-called.ensures in
    subst (λ (may : List ℕ → Bool). AreAdded (due_unused_components may) ts c.args.checked c.args.all.now.items c.loop-number.all.items) same
    (subst (λ n. AreAdded (due_unused_components called) ts n c.args.all.now.items c.loop-number.all.items) ended c.loop-number.invariant)
