use Rattle.std.proofs.Common.{◌≡◌, arith, refl, subst}
use Rattle.tera_site.specs.Found.{AddsIf, AreAdded, is_named}
use Rattle.tera_site.specs.Views.{around_in}
use Rattle.tera_site.proofs.FoundLemmas.{added_step, none_yet}
use Rattle.tera_site.proofs.found.add_names.Goals as goal

pub loop-number-init : goal.loop-number-init
loop-number-init c = none_yet (around_in c.in_ok-site.site) c.args.names.now c.args.templates.now.items c.args.all.now.items

pub loop-number-preserved : goal.loop-number-preserved
loop-number-preserved c =
    let around = around_in c.in_ok-site.site in
    let names = c.args.names.now in
    let ts = c.args.templates.now.items in
    let number = c.loop-number.number in
    let mid = c.loop-number.all.items in
    let new = c.add_if_named.new.all.items in
    added_step around names ts number c.args.all.now.items mid c.loop-number.invariant new (is_named names number) refl
    (subst (λ a. AddsIf (is_named names number) a ts number mid new) c.around.ensures c.in_ok-add_if_named.ensures)

pub returns : goal.returns
returns c =
    let around = around_in c.in_ok-site.site in
    let number = c.loop-number.number in
    let ended : number ≡ c.args.checked = (let past = c.loop-number-test.false in let end = c.loop-number.auto.number-end in omega (arith, past, end)) in (
      around,
      c.in_ok-site.ensures,
      subst (λ n. AreAdded around c.args.names.now c.args.templates.now.items n c.args.all.now.items c.loop-number.all.items) ended c.loop-number.invariant,
    )
