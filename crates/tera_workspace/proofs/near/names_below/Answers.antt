use Rattle.std.proofs.Common.{◌≡◌, ◌∙◌, Bor, Some, true, sym, subst}
use Rattle.std.specs.Prelude.{slice_get}
use Rattle.std.proofs.lemmas.List.{get_or_read}
use Rattle.tera_workspace.specs.Names.{contains_name}
use Rattle.tera_workspace.specs.Near.{own_name}
use Rattle.tera_workspace.specs.declared.judged.Judged.{Judged}
use Rattle.tera_workspace.proofs.NearSteps.{at_index}
use Rattle.tera_workspace.proofs.RenewedLemmas.{same_some, viewed}
use Rattle.tera_workspace.proofs.near.names_below.Goals as goal

pub loop-pass-init : goal.loop-pass-init
loop-pass-init c = λ j here.
    let below = c.args.below.now.items in
    let at = c.args.at in
    let b = c.index.result.now in
    let is : slice_get below at ≡ Some b = at_index below at b c.requires.within (get_or_read below at b c.requires.within c.index.ensures b) in
    let j_is : b.now ≡ j = same_some b.now j (sym (viewed (λ (x : Bor Judged). x.now) below at b is) ∙ here) in
    subst (λ (x : Judged). contains_name c.put_name.new.names (own_name c.args.root.now x) ≡ true) j_is
    (subst (λ m. contains_name c.put_name.new.names m ≡ true) c.own_name.ensures c.in_ok-put_name.ensures.has)

pub loop-pass-preserved : goal.loop-pass-preserved
loop-pass-preserved c = λ j here. c.in_ok-put_below.ensures.more (own_name c.args.root.now j) (c.loop-pass.invariant j here)

pub returns-then-not-branch : goal.returns-then-not-branch
returns-then-not-branch c = record {
  own = λ j here. c.in_ok-put_below.ensures.more (own_name c.args.root.now j) (c.loop-pass.invariant j here);
  all = c.in_ok-put_below.ensures.all c.if-not-branch.true;
}
