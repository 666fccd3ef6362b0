use Rattle.std.proofs.Common.{◌≡◌, ◌∙◌, Some, sym, ap}
use Rattle.std.specs.Prelude.{slice_get}
use Rattle.std.specs.Cmp.Lexicographic.{slice_cmp}
use Rattle.std.specs.Option.{option_copied}
use Rattle.std.specs.Ordering.{nat_cmp}
use Rattle.tera_workspace.proofs.RenewsLemmas.{first_order, order_by}
use Rattle.tera_workspace.proofs.sites.order_of.Goals as goal

pub returns-in-Some-Some : goal.returns-in-Some-Some
returns-in-Some-Some c =
    let older = c.args.older.now in
    let newer = c.args.newer.now in
    let one : slice_get older 0 ≡ Some c.in-Some-Some.one.now = sym c.first.ensures.value ∙ ap option_copied c.in-Some-Some.is-0 in
    let other : slice_get newer 0 ≡ Some c.in-Some-Some.other.now = sym c.first-2.ensures.value ∙ ap option_copied c.in-Some-Some.is-1 in
    c.cmp.ensures ∙ (λ i. slice_cmp nat_cmp (c.as_str.ensures.value i) (c.as_str-in-Some-Some.ensures.value i)) ∙ sym (first_order older newer ∙ (λ i. order_by (one i) (other i)))

pub returns-in-Some-None : goal.returns-in-Some-None
returns-in-Some-None c =
    let older = c.args.older.now in
    let newer = c.args.newer.now in
    let one = sym c.first.ensures.value ∙ ap option_copied c.in-Some-None.is-0 in
    let other = sym c.first-2.ensures.value ∙ ap option_copied c.in-Some-None.is-1 in
    sym (first_order older newer ∙ (λ i. order_by (one i) (other i)))

pub returns-in-None-Some : goal.returns-in-None-Some
returns-in-None-Some c =
    let older = c.args.older.now in
    let newer = c.args.newer.now in
    let one = sym c.first.ensures.value ∙ ap option_copied c.in-None-Some.is-0 in
    let other = sym c.first-2.ensures.value ∙ ap option_copied c.in-None-Some.is-1 in
    sym (first_order older newer ∙ (λ i. order_by (one i) (other i)))

pub returns-in-None-None : goal.returns-in-None-None
returns-in-None-None c =
    let older = c.args.older.now in
    let newer = c.args.newer.now in
    let one = sym c.first.ensures.value ∙ ap option_copied c.in-None-None.is-0 in
    let other = sym c.first-2.ensures.value ∙ ap option_copied c.in-None-None.is-1 in
    sym (first_order older newer ∙ (λ i. order_by (one i) (other i)))
