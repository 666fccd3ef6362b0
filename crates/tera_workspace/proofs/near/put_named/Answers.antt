use Rattle.std.proofs.Common.{◌≡◌, ◌∙◌, ◌∷◌, Bor, List, [], true, false, length, map, nat_eq, Some, sym, ap, subst}
use Rattle.std.specs.List.{list_any}
use Rattle.tera_workspace.specs.Near.{Adds, IsOneOf, numbers_in}
use Rattle.tera_workspace.specs.declared.judged.Judged.{Judged}
use Rattle.tera_workspace.proofs.NearSteps.{adds_nothing, adds_one, among, not_among, number_within}
use Rattle.tera_workspace.proofs.RenewedLemmas.{same_some}
use Rattle.tera_workspace.proofs.near.put_named.Goals as goal

abbrev now_of : List (Bor Judged) → List Judged
now_of below = map (λ (j : Bor Judged). j.now) below

pub returns-in_ok-push : goal.returns-in_ok-push
returns-in_ok-push c =
    let root = c.args.root.now in
    let below = c.args.below.now.items in
    let name = c.args.name.now in
    let near = c.args.near.now.items in
    let number = c.in-Some.number in
    let named : numbers_in root (now_of below) name ≡ Some number = sym c.number_of.ensures ∙ c.in-Some.is in
    let new : list_any (λ m. nat_eq m number) near ≡ false = sym (c.contains.ensures.value ∙ ap (list_any (λ m. nat_eq m number)) c.deref.ensures.value) ∙ c.if-not-contains.true in
    subst (Adds (numbers_in root (now_of below)) (length below) (name ∷ []) near) (sym c.in_ok-push.ensures.items)
    (adds_one (numbers_in root (now_of below)) (length below) name near number named (number_within root below name number named) (not_among near number new))

pub returns-else-not-contains : goal.returns-else-not-contains
returns-else-not-contains c =
    let root = c.args.root.now in
    let below = c.args.below.now.items in
    let name = c.args.name.now in
    let near = c.args.near.now.items in
    let number = c.in-Some.number in
    let named : numbers_in root (now_of below) name ≡ Some number = sym c.number_of.ensures ∙ c.in-Some.is in
    let has : list_any (λ m. nat_eq m number) near ≡ true =
    sym (c.contains.ensures.value ∙ ap (list_any (λ m. nat_eq m number)) c.deref.ensures.value) ∙ c.if-not-contains.false in
    adds_nothing (numbers_in root (now_of below)) (length below) name near (λ n is. subst (IsOneOf near) (same_some number n (sym named ∙ is)) (among near number has))
