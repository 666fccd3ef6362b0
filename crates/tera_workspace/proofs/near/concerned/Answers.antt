use Rattle.std.proofs.Common.{◌≡◌, ◌∙◌, ◌⊎◌, Bor, Option, None, Some, MatchOption, inl, inr, map, sym, subst}
use Rattle.std.specs.Prelude.{slice_get}
use Rattle.std.proofs.lemmas.List.{get_or_read}
use Rattle.std.proofs.lemmas.Result.{IfOk-weaker}
use Rattle.tera_site.specs.Kept.{AreAboveAlike, kept_page}
use Rattle.tera_workspace.specs.KeptSites.{said_in, said_of}
use Rattle.tera_workspace.specs.Sites.{Said}
use Rattle.tera_workspace.specs.declared.judged.Judged.{Judged}
use Rattle.tera_workspace.proofs.NearSteps.{at_index}
use Rattle.tera_workspace.proofs.RenewedLemmas.{same_some, viewed}
use Rattle.tera_workspace.proofs.near.concerned.Goals as goal

pub returns-then-same_above : goal.returns-then-same_above
returns-then-same_above c =
    let kept = c.args.kept.now.items in
    let below = c.args.below.now.items in
    let at = c.args.at in
    let d = c.index.result.now in
    let b = c.index-2.result.now in
    let js = map (λ (j : Bor Judged). j.now) below in
    let old : slice_get (map said_of kept) at ≡ Some (said_of d) = viewed said_of kept at d (at_index kept at d c.requires.kept (get_or_read kept at d c.requires.kept c.index.ensures d)) in
    let new : slice_get (map said_in js) at ≡ Some (said_in b.now) =
    viewed said_in js at b.now (viewed (λ (j : Bor Judged). j.now) below at b (at_index below at b c.requires.below (get_or_read below at b c.requires.below c.index-2.ensures b))) in
    inl (λ x y here there.
    let x_is : said_of d ≡ x = same_some (said_of d) x (sym old ∙ here) in
    let y_is : said_in b.now ≡ y = same_some (said_in b.now) y (sym new ∙ there) in
    subst (λ (z : Said). AreAboveAlike z.page y.page) x_is (subst (λ (z : Said). AreAboveAlike (kept_page d.page) z.page) y_is (c.same_above.ensures.0 c.if-same_above.true)))

some_right : {X : Type 0} (P Q : X → Type 0) (o : Option X) → MatchOption o (Unit {0}) Q → MatchOption o (Unit {0}) (λ x. P x ⊎ Q x)
some_right P Q None h = tt
some_right P Q (Some x) h = inr h

pub returns : goal.returns
returns c = IfOk-weaker c.names_below.result _ _ (λ o h. some_right _ _ o h) c.names_below.ensures
