use Rattle.std.proofs.Common.{◌≡◌, ◌∙◌, ◌∷◌, ◌<◌, inl, inr, ℕ, List, [], Bor, ap, get_or, length, subst, sym, take}
use Rattle.std.specs.List.{Contains}
use Rattle.std.proofs.lemmas.List.{get_or_default, take_all}
use Rattle.std.proofs.lemmas.List.Elements.{Contains-append_cases}
use Rattle.tera_site.specs.Kept.{is_one_of, kept_page, names_in}
use Rattle.tera_site.specs.Sites.{used_names}
use Rattle.tera_site.specs.Views.{names_of}
use Rattle.tera_site.proofs.CountLemmas.{names_more}
use Rattle.tera_workspace.specs.KeptSites.{names_before}
use Rattle.tera_workspace.proofs.NearSteps.{only_one}
use Rattle.tera_workspace.proofs.near.uses_same.Goals as goal

pub loop-name-preserved : goal.loop-name-preserved
loop-name-preserved c = λ n has.
    let bs = c.deref-name-items.result.now in
    let at = c.loop-name.name-index in
    let d : Bor (List ℕ) = record { ref_ptr = (0, 0); now = [] } in
    let b = get_or bs at d in
    let within : at < length bs = c.loop-name-test.true in
    elim (Contains-append_cases (names_of (take at bs)) (b.now ∷ []) n (subst (λ ns. Contains ns n) (names_more bs at b within (get_or_default bs at b d within)) has)) [
      | inl first ↦ c.loop-name.invariant n first
      | inr last ↦
          subst (λ m. is_one_of (names_in c.in-Some.before) m ≡ is_one_of (names_in c.args.others.now) m) (only_one b.now n last) (c.have_same.ensures c.if-not-have_same.false)
    ]

pub returns : goal.returns
returns c = λ same n has.
    let named : names_of (take c.loop-name.name-index c.deref-name-items.result.now) ≡ used_names (kept_page c.args.page.now) =
    ap names_of (take_all c.loop-name.name-index c.deref-name-items.result.now c.loop-name-test.false ∙ c.deref-name-items.ensures.value) ∙ c.in_ok-used_names.ensures ∙ ap used_names c.in_ok-page.ensures in
    subst (λ o. is_one_of (names_before o c.args.others.now) n ≡ is_one_of (names_in c.args.others.now) n) (sym c.in-Some.is)
    (c.loop-name.invariant n (subst (λ ns. Contains ns n) (sym named) has))
