-- What the code has of a site is around each template.
use Rattle.std.proofs.Common.{◌≡◌, ◌∙◌, ◌<◌, ◌⊎◌, inl, inr, ℕ, zero, suc, Bool, true, false, List, [], ◌∷◌, ◌++◌, Option, None, Some, Bor, length, get_or, map, refl, sym, ap, subst, arith}
use Rattle.std.specs.Prelude.{◌↔◌, ◌||◌, slice_get}
use Rattle.std.specs.BTreeSet.{contains_text}
use Rattle.std.specs.List.{Contains}
use Rattle.std.specs.Option.{is_some, option_map, option_map_or}
use Rattle.std.proofs.lemmas.List.{get_or-map, length-map}
use Rattle.std.proofs.lemmas.List.Elements.{Contains-append_left, Contains-append_right}
use Rattle.std.proofs.lemmas.Option.{get_or_from_slice_get, slice_get_within}
use Rattle.link_groups.specs.Groups.{AreGroups, AreOnCircles, IsOnCircle, Reaches, is_one_group, links_at}
use Rattle.link_groups.proofs.CircleLemmas.{back}
use Rattle.tera_site.specs.Pages.{PageVal}
use Rattle.tera_site.specs.Sites.{AreInherited, IsAround, SiteVal, if_any, leads, number_from, numbers_by, parent_names, parents, site_with, used_names}
use Rattle.tera_site.specs.Views.{around_in, has_name, under_name}
use Rattle.tera_site.specs.declared.site.Site.{Site}
use Rattle.tera_site.proofs.TourLemmas.{first_in, in_cases, later_in, no_way, none_in, None_Some, same_Some}

-- the number of a name that is used
if_any_in : (o : Option ℕ) (j : ℕ) → o ≡ Some j → Contains (if_any o) j
if_any_in None j is = absurd (None_Some j is)
if_any_in (Some k) j is = subst (λ m. Contains (m ∷ []) j) (sym (same_Some k j is)) (first_in j [])

pub number_in : (named : List ℕ → Option ℕ) (ns : List (List ℕ)) (n : List ℕ) (j : ℕ) → Contains ns n → named n ≡ Some j → Contains (numbers_by named ns) j
number_in named [] n j has is = absurd (none_in n has)
number_in named (m ∷ ms) n j has is = elim (in_cases m ms n has) [
  | inl same ↦ Contains-append_left (if_any (named m)) (numbers_by named ms) j (if_any_in (named m) j (ap named same ∙ is))
  | inr later ↦ Contains-append_right (if_any (named m)) (numbers_by named ms) j (number_in named ms n j later is)
]

module _ (names : List (Option (List ℕ))) (pages : List PageVal) (named : List ℕ → Option ℕ)
    (is_named : (n : List ℕ) → named n ≡ number_from 0 names n) where
  abbrev s : SiteVal
  s = site_with names pages

  -- the links that the code has
  pub links_are : (used : PageVal → List (List ℕ)) (links : List (List ℕ)) → links ≡ map (λ p. numbers_by named (used p)) pages
      → links ≡ map (λ p. numbers_by s.named (used p)) s.pages
  links_are used links is = is ∙ λ i. map (λ p. numbers_by (λ n. is_named n i) (used p)) pages

  -- what a template includes leads back to it, where both are in one group
  pub comes_back : (links : List (List ℕ)) (groups : List ℕ) → links ≡ leads s → AreGroups links groups
      → (number : ℕ) (p : PageVal) → slice_get s.pages number ≡ Some p → (n : List ℕ) → Contains p.includes n → (o : Option ℕ) → o ≡ s.named n
      → (option_map_or (λ other. is_one_group groups other number) o false ≡ true) ↔ ((j : ℕ) × (s.named n ≡ Some j) × Reaches (leads s) j number)
  comes_back links groups are h number p at n has None is = (
    λ held. absurd (no_way held),
    λ r. absurd (None_Some r.0 (is ∙ r.1)),
  )
  comes_back links groups are h number p at n has (Some j) is =
      let here : links_at (leads s) number ≡ numbers_by s.named (used_names p) =
      get_or-map (λ q. numbers_by s.named (used_names q)) s.pages number p [] (slice_get_within s.pages number p at)
      ∙ ap (λ q. numbers_by s.named (used_names q)) (get_or_from_slice_get s.pages number p p at) in
      let link : Contains (links_at links number) j =
      subst (λ xs. Contains (links_at xs number) j) (sym are) (subst (λ xs. Contains xs j) (sym here)
      (number_in s.named (used_names p) n j (Contains-append_right (if_any p.parent) p.includes n has) (sym is))) in
      let both = back links groups h j number link in (
        λ held. (j, sym is, subst (λ xs. Reaches xs j number) are (both.0 held)),
        λ r. let (k, there, leads_back) = r in both.1 (subst (λ xs. Reaches xs j number) (sym are)
            (subst (λ m. Reaches (leads s) m number) (same_Some k j (sym there ∙ sym is)) leads_back)),
      )

  pub on_circle : (links : List (List ℕ)) (on : List Bool) → links ≡ parents s → AreOnCircles links on
      → (number : ℕ) (p : PageVal) → slice_get s.pages number ≡ Some p → (get_or on number false ≡ true) ↔ IsOnCircle (parents s) number
  on_circle links on are h number p at =
      let inside : number < length links =
      (let within = slice_get_within s.pages number p at in let l = length-map s.pages (λ q. numbers_by s.named (parent_names q)) in let e = ap length are in omega (arith, within, l, e)) in
      subst (λ xs. (get_or on number false ≡ true) ↔ IsOnCircle xs number) are (h.circles number inside)

-- a site that has all of this
pub record IsMade (names : List (Option (List ℕ))) (others : List ℕ → Bool) (pages : List PageVal) (links ties : List (List ℕ)) (site : Site) : Type 0 where
  pub named : (n : List ℕ) → under_name site.numbers n ≡ number_from 0 names n
  pub rest : (n : List ℕ) → contains_text site.others.now n ≡ others n
  pub up : links ≡ map (λ p. numbers_by (under_name site.numbers) (parent_names p)) pages
  pub used : ties ≡ map (λ p. numbers_by (under_name site.numbers) (used_names p)) pages
  pub circles : AreOnCircles links site.circular.items
  pub groups : AreGroups ties site.groups.items
  pub inherited : (s : SiteVal) → s.pages ≡ pages → links ≡ parents s → (number : ℕ) (p : PageVal) → slice_get s.pages number ≡ Some p
      → AreInherited s p (option_map has_name (get_or site.inherited.items number None))

pub all_around : (names : List (Option (List ℕ))) (others : List ℕ → Bool) (pages : List PageVal) (links ties : List (List ℕ)) (site : Site)
    → IsMade names others pages links ties site → (number : ℕ) (p : PageVal) → slice_get pages number ≡ Some p
    → IsAround (site_with names pages) others number p (around_in site number)
all_around names others pages links ties site h number p at =
    let named = under_name site.numbers in
    let ups = links_are names pages named h.named parent_names links h.up in
    let leading = links_are names pages named h.named used_names ties h.used in
    record {
      has = λ n. λ i. is_some (h.named n i) || h.rest n i;
      extends_itself = on_circle names pages named h.named links site.circular.items ups h.circles number p at;
      comes_back = λ n has. comes_back names pages named h.named ties site.groups.items leading h.groups number p at n has (named n) (h.named n);
      inherited = h.inherited (site_with names pages) refl ups number p at;
    }
