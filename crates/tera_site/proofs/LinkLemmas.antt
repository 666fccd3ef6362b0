-- Where the names of pages lead, by the numbers of the templates that have them.
use Rattle.std.proofs.Common.{◌≡◌, ◌∙◌, ℕ, zero, suc, List, [], ◌∷◌, ◌++◌, Option, None, Some, inl, inr, map, refl, sym, ap, subst}
use Rattle.std.specs.Prelude.{slice_get}
use Rattle.std.specs.List.{Contains}
use Rattle.std.proofs.lemmas.List.Elements.{Contains-append_cases, Contains-append_left}
use Rattle.link_groups.specs.Groups.{links_at}
use Rattle.tera_site.specs.Pages.{PageVal}
use Rattle.tera_site.specs.Sites.{if_any, numbers_by, parent_names, used_names}
use Rattle.tera_site.proofs.AroundLemmas.{number_in}
use Rattle.tera_site.proofs.TourLemmas.{None_Some, first_in, in_cases, later_in, none_in, same_Some}

-- a number is one of these
abbrev pub IsAmong : List ℕ → ℕ → Type 0
IsAmong numbers n = (k : ℕ) × (slice_get numbers k ≡ Some n)

-- ---- links of the page of a number

pub link_page : (f : PageVal → List ℕ) (ps : List PageVal) (i j : ℕ) → Contains (links_at (map f ps) i) j → (p : PageVal) × (slice_get ps i ≡ Some p) × Contains (f p) j
link_page f [] i j has = absurd (none_in j has)
link_page f (p ∷ ps) zero j has = (p, refl, has)
link_page f (p ∷ ps) (suc i) j has = link_page f ps i j has

pub page_link : (f : PageVal → List ℕ) (ps : List PageVal) (i j : ℕ) (p : PageVal) → slice_get ps i ≡ Some p → Contains (f p) j → Contains (links_at (map f ps) i) j
page_link f [] i j p here has = absurd (None_Some p here)
page_link f (q ∷ ps) zero j p here has = subst (λ x. Contains (f x) j) (sym (same_Some q p here)) has
page_link f (q ∷ ps) (suc i) j p here has = page_link f ps i j p here has

-- ---- the names that lead there

if_any_is : (o : Option ℕ) (j : ℕ) → Contains (if_any o) j → o ≡ Some j
if_any_is None j has = absurd (none_in j has)
if_any_is (Some k) j has = elim (in_cases k [] j has) [ inl same ↦ ap Some same | inr more ↦ absurd (none_in j more) ]

name_of_number : (named : List ℕ → Option ℕ) (ns : List (List ℕ)) (j : ℕ) → Contains (numbers_by named ns) j → (n : List ℕ) × Contains ns n × (named n ≡ Some j)
name_of_number named [] j has = absurd (none_in j has)
name_of_number named (m ∷ ms) j has = elim (Contains-append_cases (if_any (named m)) (numbers_by named ms) j has) [
  | inl first ↦ (m, first_in m ms, if_any_is (named m) j first)
  | inr later ↦ let (n, there, is) = name_of_number named ms j later in (n, later_in m ms n there, is)
]

abbrev pub links_by : (List ℕ → Option ℕ) → (PageVal → List (List ℕ)) → List PageVal → List (List ℕ)
links_by named used ps = map (λ p. numbers_by named (used p)) ps

-- a link is by a name that the page uses
pub by_name : (named : List ℕ → Option ℕ) (used : PageVal → List (List ℕ)) (ps : List PageVal) (i j : ℕ) → Contains (links_at (links_by named used ps) i) j
    → (p : PageVal) × (slice_get ps i ≡ Some p) × ((n : List ℕ) × Contains (used p) n × (named n ≡ Some j))
by_name named used ps i j link =
    let (p, here, has) = link_page (λ q. numbers_by named (used q)) ps i j link in
    (p, here, name_of_number named (used p) j has)

pub name_links : (named : List ℕ → Option ℕ) (used : PageVal → List (List ℕ)) (ps : List PageVal) (i j : ℕ) (p : PageVal) (n : List ℕ) → slice_get ps i ≡ Some p → Contains (used p) n → named n ≡ Some j
    → Contains (links_at (links_by named used ps) i) j
name_links named used ps i j p n here has is = page_link (λ q. numbers_by named (used q)) ps i j p here (number_in named (used p) n j has is)

-- what a template extends it uses
pub parent_used : (p : PageVal) (n : List ℕ) → Contains (parent_names p) n → Contains (used_names p) n
parent_used p n has = Contains-append_left (if_any p.parent) p.includes n has
