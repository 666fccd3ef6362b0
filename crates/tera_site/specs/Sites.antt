-- The templates of a site by their names, and what is around each of them.
use Rattle.std.specs.Prelude.{◌≡◌, ◌↔◌, ◌⊎◌, ℕ, suc, List, [], ◌∷◌, ◌++◌, Bool, true, false, ◌||◌, cond, map, Option, None, Some, slice_get}
use Rattle.std.specs.List.{Contains, flat_map, list_any}
use Rattle.std.specs.Option.{is_some}
use Rattle.std.specs.Str.{bytes_eq}
use Rattle.link_groups.specs.Groups.{IsOnCircle, Reaches}
use Rattle.tera_templates.specs.declared.templates.Template.{Template}
use Rattle.tera_site.specs.Pages.{PageVal, page_of}

-- the templates: the number of each by its name, and what each says
pub record SiteVal : Type 0 where
  pub named : List ℕ → Option ℕ
  pub pages : List PageVal

-- the number of the first template of a name, from a number on; a template whose name is not known has none
abbrev pub is_name : Option (List ℕ) → List ℕ → Bool
is_name None n = false
is_name (Some m) n = bytes_eq m n

abbrev pub number_from : ℕ → List (Option (List ℕ)) → List ℕ → Option ℕ
number_from at [] n = None
number_from at (m ∷ ms) n = cond (is_name m n) (Some at) (number_from (suc at) ms n)

abbrev pub site_with : List (Option (List ℕ)) → List PageVal → SiteVal
site_with names pages = record { named = number_from 0 names; pages = pages }

-- ---- where the names of a page lead

abbrev pub if_any : {X : Type 0} → Option X → List X
if_any None = []
if_any (Some x) = x ∷ []

abbrev pub numbers_by : (List ℕ → Option ℕ) → List (List ℕ) → List ℕ
numbers_by named ns = flat_map (λ n. if_any (named n)) ns

-- to the template that each extends; and also to those that it includes
abbrev pub parent_names : PageVal → List (List ℕ)
parent_names p = if_any p.parent

abbrev pub used_names : PageVal → List (List ℕ)
used_names p = if_any p.parent ++ p.includes

abbrev pub parents : SiteVal → List (List ℕ)
parents s = map (λ p. numbers_by s.named (parent_names p)) s.pages

abbrev pub leads : SiteVal → List (List ℕ)
leads s = map (λ p. numbers_by s.named (used_names p)) s.pages

-- ---- the templates above one

-- The pages that a template extends, directly or not, if it extends the template of a name, or none. All of them are
-- known: each is there, and whole; and there is an end.
pub data Above (s : SiteVal) : Option (List ℕ) → List PageVal → Type 0 where
  Top : Above s None []
  Below : (n : List ℕ) (i : ℕ) (p : PageVal) (more : List PageVal) → s.named n ≡ Some i → slice_get s.pages i ≡ Some p
      → p.is_whole ≡ true → Above s p.parent more → Above s (Some n) (p ∷ more)

abbrev pub has_block : List ℕ → PageVal → Bool
has_block n p = list_any (bytes_eq n) p.blocks

-- ---- what is around a template, by the names that it uses

pub record AroundVal : Type 0 where
  -- there is a template of this name
  pub has : List ℕ → Bool
  -- what the template extends leads back to it, by what templates extend
  pub extends_itself : Bool
  -- the template of this name leads back to it, by what templates extend and include
  pub comes_back : List ℕ → Bool
  -- whether a template that it extends, directly or not, has a block of this name; none if not all of these are known
  pub inherited : Option (List ℕ → Bool)

-- which of the blocks of a page are above it too; that is known if the page and all above it are whole
abbrev pub AreInherited : SiteVal → PageVal → Option (List ℕ → Bool) → Type 0
AreInherited s p None = p.is_whole ≡ true → (above : List PageVal) → Above s p.parent above → ⊥
AreInherited s p (Some inherited) =
    (p.is_whole ≡ true) × ((above : List PageVal) × Above s p.parent above
    × ((n : List ℕ) → has_block n p ≡ true → inherited n ≡ list_any (has_block n) above))

-- This is around the template of a number, in a site that has templates of other names too.
pub record IsAround (s : SiteVal) (others : List ℕ → Bool) (number : ℕ) (p : PageVal) (a : AroundVal) : Type 0 where
  pub has : (n : List ℕ) → a.has n ≡ (is_some (s.named n) || others n)
  pub extends_itself : (a.extends_itself ≡ true) ↔ IsOnCircle (parents s) number
  pub comes_back : (n : List ℕ) → Contains p.includes n
      → (a.comes_back n ≡ true) ↔ ((j : ℕ) × (s.named n ≡ Some j) × Reaches (leads s) j number)
  pub inherited : AreInherited s p a.inherited

-- this holds for each of some pages; and for the templates
abbrev pub IsSiteOf : List (Option (List ℕ)) → (List ℕ → Bool) → List PageVal → (ℕ → AroundVal) → Type 0
IsSiteOf names others pages around =
    (number : ℕ) (p : PageVal) → slice_get pages number ≡ Some p → IsAround (site_with names pages) others number p (around number)

abbrev pub IsSite : List (Option (List ℕ)) → (List ℕ → Bool) → List Template → (ℕ → AroundVal) → Type 0
IsSite names others ts around = IsSiteOf names others (map page_of ts) around
