-- What is known on the way down from templates that extend none to those that extend them.
use Rattle.std.specs.Prelude.{◌≡◌, ◌⊎◌, ◌<◌, ℕ, List, [], ◌∷◌, ◌++◌, Bool, true, Option, None, Some, length, reverse, slice_get, slice_index_or, unwrap_or}
use Rattle.std.specs.BTreeMap.{BTreeMap}
use Rattle.std.specs.BTreeSet.{BTreeSet}
use Rattle.std.specs.Borrow.{Bor}
use Rattle.std.specs.List.{Contains, count_by, flat_map}
use Rattle.std.specs.Option.{is_some, option_map}
use Rattle.std.specs.Str.{bytes_eq}
use Rattle.link_groups.specs.Groups.{Reaches}
use Rattle.tera_site.specs.Pages.{PageVal}
use Rattle.tera_site.specs.Sites.{Above, AreInherited, SiteVal, if_any, parents}
use Rattle.tera_site.specs.Views.{has_name, under_name}
use Rattle.tera_site.specs.declared.above.Step.{Step}
use Rattle.tera_site.specs.declared.above.Step.TheVariants.{Enter, Leave}
use Rattle.tera_site.specs.declared.above.Tour.{Tour}

-- the pages on the way: those that one of the steps to come, the next first, will leave
abbrev pub way : List PageVal → List Step → List PageVal
way ps [] = []
way ps (Enter n ∷ rest) = way ps rest
way ps (Leave n ∷ rest) = if_any (slice_get ps n) ++ way ps rest

-- the pages above a page that is entered are those on the way
abbrev pub IsWay : SiteVal → List Step → Type 0
IsWay s [] = Unit {0}
IsWay s (Enter n ∷ rest) = ((p : PageVal) → slice_get s.pages n ≡ Some p → Above s p.parent (way s.pages rest)) × IsWay s rest
IsWay s (Leave n ∷ rest) = IsWay s rest

-- how many blocks of a name these pages have
abbrev pub blocks_of : List PageVal → List (List ℕ)
blocks_of ps = flat_map (λ p. p.blocks) ps

abbrev pub count_of : List ℕ → List PageVal → ℕ
count_of n ps = count_by (bytes_eq n) (blocks_of ps)

-- what is known of a page is right
abbrev pub AreKnown : SiteVal → List (Option (BTreeSet (Bor (List ℕ)))) → Type 0
AreKnown s inherited =
    (n : ℕ) (p : PageVal) (names : BTreeSet (Bor (List ℕ))) → slice_get s.pages n ≡ Some p
    → slice_index_or inherited n None ≡ Some names → AreInherited s p (Some (has_name names))

-- if this can be known of a page, it is known, or the page is below one that will be entered
abbrev pub AreToCome : SiteVal → List (Option (BTreeSet (Bor (List ℕ)))) → List Step → Type 0
AreToCome s inherited steps =
    (n : ℕ) (p : PageVal) (above : List PageVal) → slice_get s.pages n ≡ Some p → p.is_whole ≡ true → Above s p.parent above
    → (is_some (slice_index_or inherited n None) ≡ true) ⊎ ((top : ℕ) × Contains steps (Enter top) × Reaches (parents s) n top)

pub record IsTourOf (s : SiteVal) (steps : List Step) (counts : BTreeMap (Bor (List ℕ)) ℕ) (inherited : List (Option (BTreeSet (Bor (List ℕ))))) : Type 0 where
  pub each : length inherited ≡ length s.pages
  pub above : IsWay s steps
  pub counted : (n : List ℕ) → unwrap_or (under_name counts n) 0 ≡ count_of n (way s.pages steps)
  pub known : AreKnown s inherited
  pub to_come : AreToCome s inherited steps

abbrev pub IsTour : SiteVal → Tour → Type 0
IsTour s t = IsTourOf s (reverse t.steps.items) t.counts t.inherited.items

-- the first steps enter the pages that extend none: among those before a number, and among all
pub record AreTopsTo (ps : List PageVal) (at : ℕ) (steps : List Step) : Type 0 where
  pub all : (n : ℕ) (p : PageVal) → n < at → slice_get ps n ≡ Some p → p.parent ≡ None → Contains steps (Enter n)
  pub only : (n : ℕ) (p : PageVal) → Contains steps (Enter n) → slice_get ps n ≡ Some p → p.parent ≡ None
  pub none : (n : ℕ) → Contains steps (Leave n) → ⊥

abbrev pub AreTops : List PageVal → List Step → Type 0
AreTops ps steps = AreTopsTo ps (length ps) steps
