-- One document of a site that says something else than before, those that extend it, and those to which a way leads from
-- one of these.
use Rattle.std.specs.Prelude.{◌≡◌, ◌≢◌, ◌<◌, ◌⊎◌, ℕ, List, [], ◌∷◌, Bool, true, Option, Some, unwrap_or, is_some, option_map, length, map, set, slice_get, string_bytes}
use Rattle.std.specs.List.{Contains}
use Rattle.tera_site.specs.Kept.{AreAboveAlike, is_one_of, kept_around, kept_page, kept_view, names_missing}
use Rattle.tera_site.specs.Pages.{PageVal}
use Rattle.tera_site.specs.Sites.{number_from, used_names}
use Rattle.tera_workspace.specs.Kept.{name_of}
use Rattle.tera_workspace.specs.KeptSites.{around_file, said_in, said_of}
use Rattle.tera_workspace.specs.SiteValues.{KeptSiteVal}
use Rattle.tera_workspace.specs.Sites.{AreRenewed, IsKeptOf, Said, name_below, names_said}
use Rattle.tera_workspace.specs.Sources.{AreInOrder}
use Rattle.tera_workspace.specs.declared.judged.Judged.{Judged}
use Rattle.tera_workspace.specs.declared.near.Difference.{Difference}
use Rattle.tera_workspace.specs.declared.near.Difference.TheVariants as differences
use Rattle.tera_workspace.specs.declared.near.Renewed.{Renewed}
use Rattle.tera_workspace.specs.declared.sites.KeptDocument.{KeptDocument}

-- ---- the documents of a site

abbrev pub own_name : List ℕ → Judged → List ℕ
own_name root j = unwrap_or (name_below root (name_of j)) []

pub record AreInSite (root : List ℕ) (js : List Judged) : Type 0 where
  pub ordered : AreInOrder (map name_of js)
  pub below : (k : ℕ) (j : Judged) → slice_get js k ≡ Some j → is_some (name_below root (name_of j)) ≡ true

-- the number of the template of a name
abbrev pub number_in : List ℕ → List Said → List ℕ → Option ℕ
number_in root saids n = number_from 0 (names_said root saids) n

abbrev pub numbers_in : List ℕ → List Judged → List ℕ → Option ℕ
numbers_in root js n = number_in root (map said_in js) n

-- ---- one of them changed

-- only the document of a number says something else than before
pub record IsOnlyOther (at : ℕ) (before now : List Said) : Type 0 where
  pub each : length before ≡ length now
  pub within : at < length now
  pub files : (k : ℕ) → option_map (λ x. x.file) (slice_get before k) ≡ option_map (λ x. x.file) (slice_get now k)
  pub rest : (k : ℕ) → (k ≡ at → ⊥) → slice_get before k ≡ slice_get now k

-- each name that a page uses is one of the other names now if it was one before, and only then; the same for all pages,
-- and for all but one
abbrev pub UsesSame : List (List ℕ) → List (List ℕ) → PageVal → Type 0
UsesSame was others p = (n : List ℕ) → Contains (used_names p) n → is_one_of was n ≡ is_one_of others n

abbrev pub UseSame : List (List ℕ) → List (List ℕ) → List Said → Type 0
UseSame was others saids = (k : ℕ) (x : Said) → slice_get saids k ≡ Some x → UsesSame was others x.page

abbrev pub RestUseSame : ℕ → List (List ℕ) → List (List ℕ) → List Said → Type 0
RestUseSame at was others saids = (k : ℕ) (x : Said) → (k ≡ at → ⊥) → slice_get saids k ≡ Some x → UsesSame was others x.page

-- how what they say differs, and which of them use other names
abbrev pub IsDifference : List (List ℕ) → List (List ℕ) → List Said → List Said → Difference → Type 0
IsDifference was others before now differences.Same = (before ≡ now) × UseSame was others before
IsDifference was others before now (differences.One at) = IsOnlyOther at before now × RestUseSame at was others before
IsDifference was others before now differences.Any = Unit {0}

-- it says the same to those that extend it
abbrev pub AreAlikeAt : ℕ → List Said → List Said → Type 0
AreAlikeAt at before now = (x y : Said) → slice_get before at ≡ Some x → slice_get now at ≡ Some y → AreAboveAlike x.page y.page

-- the name of a template is one of some, if it extends one of these
abbrev pub HasOwnBelow : List ℕ → (List ℕ → Bool) → Judged → Type 0
HasOwnBelow root has j = (n : List ℕ) → (kept_page j.page).parent ≡ Some n → has n ≡ true → has (own_name root j) ≡ true

-- the name of the template of a number is one of these names, and so are those of all that extend it, directly or indirectly
pub record HaveAllBelow (root : List ℕ) (at : ℕ) (js : List Judged) (has : List ℕ → Bool) : Type 0 where
  pub own : (j : Judged) → slice_get js at ≡ Some j → has (own_name root j) ≡ true
  pub all : (number : ℕ) (j : Judged) → slice_get js number ≡ Some j → HasOwnBelow root has j

-- what is above a template changes only for templates of these names
abbrev pub ConcernsThese : List ℕ → ℕ → List Said → List Judged → (List ℕ → Bool) → Type 0
ConcernsThese root at before js has = AreAlikeAt at before (map said_in js) ⊎ HaveAllBelow root at js has

-- ---- those to which a way leads

abbrev pub IsOneOf : List ℕ → ℕ → Type 0
IsOneOf numbers n = (k : ℕ) × (slice_get numbers k ≡ Some n)

-- these are numbers below a bound, each once
pub record AreRight (bound : ℕ) (numbers : List ℕ) : Type 0 where
  pub within : (k n : ℕ) → slice_get numbers k ≡ Some n → n < bound
  pub once : (k m n : ℕ) → slice_get numbers k ≡ Some n → slice_get numbers m ≡ Some n → k ≡ m

-- numbers are added, so that those of these names are among them
pub record Adds (numbered : List ℕ → Option ℕ) (bound : ℕ) (names : List (List ℕ)) (before now : List ℕ) : Type 0 where
  pub same : (k n : ℕ) → slice_get before k ≡ Some n → slice_get now k ≡ Some n
  pub right : AreRight bound before → AreRight bound now
  pub all : (name : List ℕ) (n : ℕ) → Contains names name → numbered name ≡ Some n → IsOneOf now n

-- the number of one, those of some names, and those of all to which a way leads from these, now or by these names
pub record AreNear (root : List ℕ) (saids : List Said) (at : ℕ) (names : List (List ℕ)) (has : List ℕ → Bool) (near : List ℕ) : Type 0 where
  pub first : slice_get near 0 ≡ Some at
  pub right : AreRight (length saids) near
  pub closed : (r : ℕ) (x : Said) (n : List ℕ) (j : ℕ) → IsOneOf near r → slice_get saids r ≡ Some x → Contains (used_names x.page) n → number_in root saids n ≡ Some j → IsOneOf near j
  pub old : (n : List ℕ) (j : ℕ) → Contains names n → number_in root saids n ≡ Some j → IsOneOf near j
  pub named : (n : List ℕ) (j : ℕ) → has n ≡ true → number_in root saids n ≡ Some j → IsOneOf near j

-- things of these numbers
pub record AreThose (near : List ℕ) (js those : List Judged) : Type 0 where
  pub each : length those ≡ length near
  pub are : (k n : ℕ) → slice_get near k ≡ Some n → slice_get those k ≡ slice_get js n

-- these in the places of those of some numbers
abbrev pub set_each : List KeptDocument → List ℕ → List KeptDocument → List KeptDocument
set_each kept [] documents = kept
set_each kept (n ∷ near) [] = kept
set_each kept (n ∷ near) (d ∷ documents) = set_each (set kept n d) near documents

-- the number is one of these, and something else is kept around its template now
pub record IsOtherNear (kept : List KeptDocument) (near : List ℕ) (documents : List KeptDocument) (number : ℕ) : Type 0 where
  pub place : ℕ
  pub before : KeptDocument
  pub now : KeptDocument
  pub near_is : slice_get near place ≡ Some number
  pub was : slice_get kept number ≡ Some before
  pub is : slice_get documents place ≡ Some now
  pub other : kept_view before.around ≢ kept_view now.around

-- these are exactly the numbers of such templates
pub record AreOthersNear (kept : List KeptDocument) (near : List ℕ) (documents : List KeptDocument) (numbers : List ℕ) : Type 0 where
  pub others : (number : ℕ) → IsOneOf numbers number → IsOtherNear kept near documents number
  pub same : (place number : ℕ) (d e : KeptDocument) → slice_get near place ≡ Some number → slice_get kept number ≡ Some d → slice_get documents place ≡ Some e
      → IsOneOf numbers number ⊎ (kept_view d.around ≡ kept_view e.around)

-- ---- what is kept then

-- the names that a template uses and that no template has
abbrev pub own_lacking : KeptDocument → List (List ℕ)
own_lacking d = names_missing (kept_around d.around) (used_names (kept_page d.page))

-- what is kept is by what the templates say
abbrev pub kept_with : List ℕ → List (List ℕ) → List (List ℕ) → List KeptDocument → KeptSiteVal
kept_with root others lacking kept = record { root = root; others = others; lacking = lacking; documents = map around_file kept }

pub record IsKeptBy (root : List ℕ) (others lacking : List (List ℕ)) (kept : List KeptDocument) : Type 0 where
  pub ordered : AreInOrder (map (λ d. d.file) (map around_file kept))
  pub fits : IsKeptOf (kept_with root others lacking kept) (map said_of kept)

-- .. with other names before of which all but the template of a number use the same
pub record IsKeptBut (at : ℕ) (root : List ℕ) (others lacking : List (List ℕ)) (kept : List KeptDocument) : Type 0 where
  pub was : List (List ℕ)
  pub kept_by : IsKeptBy root was lacking kept
  pub rest : RestUseSame at was others (map said_of kept)

abbrev pub kept_now : List KeptDocument → Renewed → List KeptDocument
kept_now kept r = set_each kept r.near.items r.documents.items

pub record IsRenewed (root : List ℕ) (others : List (List ℕ)) (kept : List KeptDocument) (js : List Judged) (r : Renewed) : Type 0 where
  pub near : AreRight (length kept) r.near.items
  pub each : length r.documents.items ≡ length r.near.items
  pub said : map said_of (kept_now kept r) ≡ map said_in js
  pub fits : IsKeptOf (kept_with root others (map string_bytes r.lacking.items) (kept_now kept r)) (map said_in js)
  pub names : AreRenewed (map string_bytes r.names.items) (map around_file kept) (map around_file (kept_now kept r))
