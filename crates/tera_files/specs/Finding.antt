-- Which files paths mean.
use Rattle.std.specs.Prelude.{◌≡◌, ◌≢◌, ◌⊎◌, ◌<◌, ℕ, List, [], ◌∷◌, ◌++◌, All, AllPairs, Any, Contains, MatchOption, codes, length, map, string_bytes, vec_len}
use Rattle.std.specs.List.{AllZip, flat_map}
use Rattle.tera_files.specs.Below.{AreTemplates, IsUnlisted, path_of}
use Rattle.tera_files.specs.Listing.{AddsFile}
use Rattle.tera_files.specs.declared.below.Template.{Template}
use Rattle.tera_files.specs.declared.finding.Found.{Found}
use Rattle.tera_files.specs.declared.listing.Listing.{Listing}

-- A path means these files: itself, or templates below it, in order. What was met before or is left out is not among them.
abbrev pub AreOf : List (List ℕ) → List ℕ → List (List ℕ) → Type 0
AreOf extensions path files = (files ≡ path ∷ []) ⊎ AreTemplates extensions path files

-- It adds the files that it means after the others.
pub record AddsAll (extensions : List (List ℕ)) (path : List ℕ) (old new : List (List ℕ)) : Type 0 where
  pub more : List (List ℕ)
  pub following : new ≡ old ++ more
  pub of_path : AreOf extensions path more

-- These files are those of each path in turn.
pub record AreOfAll (extensions paths files : List (List ℕ)) : Type 0 where
  pub pieces : List (List (List ℕ))
  pub joined : files ≡ flat_map (λ piece. piece) pieces
  pub each : AllZip (AreOf extensions) paths pieces

-- `-`
abbrev pub input : List ℕ
input = codes "-"

-- What the paths mean.
pub record IsFound (extensions paths : List (List ℕ)) (found : Found) : Type 0 where
  pub in_order : AreOfAll extensions paths (map string_bytes found.files.items)
  pub apart : AllPairs (λ one other. one ≢ other) (map string_bytes found.files.items)
  pub unlisted : All (λ one. Any (λ path. IsUnlisted path one) paths) found.unlisted.items
  pub input_read : Contains paths input → Contains (map string_bytes found.files.items) input
  pub answered : 0 < length paths → (0 < vec_len found.files) ⊎ (0 < vec_len found.unlisted)

-- A template that is not a link is added as the file that the system knows by its place, and a link as the one that it
-- leads to.
abbrev pub AddsTemplate : Template → Listing → Listing → Type 0
AddsTemplate template old new = MatchOption template.itself
    ((itself : List ℕ) × AddsFile (path_of template) itself old new)
    (λ itself. AddsFile (path_of template) (string_bytes itself) old new)

-- None of the templates is missing, and each is added once, in their order.
pub data AddsTemplates (old : Listing) : List Template → Listing → Type 0 where
  no_template : AddsTemplates old [] old
  a_template : {templates : List Template} {middle : Listing} (template : Template) (new : Listing) → AddsTemplates old templates middle
      → AddsTemplate template middle new → AddsTemplates old (templates ++ template ∷ []) new
