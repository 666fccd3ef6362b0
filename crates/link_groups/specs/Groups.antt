-- Things that have numbers, and links from each to others, by their numbers.
use Rattle.std.specs.Prelude.{◌≡◌, ◌↔◌, ◌<◌, ℕ, List, [], Bool, true, false, Option, Some, length, nat_eq, slice_get, slice_index_or}
use Rattle.std.specs.List.{Contains}

-- the links of a thing; a number that no thing has has none
abbrev pub links_at : List (List ℕ) → ℕ → List ℕ
links_at links i = slice_index_or links i []

-- a thing is reached from another by links, in any number of steps
pub data Reaches (links : List (List ℕ)) : ℕ → ℕ → Type 0 where
  Itself : (i : ℕ) → Reaches links i i
  By : (i j k : ℕ) → Contains (links_at links i) j → Reaches links j k → Reaches links i k

-- each thing has a group, by its number: things are in one group exactly if each is reached from the other
pub record AreGroups (links : List (List ℕ)) (groups : List ℕ) : Type 0 where
  pub each : length groups ≡ length links
  pub together : (i j : ℕ) → i < length links → j < length links
      → (slice_index_or groups i 0 ≡ slice_index_or groups j 0) ↔ (Reaches links i j × Reaches links j i)

-- whether two things are in one group; a number that no thing has is in none
abbrev pub is_same : Option ℕ → Option ℕ → Bool
is_same (Some g) (Some h) = nat_eq g h
is_same _ _ = false

abbrev pub is_one_group : List ℕ → ℕ → ℕ → Bool
is_one_group groups i j = is_same (slice_get groups i) (slice_get groups j)

-- a thing is on a circle: one that it links to leads back to it
abbrev pub IsOnCircle : List (List ℕ) → ℕ → Type 0
IsOnCircle links i = (j : ℕ) × Contains (links_at links i) j × Reaches links j i

-- whether each thing is
pub record AreOnCircles (links : List (List ℕ)) (on : List Bool) : Type 0 where
  pub each : length on ≡ length links
  pub circles : (i : ℕ) → i < length links → (slice_index_or on i false ≡ true) ↔ IsOnCircle links i

-- of each thing those that link to it
pub record AreReversed (links reversed : List (List ℕ)) : Type 0 where
  pub each : length reversed ≡ length links
  pub linked : (i j : ℕ) → i < length links → Contains (links_at reversed i) j ↔ Contains (links_at links j) i
