-- What is known while links are reversed.
use Rattle.std.specs.Prelude.{◌≡◌, ◌↔◌, ◌⊎◌, ◌<◌, ℕ, List, length}
use Rattle.std.specs.List.{Contains}
use Rattle.link_groups.specs.Groups.{links_at}

-- from each of these things there is a link to one now, and all others are as before
pub record AddsEnds (old : List (List ℕ)) (ends : List ℕ) (thing : ℕ) (now : List (List ℕ)) : Type 0 where
  pub each : length now ≡ length old
  pub added : (i j : ℕ) → i < length old
      → Contains (links_at now i) j ↔ (Contains (links_at old i) j ⊎ (Contains ends i × (j ≡ thing)))
