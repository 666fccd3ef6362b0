-- What is known while links are followed: a path of knots, each of things that are reached from each other, and from
-- each of which the next knot is reached.
use Rattle.std.specs.Prelude.{◌≡◌, ◌↔◌, ◌⊎◌, ◌<◌, ◌≤◌, ℕ, List, [], ◌∷◌, Bool, true, false, length, map, nat_le, reverse, slice_index_or}
use Rattle.std.specs.List.{Contains}
use Rattle.link_groups.specs.Groups.{Reaches, links_at}
use Rattle.link_groups.specs.declared.walk.Knot.{Knot}
use Rattle.link_groups.specs.declared.walk.Place.{Place}
use Rattle.link_groups.specs.declared.walk.Place.TheVariants.{New, Open, Closed}
use Rattle.link_groups.specs.declared.walk.Walk.{Walk}

-- what is known of a thing; a number that no thing has is in no way
abbrev pub place_at : List Place → ℕ → Place
place_at places i = slice_index_or places i (Closed 0)

-- a link of a thing in a knot whose first number this is was followed: it leads to no thing that is new, or in a knot before
abbrev pub is_followed : ℕ → Place → Bool
is_followed first New = false
is_followed first (Open m) = nat_le first m
is_followed first (Closed g) = true

-- a link of a thing in a group leads to a thing in that group, or in one before
abbrev pub is_closed_by : ℕ → Place → Bool
is_closed_by g New = false
is_closed_by g (Open m) = false
is_closed_by g (Closed h) = nat_le h g

-- a knot, where the next one has this number first
pub record IsKnot (links : List (List ℕ)) (places : List Place) (next : ℕ) (knot : Knot) : Type 0 where
  pub some : knot.first < next
  pub all : (i m : ℕ) → place_at places i ≡ Open m → knot.first ≤ m → m < next → Contains knot.things.items i
  pub each : (i : ℕ) → Contains knot.things.items i → (m : ℕ) × (place_at places i ≡ Open m) × (knot.first ≤ m) × (m < next)
  pub reached : (i j m : ℕ) → place_at places i ≡ Open m → m < next → Contains knot.things.items j → Reaches links i j
  pub pending : (j : ℕ) → Contains knot.links.items j → (i : ℕ) × Contains knot.things.items i × Contains (links_at links i) j
  pub followed : (i j : ℕ) → Contains knot.things.items i → Contains (links_at links i) j
      → Contains knot.links.items j ⊎ (is_followed knot.first (place_at places j) ≡ true)

-- the knots from the last to the first, where the next one would have this number first
abbrev pub AreKnots : List (List ℕ) → List Place → ℕ → List Knot → Type 0
AreKnots links places next [] = (i m : ℕ) → place_at places i ≡ Open m → next ≤ m
AreKnots links places next (k ∷ ks) = IsKnot links places next k × AreKnots links places k.first ks

-- the things that are in groups, of which there are so many
pub record AreClosed (links : List (List ℕ)) (places : List Place) (closed : ℕ) : Type 0 where
  pub below : (i g : ℕ) → i < length links → place_at places i ≡ Closed g → g < closed
  pub tied : (i j g : ℕ) → i < length links → j < length links → place_at places i ≡ Closed g → place_at places j ≡ Closed g → Reaches links i j
  pub led : (i j g : ℕ) → i < length links → place_at places i ≡ Closed g → Contains (links_at links i) j → is_closed_by g (place_at places j) ≡ true

-- so many things were met and are open, and in so many groups are others
pub record IsWalkOf (links : List (List ℕ)) (places : List Place) (path : List Knot) (opened closed : ℕ) : Type 0 where
  pub each : length places ≡ length links
  pub are_open : (i m : ℕ) → place_at places i ≡ Open m → m < opened
  pub knots : AreKnots links places opened path
  pub groups : AreClosed links places closed

abbrev pub IsWalk : Walk → Type 0
IsWalk w = IsWalkOf (map (λ l. l.items) w.links.now) w.places.items (reverse w.knots.items) w.opened w.closed

-- no thing is new that was not new before
abbrev pub MeetsMore : List Place → List Place → Type 0
MeetsMore old now = (i : ℕ) → place_at now i ≡ New → place_at old i ≡ New

-- what the steps do to lists: these things are in the group now; one has the members of both
pub record ArePutIn (old : List Place) (things : List ℕ) (group : ℕ) (now : List Place) : Type 0 where
  pub each : length now ≡ length old
  pub closed : (i : ℕ) → i < length old → Contains things i → place_at now i ≡ Closed group
  pub others : (i : ℕ) → (Contains things i → ⊥) → place_at now i ≡ place_at old i

abbrev pub group_at : Place → ℕ
group_at (Closed g) = g
group_at _ = 0

abbrev pub AreBoth : List ℕ → List ℕ → List ℕ → Type 0
AreBoth xs ys both = (x : ℕ) → Contains both x ↔ (Contains xs x ⊎ Contains ys x)
