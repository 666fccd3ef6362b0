-- What the name of a file says.
use Rattle.std.specs.Prelude.{◌≡◌, ℕ, List, ◌∷◌, ◌++◌, ◌⊎◌, codes, map, slice_index, Any}
use denote.Ref.{Bor}

-- `b'.'`
abbrev pub point : ℕ
point = 46

-- The name ends in a point and this extension, which may have points itself.
abbrev pub HasExtension : List ℕ → List ℕ → Type 0
HasExtension name extension = (front : List ℕ) × (name ≡ front ++ point ∷ extension)

-- It ends in one of the extensions.
abbrev pub EndsIn : List ℕ → List (List ℕ) → Type 0
EndsIn name extensions = Any (HasExtension name) extensions

-- A name that is hidden, or the folder of packages that others wrote.
abbrev pub IsLeftOut : List ℕ → Type 0
IsLeftOut name = (slice_index name 0 ≡ point) ⊎ (name ≡ codes "node_modules")

-- the texts to which references lead
abbrev pub texts : List (Bor (List ℕ)) → List (List ℕ)
texts references = map (λ text. text.now) references
