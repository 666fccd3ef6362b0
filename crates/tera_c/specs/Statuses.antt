-- The numbers of what a call comes to, and what it leaves in a buffer.
use Rattle.std.specs.Prelude.{◌≡◌, ◌≤◌, ◌<◌, ◌++◌, ℕ, List, length, drop}
use Rattle.tera_c.specs.declared.status.Status.{Status}
use Rattle.tera_c.specs.declared.status.Status.TheVariants.{Written, Short, Faulty, Nothing}
use Rattle.tera_c.specs.declared.status.Status.TheVariants.{NotUtf8, BadMarkers, BadLimits, Memory}

abbrev pub number_of : Status → ℕ
number_of Written = 0
number_of Short = 1
number_of Faulty = 2
number_of Nothing = 3
number_of NotUtf8 = 4
number_of BadMarkers = 5
number_of BadLimits = 6
number_of Memory = 7

-- a text was put into a buffer, at its start, or nothing was, as it is too short; what the text needs is reported
abbrev pub IsPut : List ℕ → Status → List ℕ → List ℕ → ℕ → Type 0
IsPut text Written old new needed =
    (needed ≡ length text) × (length text ≤ length old) × (new ≡ text ++ drop (length text) old)
IsPut text Short old new needed = (needed ≡ length text) × (length old < length text) × (new ≡ old)
IsPut text Faulty old new needed = ⊥
IsPut text Nothing old new needed = ⊥
IsPut text NotUtf8 old new needed = ⊥
IsPut text BadMarkers old new needed = ⊥
IsPut text BadLimits old new needed = ⊥
IsPut text Memory old new needed = ⊥

-- nothing was put into a buffer, and nothing is needed
abbrev pub IsLeft : List ℕ → List ℕ → ℕ → Type 0
IsLeft old new needed = (needed ≡ 0) × (new ≡ old)
