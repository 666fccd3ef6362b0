-- What a call that asks for the layout of a source writes.
use Rattle.std.specs.Prelude.{◌≡◌, ◌⊎◌, ℕ, List, Some, None, true, IsUtf8}
use Rattle.tera_layout.specs.Layout.{laid_out}
use Rattle.tera_layout.specs.Steady.{is_steady}
use Rattle.tera_c.specs.Asked.{marks_at, AreMarkers}
use Rattle.tera_c.specs.Statuses.{IsPut, IsLeft}
use Rattle.tera_c.specs.declared.status.Status.{Status}
use Rattle.tera_c.specs.declared.status.Status.TheVariants.{Written, Short, Faulty, Nothing}
use Rattle.tera_c.specs.declared.status.Status.TheVariants.{NotUtf8, BadMarkers, BadLimits, Memory}

-- twelve bytes that are the markers of a template, and stay where they are whatever a layout does
abbrev pub AreSteadyMarkers : List ℕ → Type 0
AreSteadyMarkers markers = AreMarkers markers × (is_steady (marks_at markers) ≡ true)

-- a source can be read to be laid out
abbrev pub CanBeLaidOut : List ℕ → List ℕ → Type 0
CanBeLaidOut markers source = IsUtf8 source × AreSteadyMarkers markers

-- it has this layout
abbrev pub HasLayout : List ℕ → List ℕ → List ℕ → Type 0
HasLayout markers source layout =
    CanBeLaidOut markers source × (laid_out (marks_at markers) source ≡ Some layout)

-- why no layout is written: the source has none, as a token of it is faulty or a tag never ends; what is asked cannot be
-- read; or an allocation failed
abbrev pub IsWithoutLayout : List ℕ → List ℕ → Status → Type 0
IsWithoutLayout markers source Written = ⊥
IsWithoutLayout markers source Short = ⊥
IsWithoutLayout markers source Faulty =
    CanBeLaidOut markers source × (laid_out (marks_at markers) source ≡ None)
IsWithoutLayout markers source Nothing = ⊥
IsWithoutLayout markers source NotUtf8 = IsUtf8 source → ⊥
IsWithoutLayout markers source BadMarkers = AreSteadyMarkers markers → ⊥
IsWithoutLayout markers source BadLimits = ⊥
IsWithoutLayout markers source Memory = Unit {0}

-- what a buffer held and holds after such a call, and what is needed: the layout was put there, or left out for want of
-- room; or there is none
abbrev pub WritesLayout : List ℕ → List ℕ → Status → List ℕ → List ℕ → ℕ → Type 0
WritesLayout markers source status old new needed =
    ((layout : List ℕ) × HasLayout markers source layout × IsPut layout status old new needed)
    ⊎ (IsWithoutLayout markers source status × IsLeft old new needed)
