-- What the laws of suggestions speak of.
use Rattle.std.specs.Prelude.{◌≤◌, ℕ, List}
use Rattle.std.specs.Str.{IsCharBoundary}
use Rattle.tera_fixes.specs.declared.parts.Part.{Part}

-- a part of the text, which begins and ends between characters
pub record IsPartOf (text : List ℕ) (p : Part) : Type 0 where
  pub order : p.start ≤ p.end
  pub starts : IsCharBoundary text p.start
  pub ends : IsCharBoundary text p.end
