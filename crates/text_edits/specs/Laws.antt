-- What the laws say of positions.
use Rattle.std.specs.Prelude.{◌≡◌, ◌-◌, ◌<◌, ◌≤◌, ◌⊎◌, zero, suc, ℕ, List, [], ◌∷◌, take, sum_by, slice_index, IsCharBoundary}
use Rattle.text_edits.specs.Lines.{Line}
use Rattle.text_edits.specs.Positions.{units}
use Rattle.text_edits.specs.declared.positions.Encoding.{Encoding}
use Rattle.text_edits.specs.declared.positions.Position.{Position}

-- the byte is between a carriage return and a line feed
abbrev pub IsWithinEnd : List ℕ → ℕ → Type 0
IsWithinEnd text byte = (slice_index text (byte - 1) ≡ 13) × (slice_index text byte ≡ 10)

-- on that line so many units are before a character, or before the line's end
abbrev pub HasColumn : Encoding → List Line → ℕ → ℕ → Type 0
HasColumn e [] line character = ⊥
HasColumn e (l ∷ ls) zero character = (k : ℕ) × IsCharBoundary l.bytes k × (character ≡ sum_by (units e) (take k l.bytes))
HasColumn e (l ∷ ls) (suc line) character = HasColumn e ls line character

abbrev pub HasPosition : Encoding → List Line → Position → Type 0
HasPosition e lines p = HasColumn e lines p.line p.character

-- the order of positions
abbrev pub IsUpTo : Position → Position → Type 0
IsUpTo p q = (p.line < q.line) ⊎ ((p.line ≡ q.line) × (p.character ≤ q.character))
