-- The lines of a text, and where they begin.
use Rattle.std.specs.Prelude.{◌≡◌, ◌≢◌, ◌+◌, ◌<◌, ◌⊎◌, ◌++◌, ◌∷◌, ◌&&◌, ◌||◌, ◌==◌, not, if◌then◌else◌, ℕ, Bool, List, [], length, flat_map, slice_index, All}

-- a line of a text: its bytes, and the bytes that end it
pub record Line : Type 0 where
  pub bytes : List ℕ
  pub end : List ℕ

-- both
abbrev pub whole : Line → List ℕ
whole l = l.bytes ++ l.end

-- what ends a line before the others: nothing the last; a line feed, a carriage return with no line feed after it, or
-- both
abbrev pub IsEndBefore : List ℕ → List Line → Type 0
IsEndBefore end [] = end ≡ []
IsEndBefore end (l ∷ ls) = (end ≡ 10 ∷ []) ⊎ (((end ≡ 13 ∷ []) × (slice_index (flat_map whole (l ∷ ls)) 0 ≢ 10)) ⊎ (end ≡ 13 ∷ 10 ∷ []))

-- each line has an end that suits the lines after it
abbrev pub EndWhole : List Line → Type 0
EndWhole [] = Unit {0}
EndWhole (l ∷ ls) = IsEndBefore l.end ls × EndWhole ls

-- the text is these lines, in order; within none is a line feed or a carriage return
pub record AreLines (text : List ℕ) (lines : List Line) : Type 0 where
  pub some : 0 < length lines
  pub all : flat_map whole lines ≡ text
  pub inside : All (λ (l : Line). All (λ b. (b ≢ 10) × (b ≢ 13)) l.bytes) lines
  pub ends : EndWhole lines

-- whether a line ends after the first byte
abbrev pub ends_line : List ℕ → Bool
ends_line text = (slice_index text 0 == 10) || ((slice_index text 0 == 13) && not (slice_index text 1 == 10))

-- the lines with a byte before them, after which none ends: a carriage return goes before the line feed
abbrev pub with_byte : ℕ → List Line → List Line
with_byte b [] = []
with_byte b (l ∷ ls) = (if b == 13 then record { bytes = l.bytes; end = b ∷ l.end } else record { bytes = b ∷ l.bytes; end = l.end }) ∷ ls

-- the lines of the text
unfoldable pub lines_of : List ℕ → List Line
lines_of [] = record { bytes = []; end = [] } ∷ []
lines_of (b ∷ bs) = if ends_line (b ∷ bs) then record { bytes = []; end = b ∷ [] } ∷ lines_of bs else with_byte b (lines_of bs)

-- the bytes at which the lines begin, of which the first begins at this byte
abbrev pub starts_from : ℕ → List Line → List ℕ
starts_from at [] = []
starts_from at (l ∷ ls) = at ∷ starts_from (at + length (whole l)) ls

abbrev pub starts_of : List Line → List ℕ
starts_of lines = starts_from 0 lines
