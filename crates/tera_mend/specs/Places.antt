-- Bytes in the place of others, which move nothing that comes after them.
use Rattle.std.specs.Prelude.{◌≡◌, ℕ, List, [], ◌∷◌, ◌++◌}
use Rattle.tera_lexer.specs.grammar.Place.{is_line_feed, begins_character}

-- both are line feeds or neither is, and both begin a character or neither does
abbrev pub IsInPlace : ℕ → ℕ → Type 0
IsInPlace b c = (is_line_feed b ≡ is_line_feed c) × (begins_character b ≡ begins_character c)

-- as many bytes, each in the place of one
abbrev pub AreInPlace : List ℕ → List ℕ → Type 0
AreInPlace [] [] = Unit {0}
AreInPlace [] (c ∷ cs) = ⊥
AreInPlace (b ∷ bs) [] = ⊥
AreInPlace (b ∷ bs) (c ∷ cs) = IsInPlace b c × AreInPlace bs cs

-- one text becomes another, whose first bytes are in the place of all of its own
abbrev pub Keeps : List ℕ → List ℕ → Type 0
Keeps old new = (front after : List ℕ) × (new ≡ front ++ after) × AreInPlace old front
