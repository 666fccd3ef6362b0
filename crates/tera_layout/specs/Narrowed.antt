-- What a formatter may write as well: white space that is taken out, where lexemes stay apart by themselves.
use Rattle.std.specs.Prelude.{◌≡◌, ◌⊎◌, ℕ, true, List, [], ◌∷◌}
use Rattle.std.specs.List.{AllByRecursion}
use Rattle.std.specs.Char.{is_ascii_whitespace}
use Rattle.tera_lexer.specs.grammar.Marks.{Marks}
use Rattle.tera_lexer.specs.grammar.Lexeme.{Item, Lexeme}
use Rattle.tera_lexer.specs.grammar.Division.{Piece, Tag}
use Rattle.tera_layout.specs.Apart.{stay_apart}
use Rattle.tera_layout.specs.Widened.{Widens}

-- white space in the place of a gap between two lexemes: none only where there was none, or where they stay apart
abbrev pub Narrows : Marks → Lexeme → Lexeme → List ℕ → List ℕ → Type 0
Narrows m l r gap new =
    AllByRecursion (λ b. is_ascii_whitespace b ≡ true) new × (new ≡ [] → (gap ≡ []) ⊎ (stay_apart m l r ≡ true))

-- the same lexemes after such white space, and after a lexeme
abbrev pub AreNarrowedAfter : Marks → Lexeme → List Item → List Item → Type 0
AreNarrowedAfter m l [] [] = Unit {0}
AreNarrowedAfter m l (i ∷ is) (j ∷ js) =
    Narrows m l i.lexeme i.gap j.gap × (j.lexeme ≡ i.lexeme) × AreNarrowedAfter m i.lexeme is js
AreNarrowedAfter m l _ _ = ⊥

-- the same lexemes, of which the first is beside a marker
abbrev pub AreNarrowedItems : Marks → List Item → List Item → Type 0
AreNarrowedItems m [] [] = Unit {0}
AreNarrowedItems m (i ∷ is) (j ∷ js) = Widens i.gap j.gap × (j.lexeme ≡ i.lexeme) × AreNarrowedAfter m i.lexeme is js
AreNarrowedItems m _ _ = ⊥

-- the same piece; of a tag with such white space
abbrev pub IsNarrowed : Marks → Piece → Piece → Type 0
IsNarrowed m (Tag kind dash items gap end) q =
    (js : List Item) × (new : List ℕ) × (q ≡ Tag kind dash js new end) × AreNarrowedItems m items js × Widens gap new
IsNarrowed m p q = q ≡ p

abbrev pub AreNarrowed : Marks → List Piece → List Piece → Type 0
AreNarrowed m [] [] = Unit {0}
AreNarrowed m (p ∷ ps) (q ∷ qs) = IsNarrowed m p q × AreNarrowed m ps qs
AreNarrowed m _ _ = ⊥
