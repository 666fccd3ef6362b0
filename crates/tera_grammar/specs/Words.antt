-- The names that mean something.
use Rattle.std.specs.Prelude.{◌≢◌, ℕ, Bool, true, not, ◌&&◌, ◌||◌, List, [], ◌∷◌, codes}
use Rattle.std.specs.Str.{bytes_eq}
use Rattle.std.specs.List.{AllByRecursion}
use Rattle.tera_lexer.specs.grammar.Words.{is_one_of, none_words, operator_words}

-- the words for no value, and the negation, which name no variable
unfoldable pub is_none : List ℕ → Bool
is_none name = is_one_of none_words name

abbrev pub is_not : List ℕ → Bool
is_not name = bytes_eq name (codes "not")

-- the names that no variable of a loop or of a comprehension has
unfoldable pub is_reserved : List ℕ → Bool
is_reserved name =
    is_one_of (codes "loop" ∷ codes "self" ∷ codes "continue" ∷ codes "break" ∷ operator_words) name || is_one_of none_words name

-- what a loop reports itself
abbrev pub is_loop : List ℕ → Bool
is_loop name = bytes_eq name (codes "loop")

unfoldable pub is_loop_field : List ℕ → Bool
is_loop_field name = is_one_of (codes "index" ∷ codes "index0" ∷ codes "first" ∷ codes "last" ∷ codes "length" ∷ []) name

-- whether no two names are the same
abbrev pub are_distinct : List (List ℕ) → Bool
are_distinct [] = true
are_distinct (n ∷ ns) = not (is_one_of ns n) && are_distinct ns

-- no two names are the same
abbrev pub AreDistinct : List (List ℕ) → Type 0
AreDistinct [] = Unit {0}
AreDistinct (name ∷ names) = AllByRecursion (λ other. name ≢ other) names × AreDistinct names
