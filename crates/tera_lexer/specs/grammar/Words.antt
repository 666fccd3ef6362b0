-- The words of the language.
use Rattle.std.specs.Prelude.{ℕ, Bool, List, [], ◌∷◌, codes}
use Rattle.std.specs.Str.{bytes_eq}
use Rattle.std.specs.List.{list_any}

abbrev pub is_one_of : List (List ℕ) → List ℕ → Bool
is_one_of words name = list_any (λ w. bytes_eq name w) words

-- the operators that are words
abbrev pub operator_words : List (List ℕ)
operator_words = codes "and" ∷ codes "or" ∷ codes "not" ∷ codes "in" ∷ codes "is" ∷ []

-- the words for no value
abbrev pub none_words : List (List ℕ)
none_words = codes "none" ∷ codes "None" ∷ codes "null" ∷ []

-- the words with which the tags of statements begin
abbrev pub statement_words : List (List ℕ)
statement_words =
    codes "if" ∷ codes "for" ∷ codes "block" ∷ codes "filter" ∷ codes "component" ∷ codes "set" ∷ codes "set_global"
    ∷ codes "endif" ∷ codes "endfor" ∷ codes "endblock" ∷ codes "endfilter" ∷ codes "endcomponent" ∷ codes "endset"
    ∷ codes "else" ∷ codes "elif" ∷ codes "include" ∷ codes "extends" ∷ codes "break" ∷ codes "continue"
    ∷ codes "raw" ∷ []
