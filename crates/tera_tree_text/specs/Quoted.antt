-- A text between quotes.
use Rattle.std.specs.Prelude.{ℕ, ◌==◌, if◌then◌else◌, List, ◌∷◌, [], ◌++◌, codes, chars, encode_utf8}
use Rattle.std.specs.List.{flat_map}

-- a character of it
abbrev pub escaped : ℕ → List ℕ
escaped c =
    if c == 92 then codes "\\\\"
    else (if c == 34 then codes "\\\""
    else (if c == 10 then codes "\\n"
    else (if c == 13 then codes "\\r"
    else (if c == 9 then codes "\\t"
    else encode_utf8 c))))

abbrev pub quoted : List ℕ → List ℕ
quoted text = 34 ∷ (flat_map escaped (chars text) ++ 34 ∷ [])
