-- Texts in HTML.
use Rattle.std.specs.Prelude.{ℕ, List, [], ◌∷◌, Bool, ◌||◌, if◌then◌else◌, nat_eq, codes}
use Rattle.std.specs.List.{flat_map, list_any}

-- what is written for a byte: `&`, `<`, `>` and the two quotes have names
abbrev pub escaped_byte : ℕ → List ℕ
escaped_byte b =
    if nat_eq b 38 then codes "&amp;"
    else (if nat_eq b 60 then codes "&lt;"
    else (if nat_eq b 62 then codes "&gt;"
    else (if nat_eq b 34 then codes "&quot;"
    else (if nat_eq b 39 then codes "&#39;" else b ∷ []))))

abbrev pub escaped : List ℕ → List ℕ
escaped text = flat_map escaped_byte text

-- a byte with which a tag or the value of an attribute begins or ends
abbrev pub is_markup : ℕ → Bool
is_markup b = nat_eq b 60 || (nat_eq b 62 || (nat_eq b 34 || nat_eq b 39))

abbrev pub has_markup : List ℕ → Bool
has_markup text = list_any is_markup text
