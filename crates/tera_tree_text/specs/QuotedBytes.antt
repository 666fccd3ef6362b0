-- A text between quotes, byte by byte: as all that is escaped is ASCII, no character has to be reported.
use Rattle.std.specs.Prelude.{ℕ, ◌==◌, ◌||◌, if◌then◌else◌, Bool, not, List, ◌∷◌, [], codes}

-- the byte is written as it is
abbrev pub is_plain : ℕ → Bool
is_plain b = not (b == 92 || b == 34 || b == 10 || b == 13 || b == 9)

abbrev pub escaped_byte : ℕ → List ℕ
escaped_byte b =
    if b == 92 then codes "\\\\"
    else (if b == 34 then codes "\\\""
    else (if b == 10 then codes "\\n"
    else (if b == 13 then codes "\\r"
    else (if b == 9 then codes "\\t"
    else b ∷ []))))
