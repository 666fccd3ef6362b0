-- How a message is written.
use Rattle.std.specs.Prelude.{ℕ, List, [], ◌∷◌, ◌++◌, length, codes}
use Rattle.std.specs.Fmt.{decimal}

abbrev pub header_of : ℕ → List ℕ
header_of n = codes "Content-Length: " ++ (decimal n ++ (13 ∷ 10 ∷ 13 ∷ 10 ∷ []))

-- the message after its header
abbrev pub frame : List ℕ → List ℕ
frame message = header_of (length message) ++ message
