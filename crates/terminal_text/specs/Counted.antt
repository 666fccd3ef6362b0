-- How many of something there are.
use Rattle.std.specs.Prelude.{ℕ, ◌==◌, if◌then◌else◌, List, [], ◌++◌, codes, decimal}

-- the number with its noun, which is given for one of it
abbrev pub counted : ℕ → List ℕ → List ℕ
counted number noun = decimal number ++ (codes " " ++ (noun ++ (if number == 1 then [] else codes "s")))
