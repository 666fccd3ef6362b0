-- Why files are not read, in words.
use Rattle.std.specs.Prelude.{ℕ, List, ◌++◌, codes, decimal}

-- so many bytes at its front are UTF-8
abbrev pub not_utf8 : ℕ → List ℕ
not_utf8 at = codes "it is not UTF-8 (at byte " ++ (decimal at ++ codes ")")
