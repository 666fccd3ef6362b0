-- The rules that markers keep, and what is reported for markers that break one.
use Rattle.std.specs.Prelude.{◌≡◌, ◌⊎◌, ℕ, Bool, true, false, not, ◌==◌, List, [], ◌∷◌, ◌++◌, length, codes, Result, Ok, Err}
use Rattle.std.specs.Str.{bytes_eq}
use Rattle.tera_base.specs.Errors.{Says}
use Rattle.tera_base.specs.declared.errors.Error.{Error}
use Rattle.tera_lexer.specs.grammar.Marks.{Marks}

-- whether a rule is kept, and the text that says that it is not
pub record Rule : Type 0 where
  pub kept : Bool
  pub text : List ℕ

abbrev pub two_bytes : List ℕ → List ℕ → Rule
two_bytes name marker = record {
  kept = length marker == 2;
  text = codes "`" ++ (name ++ codes "` delimiter must be 2 bytes long");
}

abbrev pub differ : List ℕ → List ℕ → List ℕ → List ℕ → Rule
differ name marker other value = record {
  kept = not (bytes_eq marker value);
  text = codes "`" ++ (name ++ (codes "` and `" ++ (other ++ codes "` cannot have the same value")));
}

-- the rules, in order: the lengths, and then the starts
abbrev pub rules_of : Marks → List Rule
rules_of m =
    two_bytes (codes "block_start") m.block_start
    ∷ two_bytes (codes "block_end") m.block_end
    ∷ two_bytes (codes "variable_start") m.variable_start
    ∷ two_bytes (codes "variable_end") m.variable_end
    ∷ two_bytes (codes "comment_start") m.comment_start
    ∷ two_bytes (codes "comment_end") m.comment_end
    ∷ differ (codes "block_start") m.block_start (codes "variable_start") m.variable_start
    ∷ differ (codes "block_start") m.block_start (codes "comment_start") m.comment_start
    ∷ differ (codes "variable_start") m.variable_start (codes "comment_start") m.comment_start
    ∷ []

-- the answer to one rule
abbrev pub Checks : Rule → Result (Unit {0}) Error → Type 0
Checks r (Ok u) = r.kept ≡ true
Checks r (Err e) = (r.kept ≡ false) × Says r.text e

-- the answer to all: the first that is broken is reported
abbrev pub ChecksAll : List Rule → Result (Unit {0}) Error → Type 0
ChecksAll [] (Ok u) = Unit {0}
ChecksAll [] (Err e) = ⊥
ChecksAll (r ∷ rs) (Ok u) = (r.kept ≡ true) × ChecksAll rs (Ok u)
ChecksAll (r ∷ rs) (Err e) = ((r.kept ≡ false) × Says r.text e) ⊎ ((r.kept ≡ true) × ChecksAll rs (Err e))
