-- The markers that are given in words, and why some are not.
use Rattle.std.specs.Prelude.{◌≡◌, ◌≢◌, ◌<◌, ℕ, List, [], ◌∷◌, ◌++◌, false, Option, None, Some, Err, length}
use Rattle.std.specs.Char.{is_not_whitespace, is_whitespace}
use Rattle.std.specs.Str.{EmptyOrStartsWithPassing, NoCharPasses}
use Rattle.tera_lexer.specs.grammar.Marks.{IsValid, Marks, default_marks}
use Rattle.tera_lexer.specs.grammar.Rules.{ChecksAll, rules_of}
use Rattle.tera_layout.specs.Steady.{is_steady}
use Rattle.tera_program_parts.specs.declared.markers.Unfit.{Unfit}
use Rattle.tera_program_parts.specs.declared.markers.Unfit.TheVariants.{Memory, Number, Rule, Unsteady}

-- a text is white space, a word, and a rest that is empty or begins with white space
pub record BeginsWithWord (text word rest : List ℕ) : Type 0 where
  pub gap : List ℕ
  pub split : text ≡ gap ++ (word ++ rest)
  pub blank : NoCharPasses is_not_whitespace gap
  pub some : 0 < length word
  pub solid : NoCharPasses is_whitespace word
  pub ends : (more : List ℕ) × EmptyOrStartsWithPassing is_whitespace rest more

-- these are the words of a text, all of them in their order
abbrev pub AreWords : List ℕ → List (List ℕ) → Type 0
AreWords text [] = NoCharPasses is_not_whitespace text
AreWords text (w ∷ ws) = (rest : List ℕ) × BeginsWithWord text w rest × AreWords rest ws

-- six markers, in the order of the fields
abbrev pub six : Marks → List (List ℕ)
six m = m.block_start ∷ m.block_end ∷ m.variable_start ∷ m.variable_end ∷ m.comment_start ∷ m.comment_end ∷ []

-- the markers that are given are the words of the text; without a text, they are the default ones
abbrev pub AreGivenBy : Option (List ℕ) → Marks → Type 0
AreGivenBy None m = m ≡ default_marks
AreGivenBy (Some text) m = AreWords text (six m)

-- .. if they are not the default ones
abbrev pub AreOthersBy : Option (List ℕ) → Option Marks → Type 0
AreOthersBy words None = AreGivenBy words default_marks
AreOthersBy words (Some m) = AreGivenBy words m × (m ≢ default_marks)

-- the text has not six words
abbrev pub HasNotSix : Option (List ℕ) → Type 0
HasNotSix None = ⊥
HasNotSix (Some text) = (ws : List (List ℕ)) × AreWords text ws × (length ws ≢ 6)

-- why no template can be read with what is given; an allocation may always fail
abbrev pub IsUnfit : Option (List ℕ) → Unfit → Type 0
IsUnfit words Memory = Unit {0}
IsUnfit words Number = HasNotSix words
IsUnfit words (Rule e) = (m : Marks) × AreGivenBy words m × ChecksAll (rules_of m) (Err e)
IsUnfit words Unsteady = ⊥

-- .. or why none can be laid out with it
abbrev pub IsUnfitForLayout : Option (List ℕ) → Unfit → Type 0
IsUnfitForLayout words Unsteady = (m : Marks) × AreGivenBy words m × IsValid m × (is_steady m ≡ false)
IsUnfitForLayout words why = IsUnfit words why
