-- The documents that are checked: the names of their files, and their texts.
use Rattle.std.specs.Prelude.{◌≡◌, ℕ, List, [], ◌∷◌, cond, map, unwrap_or}
use Rattle.std.specs.Cmp.Lexicographic.{slice_cmp}
use Rattle.std.specs.Coded.{×_prop, Unit-prop}
use Rattle.std.specs.List.{AllByRecursion, AllByRecursion-prop}
use Rattle.std.specs.Ordering.{nat_cmp, Ordering-set}
use Rattle.std.specs.Str.{bytes_eq}
use Rattle.std.specs.declared.cmp.Ordering.TheVariants.{Less}
use Rattle.text_edits.specs.Documents.{text_of}
use Rattle.text_edits.specs.Stored.{document_of}
use Rattle.text_edits.specs.declared.documents.Documents.{Documents}

-- a file and its text
pub record Source : Type 0 where
  pub name : List ℕ
  pub text : List ℕ

-- the text of a name; empty, if the name is not among them
abbrev pub text_named : List ℕ → List Source → List ℕ
text_named n [] = []
text_named n (s ∷ ss) = cond (bytes_eq s.name n) s.text (text_named n ss)

-- names in byte order, each once
abbrev pub AreInOrder : List (List ℕ) → Type 0
AreInOrder [] = Unit {0}
AreInOrder (n ∷ ns) = AllByRecursion (λ m. slice_cmp nat_cmp n m ≡ Less) ns × AreInOrder ns

pub AreInOrder-prop : (names : List (List ℕ)) → IsProp (AreInOrder names)
AreInOrder-prop [] = Unit-prop
AreInOrder-prop (n ∷ ns) = ×_prop (AllByRecursion-prop (λ m. slice_cmp nat_cmp n m ≡ Less) (λ m. Ordering-set _ _) ns) (AreInOrder-prop ns)

abbrev pub AreAscending : List Source → Type 0
AreAscending sources = AreInOrder (map (λ s. s.name) sources)

pub AreAscending-prop : (sources : List Source) → IsProp (AreAscending sources)
AreAscending-prop sources = AreInOrder-prop (map (λ s. s.name) sources)

-- the documents have these texts; one that is neither open nor on disk has an empty text, in which nothing is found,
-- and may be among them or not
pub record AreSources (ds : Documents) (sources : List Source) : Type 0 where
  pub ascending : AreAscending sources
  pub texts : (n : List ℕ) → text_named n sources ≡ unwrap_or (text_of (document_of ds n)) []
