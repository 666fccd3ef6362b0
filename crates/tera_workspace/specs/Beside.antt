-- What is found in a template, if none of its notes is in one file.
use Rattle.std.specs.Prelude.{◌≡◌, ◌≢◌, ◌⊎◌, ℕ, List, Option, None, Some, nat_eq}
use Rattle.std.specs.List.{AllByRecursion}
use Rattle.tera_findings.specs.Findings.{NoteVal, NoteOf, FindingVal, FoundAs}
use Rattle.tera_rules.specs.Judged.{KnownVal}

-- the note is about another file than this one
abbrev pub IsElsewhere : List ℕ → NoteVal → Type 0
IsElsewhere file (NoteOf of_file span text) = of_file ≢ file

-- no note of the finding is about this file
abbrev pub HasNoNoteIn : List ℕ → FindingVal → Type 0
HasNoNoteIn file (FoundAs kind severity span text notes) = AllByRecursion (IsElsewhere file) notes

-- components with which the same is found, except that their spans in this file may differ
pub record AreAlikeBut (file : List ℕ) (number : ℕ) (k j : KnownVal) : Type 0 where
  pub name : k.definition.name ≡ j.definition.name
  pub arguments : k.definition.arguments ≡ j.definition.arguments
  pub rest : k.definition.rest ≡ j.definition.rest
  pub same_file : k.file ≡ j.file
  pub span : (k.file ≡ file) ⊎ (k.span ≡ j.span)
  pub own : nat_eq k.template number ≡ nat_eq j.template number
  pub shows_body : k.shows_body ≡ j.shows_body

-- two such components, or none
abbrev pub AreAlikeButIfAny : List ℕ → ℕ → Option KnownVal → Option KnownVal → Type 0
AreAlikeButIfAny file number None None = Unit {0}
AreAlikeButIfAny file number (Some k) (Some j) = AreAlikeBut file number k j
AreAlikeButIfAny file number _ _ = ⊥

-- such components, or none, are known under each of these names
abbrev pub AgreeBut : List (List ℕ) → List ℕ → ℕ → (List ℕ → Option KnownVal) → (List ℕ → Option KnownVal) → Type 0
AgreeBut names file number known others = AllByRecursion (λ n. AreAlikeButIfAny file number (known n) (others n)) names
