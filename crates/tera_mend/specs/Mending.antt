-- What a source is read as, whatever faults it has.
use Rattle.std.specs.Prelude.{◌≡◌, ◌⊎◌, ℕ, Bool, true, false, List, [], ◌∷◌, ◌++◌, length}
use Rattle.tera_base.specs.ErrorView.{error_view}
use Rattle.tera_base.specs.Errors.{IsMemory}
use Rattle.tera_base.specs.declared.errors.Error.{Error}
use Rattle.tera_lexer.specs.grammar.Marks.{Marks}
use Rattle.tera_lexer.specs.grammar.Place.{place_after}
use Rattle.tera_tree.specs.Tree.{Output}
use Rattle.tera_grammar.specs.Limits.{Limits}
use Rattle.tera_grammar.specs.statements.Top.{Derives}
use Rattle.tera_parser.specs.Refusal.{LosesSource, Refuses}
use Rattle.tera_mend.specs.Moved.{BeginsBefore, moved_error}
use Rattle.tera_mend.specs.Places.{AreInPlace}

-- bytes, and the number of those before them
pub record EditVal : Type 0 where
  pub at : ℕ
  pub bytes : List ℕ

-- one text becomes another: the bytes are in the place of as many, or after its end
pub record Puts (e : EditVal) (old new : List ℕ) : Type 0 where
  pub before : List ℕ
  pub taken : List ℕ
  pub after : List ℕ
  pub is_old : old ≡ before ++ (taken ++ after)
  pub is_new : new ≡ before ++ (e.bytes ++ after)
  pub is_at : e.at ≡ length before
  pub in_place : AreInPlace taken e.bytes ⊎ ((taken ≡ []) × (after ≡ []))

-- one edit after another
abbrev pub Edits : List EditVal → List ℕ → List ℕ → Type 0
Edits [] old new = old ≡ new
Edits (e ∷ es) old new = (next : List ℕ) × Puts e old next × Edits es next new

-- the text has no derivation
abbrev pub IsNoTemplate : Limits → Marks → List ℕ → Type 0
IsNoTemplate l m text = (output : Output) → Derives l m text output → ⊥

-- the text is not a template, and this is a fault of it, where it is lost, which is not that an allocation failed
abbrev pub Fails : Limits → Marks → List ℕ → Error → Type 0
Fails l m text e = IsNoTemplate l m text × (IsMemory e → ⊥) × Refuses m text e × LosesSource l m text e

-- A tag after these bytes, read alone with something after it or nothing, is not a template. This is a fault of that,
-- which begins in the tag; its places are those that it has after the bytes.
pub record IsFaultAlone (l : Limits) (m : Marks) (before tag : List ℕ) (e : Error) : Type 0 where
  pub closing : List ℕ
  pub alone : Error
  pub fails : Fails l m (tag ++ closing) alone
  pub in_tag : BeginsBefore (length tag) (error_view alone)
  pub is_moved : error_view e ≡ moved_error (place_after before) (error_view alone)

-- a fault of a tag of the text that is read alone
abbrev pub FailsAlone : Limits → Marks → List ℕ → Error → Type 0
FailsAlone l m text e = (before tag after : List ℕ) × (text ≡ before ++ (tag ++ after)) × IsFaultAlone l m before tag e

-- a fault, whether it is that of a tag that was read alone, and what was written for it
pub record Step : Type 0 where
  pub error : Error
  pub alone : Bool
  pub edits : List EditVal

abbrev pub FailsAs : Limits → Marks → Bool → List ℕ → Error → Type 0
FailsAs l m false text e = Fails l m text e
FailsAs l m true text e = FailsAlone l m text e

-- from a text to another, fault by fault: each is one of what the edits of those before it left
abbrev pub Goes : Limits → Marks → List ℕ → List Step → List ℕ → Type 0
Goes l m old [] new = old ≡ new
Goes l m old (s ∷ ss) new = FailsAs l m s.alone old s.error × ((next : List ℕ) × Edits s.edits old next × Goes l m next ss new)

abbrev pub FirstIsOfAll : List Step → Type 0
FirstIsOfAll [] = Unit {0}
FirstIsOfAll (s ∷ ss) = s.alone ≡ false

-- from a source to a text, fault by fault, of which the first is one of the whole source
abbrev pub Mends : Limits → Marks → List ℕ → List Step → List ℕ → Type 0
Mends l m source ss text = FirstIsOfAll ss × Goes l m source ss text

-- What is read in the end. Where the faults are all, it is the text that was reached, to which nothing more was done.
-- Where they are cut short, what was reached is not a template, and what is read is that with some more edits, or
-- nothing.
abbrev pub Ends : Limits → Marks → Bool → List EditVal → List ℕ → List ℕ → Type 0
Ends l m false rest reached text = (rest ≡ []) × (text ≡ reached)
Ends l m true rest reached text = IsNoTemplate l m reached × (Edits rest reached text ⊎ (text ≡ []))
