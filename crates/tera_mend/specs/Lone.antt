-- A tag that is read alone.
use Rattle.std.specs.Prelude.{◌≡◌, ℕ, List, ◌++◌, length, string_bytes}
use Rattle.tera_base.specs.ErrorView.{error_view}
use Rattle.tera_base.specs.declared.errors.Error.{Error}
use Rattle.tera_lexer.specs.grammar.Marks.{default_marks}
use Rattle.tera_lexer.specs.declared.lexer.place.Place as lexer
use Rattle.tera_lexer.specs.grammar.Place.{place_after}
use Rattle.tera_grammar.specs.Limits.{usual}
use Rattle.tera_parser.specs.Notes.{NotesName}
use Rattle.tera_mend.specs.Mending.{Fails, IsFaultAlone}
use Rattle.tera_mend.specs.Moved.{BeginsBefore, moved_error}
use Rattle.tera_mend.specs.Places.{AreInPlace}
use Rattle.tera_mend.specs.Views.{place_view}
use Rattle.tera_mend.specs.declared.lone.Lone.{Lone}
use Rattle.tera_mend.specs.declared.moved.Place.{Place}

-- with something after it the tag is not a template, and this is a fault of that, which begins in the tag
pub record IsFaultOf (file tag : List ℕ) (e : Error) : Type 0 where
  pub closing : List ℕ
  pub fails : Fails usual default_marks (tag ++ closing) e
  pub in_tag : BeginsBefore (length tag) (error_view e)
  pub notes : NotesName file e

-- this error, at its place after bytes that begin at this place
pub record IsPlaced (before : List ℕ) (place : Place) (e : Error) (text : List ℕ) (lone : Lone) : Type 0 where
  pub written : string_bytes lone.written ≡ text
  pub there : lexer.Place
  pub is_there : (front : List ℕ) → place_view place ≡ place_after front → there ≡ place_after (front ++ before)
  pub error : error_view lone.error ≡ moved_error there (error_view e)
  pub after : (front : List ℕ) → place_view place ≡ place_after front → place_view lone.after ≡ place_after ((front ++ before) ++ text)

-- a fault of the tag after bytes that begin at this place, and what may be written over it
pub record IsLone (file before tag : List ℕ) (place : Place) (lone : Lone) : Type 0 where
  pub fault : (front : List ℕ) → place_view place ≡ place_after front → IsFaultAlone usual default_marks (front ++ before) tag lone.error
  pub notes : NotesName file lone.error
  pub in_place : AreInPlace tag (string_bytes lone.written)
  pub after : (front : List ℕ) → place_view place ≡ place_after front → place_view lone.after ≡ place_after ((front ++ before) ++ string_bytes lone.written)
