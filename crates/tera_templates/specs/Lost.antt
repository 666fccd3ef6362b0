-- Words of a source where a text has something else in their place.
use Rattle.std.specs.Prelude.{◌≡◌, ◌≢◌, ◌↔◌, ◌⊎◌, ◌<◌, ◌≤◌, ◌+◌, ◌-◌, ℕ, suc, String, List, [], Bool, true, false, ◌||◌, length, take, drop, slice_index, codes, Option, None, Some, Result, Ok, Err}
use Rattle.std.specs.BTreeMap.{BTreeMap, get_by_text}
use Rattle.std.specs.BTreeSet.{BTreeSet, keys}
use Rattle.std.specs.Option.{is_some, option_map_or}
use Rattle.std.specs.declared.alloc.Global.{Global}
use Rattle.std.specs.List.{Contains, list_any}
use Rattle.tera_base.specs.declared.errors.Error.{Error}
use Rattle.tera_lexer.specs.grammar.Lexeme.{goes_on_name}
use Rattle.tera_tree.specs.declared.outputs.ParserOutput.{ParserOutput}
use Rattle.tera_templates.specs.declared.mended.Mended.{Mended}
use Rattle.tera_templates.specs.declared.templates.Template.{Template}

-- The bytes from `start` on and before `end` are a whole word of the text: letters, digits and `_`; neither the byte
-- before them nor the one after them is one of these.
pub record IsWordBetween (text : List ℕ) (start end : ℕ) : Type 0 where
  pub some : start < end
  pub within : end ≤ length text
  pub all : (k : ℕ) → start ≤ k → k < end → goes_on_name (slice_index text k) ≡ true
  pub first : (k : ℕ) → suc k ≡ start → goes_on_name (slice_index text k) ≡ false
  pub last : end < length text → goes_on_name (slice_index text end) ≡ false

-- or they are a `<`, with which a call begins
pub record IsMarkBetween (text : List ℕ) (start end : ℕ) : Type 0 where
  pub one : end ≡ start + 1
  pub within : end ≤ length text
  pub is : slice_index text start ≡ 60

abbrev pub IsBetween : List ℕ → ℕ → ℕ → Type 0
IsBetween text start end = IsWordBetween text start end ⊎ IsMarkBetween text start end

-- where all of these begin and end
abbrev pub AreWordsOf : List ℕ → List (ℕ × ℕ) → Type 0
AreWordsOf text words = (start end : ℕ) → Contains words (start, end) ↔ IsBetween text start end

-- so many bytes of a text, from one on
abbrev pub part_at : ℕ → ℕ → List ℕ → List ℕ
part_at at count text = take count (drop at text)

-- a text has the word at a byte
pub record IsWordAt (text word : List ℕ) (at : ℕ) : Type 0 where
  pub alone : IsBetween text at (at + length word)
  pub is : part_at at (length word) text ≡ word

-- the text has all bytes between these two, and they are the word
abbrev pub HasBetween : List ℕ → List ℕ → ℕ → ℕ → Type 0
HasBetween text word start end = (start ≤ end) × (end ≤ length text) × (part_at start (end - start) text ≡ word)

-- the source has the word between these bytes, and the text has something else there
abbrev pub IsLostBetween : List ℕ → List ℕ → List ℕ → ℕ → ℕ → Type 0
IsLostBetween source text word start end =
    (part_at start (end - start) source ≡ word) × (part_at start (end - start) text ≢ word)

-- the source has the word at a byte, and the text has something else in its place
pub record IsLostAt (source text word : List ℕ) (at : ℕ) : Type 0 where
  pub is : IsWordAt source word at
  pub other : part_at at (length word) text ≢ word

-- the bytes that are kept under a word
abbrev pub places_under : BTreeMap (String Global) (BTreeSet ℕ) → List ℕ → List ℕ
places_under places word = option_map_or (λ s. keys s) (get_by_text places word) []

-- a word is lost
abbrev pub is_lost : Mended → List ℕ → Bool
is_lost m word = is_some (get_by_text m.lost word)

-- Whether a template may define more components than its tree has: it has a fault of which nothing more is known, or
-- the word of a head or of an end of a definition is lost.
abbrev pub is_open_by : Result ParserOutput Error → Option Mended → Bool
is_open_by (Ok o) m = false
is_open_by (Err e) None = true
is_open_by (Err e) (Some m) = is_lost m (codes "component") || is_lost m (codes "endcomponent")

abbrev pub is_open : Template → Bool
is_open t = is_open_by t.parsed t.mended

abbrev pub are_open : List Template → Bool
are_open ts = list_any is_open ts
