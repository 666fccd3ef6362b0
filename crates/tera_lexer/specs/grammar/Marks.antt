-- The six markers of a template, as bytes.
use Rattle.std.specs.Prelude.{◌≡◌, ◌≢◌, ℕ, Bool, true, false, List, [], ◌∷◌, ◌++◌, length, nat_eq, codes, IsUtf8}
use Rattle.std.specs.List.{starts_with}
use Rattle.std.specs.Cow.{cow_str_bytes}
use Rattle.tera_lexer.specs.grammar.Bytes.{dash_byte}
use Rattle.tera_lexer.specs.declared.lexer.delimiters.Delimiters.{Delimiters}
use Rattle.tera_lexer.specs.declared.lexer.delimiters.Kind.{Kind}
use Rattle.tera_lexer.specs.declared.lexer.delimiters.Kind.TheVariants.{Variable, Block}

pub record Marks : Type 0 where
  pub block_start : List ℕ
  pub block_end : List ℕ
  pub variable_start : List ℕ
  pub variable_end : List ℕ
  pub comment_start : List ℕ
  pub comment_end : List ℕ

abbrev pub marks_of : Delimiters → Marks
marks_of d = record {
  block_start = cow_str_bytes d.block_start;
  block_end = cow_str_bytes d.block_end;
  variable_start = cow_str_bytes d.variable_start;
  variable_end = cow_str_bytes d.variable_end;
  comment_start = cow_str_bytes d.comment_start;
  comment_end = cow_str_bytes d.comment_end;
}

abbrev pub default_marks : Marks
default_marks = record {
  block_start = codes "{%";
  block_end = codes "%}";
  variable_start = codes "{{";
  variable_end = codes "}}";
  comment_start = codes "{#";
  comment_end = codes "#}";
}

-- markers that a template can be read with: two bytes each, and three different starts
pub record IsValid (m : Marks) : Type 0 where
  pub block_start : length m.block_start ≡ 2
  pub block_end : length m.block_end ≡ 2
  pub variable_start : length m.variable_start ≡ 2
  pub variable_end : length m.variable_end ≡ 2
  pub comment_start : length m.comment_start ≡ 2
  pub comment_end : length m.comment_end ≡ 2
  pub block_variable : m.block_start ≢ m.variable_start
  pub block_comment : m.block_start ≢ m.comment_start
  pub variable_comment : m.variable_start ≢ m.comment_start

-- the markers are texts
pub record AreTexts (m : Marks) : Type 0 where
  pub block_start : IsUtf8 m.block_start
  pub block_end : IsUtf8 m.block_end
  pub variable_start : IsUtf8 m.variable_start
  pub variable_end : IsUtf8 m.variable_end
  pub comment_start : IsUtf8 m.comment_start
  pub comment_end : IsUtf8 m.comment_end

-- the markers of a tag of this kind
abbrev pub start_marker : Kind → Marks → List ℕ
start_marker Variable m = m.variable_start
start_marker Block m = m.block_start

abbrev pub end_marker : Kind → Marks → List ℕ
end_marker Variable m = m.variable_end
end_marker Block m = m.block_end

-- the marker begins the bytes
abbrev pub begins : List ℕ → List ℕ → Bool
begins marker bytes = starts_with nat_eq bytes marker

-- a test of what begins passes at no byte of the text before rest
abbrev pub NowhereIn : (List ℕ → Bool) → List ℕ → List ℕ → Type 0
NowhereIn test [] rest = Unit {0}
NowhereIn test (b ∷ bs) rest = (test (b ∷ (bs ++ rest)) ≡ false) × NowhereIn test bs rest

-- a dash, or none
abbrev pub dash_bytes : Bool → List ℕ
dash_bytes true = dash_byte ∷ []
dash_bytes false = []

-- a dash is taken wherever one is
abbrev pub TakesDash : Bool → List ℕ → Type 0
TakesDash true rest = Unit {0}
TakesDash false rest = begins (dash_byte ∷ []) rest ≡ false
