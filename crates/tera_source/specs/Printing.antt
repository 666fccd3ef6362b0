-- What it is to print an expression back.
use Rattle.std.specs.Prelude.{◌≡◌, [], ◌∷◌, Some, None}
use Rattle.tera_lexer.specs.grammar.Marks.{default_marks}
use Rattle.tera_ast.specs.Tree as tree
use Rattle.tera_ast.specs.Tree.{Expr}
use Rattle.tera_tree.specs.Tree.{Output}
use Rattle.tera_grammar.specs.Limits.{Limits}
use Rattle.tera_grammar.specs.statements.Top.{Derives}
use Rattle.tera_spelling.specs.Sources.{in_tag}
use Rattle.tera_source.specs.Source.{source_text, source_of}
use Rattle.tera_source.specs.Placeless.{placeless}
use Rattle.tera_source.specs.Writable.{IsWritable}

-- what a template is read as that has one node, which shows an expression
abbrev pub shown_alone : Expr → Output
shown_alone e = record { parent = None; nodes = tree.Shown e ∷ []; definitions = [] }

-- what is read is one node, which shows the expression, apart from places
abbrev pub Shows : Expr → Output → Type 0
Shows e read = (x : Expr) × (read ≡ shown_alone x) × (placeless x ≡ placeless e)

-- The expression has a source text, and each of its parts has a form in the grammar. In a variable tag between the
-- default markers, that text has a derivation within the limits, and whatever is derived of it is one node, which shows
-- the expression, apart from places.
pub record PrintsBack (limits : Limits) (e : Expr) : Type 0 where
  pub text : source_of e ≡ Some (source_text e)
  pub writable : IsWritable e
  pub exists : (read : Output) × Derives limits default_marks (in_tag (source_text e)) read
  pub each : (read : Output) → Derives limits default_marks (in_tag (source_text e)) read → Shows e read
