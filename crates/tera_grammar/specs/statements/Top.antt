-- The conditions on the top level of a template, and whole templates.
use Rattle.std.specs.Prelude.{◌≡◌, ◌≤◌, ℕ, Bool, true, false, List, [], ◌∷◌, ◌⊎◌}
use Rattle.std.specs.Str.{trim_start}
use Rattle.tera_base.specs.declared.utils.Span.{Span}
use Rattle.tera_lexer.specs.grammar.Marks.{Marks}
use Rattle.tera_lexer.specs.grammar.Division.{Piece, Complete, IsDivision}
use Rattle.tera_lexer.specs.grammar.Tokens.{Items, Ended, tokens_of}
use Rattle.tera_tree.specs.Tree.{Output}
use Rattle.tera_grammar.specs.expressions.Concrete.{Quote}
use Rattle.tera_grammar.specs.statements.Names.{NamesAreDistinct}
use Rattle.tera_grammar.specs.statements.TagParts.{Tag}
use Rattle.tera_grammar.specs.statements.Expressions.{Limits}
use Rattle.tera_grammar.specs.statements.Grammar.{Text, Extends, Body, Done, Then, Item, Single, Block, Define, yield, Fits, names, height}
use Rattle.tera_grammar.specs.statements.Output.{output_of}
use Rattle.tera_grammar.specs.statements.Places.{Places, places}

abbrev pub is_empty : List ℕ → Bool
is_empty [] = true
is_empty (b ∷ bs) = false

-- nothing but white space; nothing at all is that too, which the first line says so that it computes
abbrev pub is_blank : List ℕ → Bool
is_blank [] = true
is_blank (b ∷ bs) = is_empty (trim_start (b ∷ bs))

-- a text of white space, as a comment is, or the definition of a component
abbrev pub is_silent : Item → Bool
is_silent (Single (Text text span)) = is_blank text
is_silent (Define h b) = true
is_silent i = false

-- what may be in a template that extends another
abbrev pub is_kept : Item → Bool
is_kept (Block t n b e m) = true
is_kept i = is_silent i

abbrev pub IsExtends : Item → Type 0
IsExtends (Single (Extends t q span)) = Unit {0}
IsExtends i = ⊥

-- each item of the body
abbrev pub Each : (Item → Type 0) → Body → Type 0
Each P Done = Unit {0}
Each P (Then i b) = P i × Each P b

-- one body, and then another
abbrev pub join : Body → Body → Body
join Done c = c
join (Then i b) c = Then i (join b c)

-- It extends another: once, with texts of white space, comments and definitions of components before, and with these
-- and blocks after.
pub record Child (b : Body) : Type 0 where
  pub before : Body
  pub tag : Tag
  pub parent : Quote
  pub span : Span
  pub after : Body
  pub is : b ≡ join before (Then (Single (Extends tag parent span)) after)
  pub silent : Each (λ i. is_silent i ≡ true) before
  pub kept : Each (λ i. is_kept i ≡ true) after

abbrev pub TopLevel : Body → Type 0
TopLevel b = Each (λ i. IsExtends i → ⊥) b ⊎ Child b

-- These are the tokens of this template, and it meets all conditions within the limits.
pub record IsTemplate (l : Limits) (items : Items) (b : Body) : Type 0 where
  pub tokens : items ≡ yield b Ended
  pub fits : Fits l [] b
  pub distinct : NamesAreDistinct (names b)
  pub top : TopLevel b
  pub low : height b ≤ l.bodies

-- The source has a derivation with this output: it is divided into pieces with no tag and no fault left open, and their
-- tokens are those of a template.
abbrev pub Derives : Limits → Marks → List ℕ → Output → Type 0
Derives l m source output = (pieces : List Piece) × IsDivision m pieces Complete source
    × ((b : Body) × IsTemplate l (tokens_of m [] [] pieces Complete) b × (output ≡ output_of b))

-- The source has a derivation with this output, whose template defines these names at these places.
abbrev pub DerivesNames : Limits → Marks → List ℕ → Output → Places → Type 0
DerivesNames l m source output names = (pieces : List Piece) × IsDivision m pieces Complete source
    × ((b : Body) × IsTemplate l (tokens_of m [] [] pieces Complete) b × (output ≡ output_of b) × (names ≡ places b))
