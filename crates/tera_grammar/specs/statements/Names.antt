-- The names that a template defines, and a name that is said again at the end of a statement.
use Rattle.std.specs.Prelude.{ℕ, Bool, true, List, [], ◌∷◌, ◌++◌, Option, Some, None}
use Rattle.std.specs.Str.{bytes_eq}
use Rattle.tera_grammar.specs.Words.{AreDistinct}

-- the name at the end, if any, is that at the start
abbrev pub agrees : List ℕ → Option (List ℕ) → Bool
agrees name None = true
agrees name (Some other) = bytes_eq other name

-- The names that a template defines: those of its blocks and those of its components, each in their order.
pub record Names : Type 0 where
  pub blocks : List (List ℕ)
  pub components : List (List ℕ)

abbrev pub no_names : Names
no_names = record { blocks = []; components = [] }

abbrev pub block_named : List ℕ → Names
block_named name = record { blocks = name ∷ []; components = [] }

abbrev pub component_named : List ℕ → Names
component_named name = record { blocks = []; components = name ∷ [] }

infixr 50 ◌and_then◌
abbrev pub ◌and_then◌ : Names → Names → Names
a and_then b = record { blocks = a.blocks ++ b.blocks; components = a.components ++ b.components }

-- no two blocks have one name, nor two components
abbrev pub NamesAreDistinct : Names → Type 0
NamesAreDistinct n = AreDistinct n.blocks × AreDistinct n.components
