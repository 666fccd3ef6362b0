-- What makes a difference to what is found of the names of a template.
use Rattle.std.specs.Prelude.{◌≡◌, ℕ, List, [], ◌∷◌, ◌++◌, Option}
use Rattle.std.specs.List.{AllByRecursion, flat_map}
use Rattle.tera_ast.specs.Tree.{Stmt, Block}
use Rattle.tera_tree.specs.Parts.{PartVal}
use Rattle.tera_tree.specs.Tree.{Output}
use Rattle.tera_site.specs.Named.{lacks}
use Rattle.tera_site.specs.Pages.{included}
use Rattle.tera_site.specs.Placed.{placed_parts_of}
use Rattle.tera_site.specs.Sites.{AroundVal, if_any}

-- the names that a tree includes; and the blocks that it has at its top, and around its parts
abbrev pub included_at : Option (List ℕ) × PartVal → List (List ℕ)
included_at p = included p.1

abbrev pub block_around : Option (List ℕ) × PartVal → List (List ℕ)
block_around p = if_any p.0

abbrev pub top_block : Stmt → List (List ℕ)
top_block (Block name span body) = name ∷ []
top_block _ = []

abbrev pub blocks_used : Output → List (List ℕ)
blocks_used o = flat_map top_block o.nodes ++ flat_map block_around (placed_parts_of o)

-- two surroundings of a tree agree under the names that it uses
pub record AgreeAround (o : Output) (a b : AroundVal) : Type 0 where
  pub parent : AllByRecursion (λ n. a.has n ≡ b.has n) (if_any o.parent)
  pub includes : AllByRecursion (λ n. (a.has n ≡ b.has n) × (a.comes_back n ≡ b.comes_back n)) (flat_map included_at (placed_parts_of o))
  pub extends_itself : a.extends_itself ≡ b.extends_itself
  pub blocks : AllByRecursion (λ n. lacks a n ≡ lacks b n) (blocks_used o)
