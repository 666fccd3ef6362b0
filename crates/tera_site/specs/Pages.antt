-- What a template says of others by their names, and the blocks that it has.
use Rattle.std.specs.Prelude.{ℕ, List, [], ◌∷◌, Bool, true, false, not, ◌||◌, Option, None, Some, Result, Ok, Err, codes}
use Rattle.std.specs.List.{flat_map}
use Rattle.std.specs.Option.{option_map}
use Rattle.tera_base.specs.declared.errors.Error.{Error}
use Rattle.tera_ast.specs.Tree.{Include, Block}
use Rattle.tera_tree.specs.Parts.{PartVal, NodePart}
use Rattle.tera_tree.specs.Outputs.{output_view}
use Rattle.tera_tree.specs.Tree.{Output}
use Rattle.tera_tree.specs.declared.outputs.ParserOutput.{ParserOutput}
use Rattle.tera_templates.specs.Lost.{is_lost}
use Rattle.tera_templates.specs.Templates.{tree_of}
use Rattle.tera_rules.specs.Within.{parts_of}
use Rattle.tera_templates.specs.declared.mended.Mended.{Mended}
use Rattle.tera_templates.specs.declared.templates.Template.{Template}

-- what it extends, the names that it includes, and its blocks; and whether that is all: no text that was written for a
-- fault may have had more
pub record PageVal : Type 0 where
  pub parent : Option (List ℕ)
  pub includes : List (List ℕ)
  pub blocks : List (List ℕ)
  pub is_whole : Bool

-- what a part of its tree says
abbrev pub included : PartVal → List (List ℕ)
included (NodePart (Include name span)) = name ∷ []
included _ = []

abbrev pub block_name : PartVal → List (List ℕ)
block_name (NodePart (Block name span body)) = name ∷ []
block_name _ = []

-- a word of a block, or `extends`, was lost: so a block, or the template that it extends, may be missing
abbrev pub lost_any : Mended → Bool
lost_any m = is_lost m (codes "block") || (is_lost m (codes "endblock") || is_lost m (codes "extends"))

abbrev pub is_whole_by : Result ParserOutput Error → Option Mended → Bool
is_whole_by (Ok o) m = true
is_whole_by (Err e) None = false
is_whole_by (Err e) (Some m) = not (lost_any m)

abbrev pub page_by : Bool → Option Output → PageVal
page_by whole None = record { parent = None; includes = []; blocks = []; is_whole = whole }
page_by whole (Some o) = record {
  parent = o.parent;
  includes = flat_map included (parts_of o);
  blocks = flat_map block_name (parts_of o);
  is_whole = whole;
}

abbrev pub page_of : Template → PageVal
page_of t = page_by (is_whole_by t.parsed t.mended) (option_map output_view (tree_of t))
