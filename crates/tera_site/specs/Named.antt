-- What is found of the names that a template has, by what is around it.
use Rattle.std.specs.Prelude.{◌≡◌, ℕ, List, [], ◌∷◌, ◌++◌, Bool, true, false, not, if◌then◌else◌, Option, None, Some, codes}
use Rattle.std.specs.List.{filter, flat_map}
use Rattle.std.specs.Option.{option_map_or}
use Rattle.std.specs.Str.{bytes_eq}
use Rattle.tera_base.specs.declared.utils.Span.{Span}
use Rattle.tera_ast.specs.Tree.{Stmt, Include, Block, FunctionCall}
use Rattle.tera_tree.specs.Parts.{PartVal, NodePart, ExpressionPart}
use Rattle.tera_tree.specs.Outputs.{output_view}
use Rattle.tera_tree.specs.Tree.{Output}
use Rattle.tera_check.specs.Due.{is_due}
use Rattle.tera_findings.specs.Findings.{FindingVal, FindingOf, span_if_any}
use Rattle.tera_templates.specs.Templates.{tree_of}
use Rattle.tera_findings.specs.declared.finding.Kind.TheVariants as kinds
use Rattle.tera_templates.specs.declared.templates.Template.{Template}
use Rattle.tera_site.specs.Placed.{placed_parts_of}
use Rattle.tera_site.specs.Sites.{AroundVal}

-- ---- names that no template has, and templates that lead back

abbrev pub missing_text : List ℕ → List ℕ
missing_text name = codes "No template is named `" ++ (name ++ codes "`")

abbrev pub missing : List ℕ → Span → FindingVal
missing name span = FindingOf kinds.MissingTemplate span (missing_text name) []

abbrev pub circular_extends_text : List ℕ → List ℕ
circular_extends_text name = codes "This template extends `" ++ (name ++ codes "`, which in turn extends this template")

abbrev pub circular_extends : List ℕ → Span → FindingVal
circular_extends name span = FindingOf kinds.CircularExtends span (circular_extends_text name) []

abbrev pub circular_include_text : List ℕ → List ℕ
circular_include_text name = codes "This template includes `" ++ (name ++ codes "`, which in turn includes or extends this template")

abbrev pub circular_include : List ℕ → Span → FindingVal
circular_include name span = FindingOf kinds.CircularInclude span (circular_include_text name) []

-- for what it extends, by the name at a span
abbrev pub parent_findings : AroundVal → Span → Option (List ℕ) → List FindingVal
parent_findings a span None = []
parent_findings a span (Some name) =
    if not (a.has name) then missing name span ∷ []
    else (if a.extends_itself then circular_extends name span ∷ [] else [])

-- for what it includes
abbrev pub include_findings : AroundVal → List ℕ → Span → List FindingVal
include_findings a name span =
    if not (a.has name) then missing name span ∷ []
    else (if a.comes_back name then circular_include name span ∷ [] else [])

-- ---- blocks that none of the templates that it extends has

-- it is known that none has the block
abbrev pub lacks : AroundVal → List ℕ → Bool
lacks a name = option_map_or (λ inherited. not (inherited name)) a.inherited false

abbrev pub undefined_block_text : List ℕ → List ℕ
undefined_block_text name = codes "No parent template has a block named `" ++ (name ++ codes "`")

abbrev pub undefined_block : List ℕ → Span → FindingVal
undefined_block name span = FindingOf kinds.UndefinedBlock span (undefined_block_text name) []

-- a block at the top of a template that extends another; one that is in another block is shown with that
abbrev pub inherited_block : AroundVal → List ℕ → Span → List FindingVal
inherited_block a name span = if lacks a name then undefined_block name span ∷ [] else []

abbrev pub block_findings : AroundVal → Stmt → List FindingVal
block_findings a (Block name span body) = inherited_block a name span
block_findings a _ = []

abbrev pub blocks_findings : AroundVal → Option (List ℕ) → List Stmt → List FindingVal
blocks_findings a None ns = []
blocks_findings a (Some parent) ns = flat_map (block_findings a) ns

-- ---- `super()` if there is nothing above the block

abbrev pub super_outside_text : List ℕ
super_outside_text = codes "`super()` is not in a block"

abbrev pub super_text : List ℕ → List ℕ
super_text name = codes "`super()` has no value: no parent template has a block named `" ++ (name ++ codes "`")

abbrev pub super_above : List ℕ → Span → FindingVal
super_above name span = FindingOf kinds.SuperWithoutParent span (super_text name) []

abbrev pub super_outside : Span → FindingVal
super_outside span = FindingOf kinds.SuperWithoutParent span super_outside_text []

abbrev pub super_findings : AroundVal → Option (List ℕ) → Span → List FindingVal
super_findings a None span = super_outside span ∷ []
super_findings a (Some block) span = if lacks a block then super_above block span ∷ [] else []

abbrev pub super_call : AroundVal → Option (List ℕ) → List ℕ → Span → List FindingVal
super_call a block name span = if bytes_eq name (codes "super") then super_findings a block span else []

-- ---- a template

-- in a part, with the block that is around it
abbrev pub site_part : AroundVal → Option (List ℕ) × PartVal → List FindingVal
site_part a (block, NodePart (Include name span)) = include_findings a name span
site_part a (block, ExpressionPart (FunctionCall name args span)) =
    super_call a block name span
site_part a _ = []

-- .. and in a template, whose name of what it extends is at a span
abbrev pub names_findings : AroundVal → Span → Output → List FindingVal
names_findings a span o =
    parent_findings a span o.parent
    ++ (blocks_findings a o.parent o.nodes ++ flat_map (site_part a) (placed_parts_of o))

-- the ones that are due, as for other findings in a tree
abbrev pub due_names : AroundVal → Template → List FindingVal
due_names a t =
    option_map_or (λ o. filter (is_due false t) (names_findings a (span_if_any t.parent_at) (output_view o))) (tree_of t) []
