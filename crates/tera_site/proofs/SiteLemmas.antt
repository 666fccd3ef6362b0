-- What is found of names, by what is around a tree under the names that it uses.
use Rattle.std.proofs.Common.{◌≡◌, ℕ, List, [], ◌∷◌, ◌++◌, Bool, not, Option, None, Some, codes, refl, ap}
use Rattle.std.proofs.Common.{if◌then◌else◌}
use Rattle.std.specs.List.{AllByRecursion, flat_map}
use Rattle.std.specs.Str.{bytes_eq}
use Rattle.tera_base.specs.declared.utils.Span.{Span}
use Rattle.tera_ast.specs.Tree.{Expr, Const, Array, Map, Var, GetAttr, GetItem, Slice, Filter, Test, Ternary, ListComprehension, ComponentCall, FunctionCall, UnaryOperation, BinaryOperation}
use Rattle.tera_ast.specs.Tree.{Stmt, Content, Shown, Set, BlockSet, Include, Block, ForLoop, Break, Continue, If, FilterSection}
use Rattle.tera_tree.specs.Parts.{PartVal, NodePart, ExpressionPart}
use Rattle.tera_tree.specs.Tree.{Output}
use Rattle.tera_findings.specs.Findings.{FindingVal}
use Rattle.tera_site.specs.Placed.{PlacedVal, placed_parts_of}
use Rattle.tera_site.specs.Alike.{AgreeAround, included_at, block_around, top_block, blocks_used}
use Rattle.tera_site.specs.Named.{missing, circular_extends, circular_include, undefined_block, super_above, lacks, parent_findings, include_findings, inherited_block, block_findings, blocks_findings, super_findings, super_call, site_part, names_findings}
use Rattle.tera_site.specs.Pages.{included}
use Rattle.tera_site.specs.Sites.{AroundVal, if_any}
use Rattle.tera_check.proofs.TakenLemmas.{all_append}

module _ (a b : AroundVal) where
  abbrev Has : List ℕ → Type 0
  Has n = a.has n ≡ b.has n

  abbrev Includes : List ℕ → Type 0
  Includes n = (a.has n ≡ b.has n) × (a.comes_back n ≡ b.comes_back n)

  abbrev Lacks : List ℕ → Type 0
  Lacks n = lacks a n ≡ lacks b n

  parent_alike : (span : Span) (parent : Option (List ℕ)) → AllByRecursion Has (if_any parent) → a.extends_itself ≡ b.extends_itself
      → parent_findings a span parent ≡ parent_findings b span parent
  parent_alike span None h itself = refl
  parent_alike span (Some n) h itself =
      λ i. if not (h.0 i) then missing n span ∷ [] else (if itself i then circular_extends n span ∷ [] else [])

  include_alike : (n : List ℕ) (span : Span) → Includes n → include_findings a n span ≡ include_findings b n span
  include_alike n span h = λ i. if not (h.0 i) then missing n span ∷ [] else (if h.1 i then circular_include n span ∷ [] else [])

  block_alike : (s : Stmt) → AllByRecursion Lacks (top_block s) → block_findings a s ≡ block_findings b s
  block_alike (Block n span body) h = λ i. if h.0 i then undefined_block n span ∷ [] else []
  block_alike (Content t) h = refl
  block_alike (Shown e) h = refl
  block_alike (Set name e global) h = refl
  block_alike (BlockSet name filters body global) h = refl
  block_alike (Include name span) h = refl
  block_alike (ForLoop key value target body other) h = refl
  block_alike Break h = refl
  block_alike Continue h = refl
  block_alike (If e body other) h = refl
  block_alike (FilterSection filters body) h = refl

  tops_alike : (ss : List Stmt) → AllByRecursion Lacks (flat_map top_block ss) → flat_map (block_findings a) ss ≡ flat_map (block_findings b) ss
  tops_alike [] h = refl
  tops_alike (s ∷ ss) h =
      let (first, more) = all_append Lacks (top_block s) (flat_map top_block ss) h in
      λ i. block_alike s first i ++ tops_alike ss more i

  blocks_alike : (parent : Option (List ℕ)) (ss : List Stmt) → AllByRecursion Lacks (flat_map top_block ss) → blocks_findings a parent ss ≡ blocks_findings b parent ss
  blocks_alike None ss h = refl
  blocks_alike (Some n) ss h = tops_alike ss h

  super_alike : (block : Option (List ℕ)) (span : Span) → AllByRecursion Lacks (if_any block) → super_findings a block span ≡ super_findings b block span
  super_alike None span h = refl
  super_alike (Some n) span h = λ i. if h.0 i then super_above n span ∷ [] else []

  call_alike : (block : Option (List ℕ)) (name : List ℕ) (span : Span) → AllByRecursion Lacks (if_any block) → super_call a block name span ≡ super_call b block name span
  call_alike block name span h = ap (λ fs. if bytes_eq name (codes "super") then fs else []) (super_alike block span h)

  node_alike : (block : Option (List ℕ)) (s : Stmt) → AllByRecursion Includes (included (NodePart s)) → site_part a (block, NodePart s) ≡ site_part b (block, NodePart s)
  node_alike block (Include name span) h = include_alike name span h.0
  node_alike block (Content t) h = refl
  node_alike block (Shown e) h = refl
  node_alike block (Set name e global) h = refl
  node_alike block (BlockSet name filters body global) h = refl
  node_alike block (Block name span body) h = refl
  node_alike block (ForLoop key value target body other) h = refl
  node_alike block Break h = refl
  node_alike block Continue h = refl
  node_alike block (If e body other) h = refl
  node_alike block (FilterSection filters body) h = refl

  expression_alike : (block : Option (List ℕ)) (e : Expr) → AllByRecursion Lacks (if_any block) → site_part a (block, ExpressionPart e) ≡ site_part b (block, ExpressionPart e)
  expression_alike block (FunctionCall name args span) h = call_alike block name span h
  expression_alike block (Const v span) h = refl
  expression_alike block (Array es span) h = refl
  expression_alike block (Map es span) h = refl
  expression_alike block (Var name span) h = refl
  expression_alike block (GetAttr e name optional span) h = refl
  expression_alike block (GetItem e sub optional span) h = refl
  expression_alike block (Slice e start end step optional span) h = refl
  expression_alike block (Filter e name args span) h = refl
  expression_alike block (Test e name args span) h = refl
  expression_alike block (Ternary e given other span) h = refl
  expression_alike block (ListComprehension e key value target condition span) h = refl
  expression_alike block (ComponentCall name es body closed span) h = refl
  expression_alike block (UnaryOperation op e span) h = refl
  expression_alike block (BinaryOperation op l r span) h = refl

  part_alike : (p : PlacedVal) → AllByRecursion Includes (included_at p) → AllByRecursion Lacks (block_around p) → site_part a p ≡ site_part b p
  part_alike (block, NodePart s) h k = node_alike block s h
  part_alike (block, ExpressionPart e) h k = expression_alike block e k

  parts_alike : (ps : List PlacedVal) → AllByRecursion Includes (flat_map included_at ps) → AllByRecursion Lacks (flat_map block_around ps)
      → flat_map (site_part a) ps ≡ flat_map (site_part b) ps
  parts_alike [] h k = refl
  parts_alike (p ∷ ps) h k =
      let (first, more) = all_append Includes (included_at p) (flat_map included_at ps) h in
      let (around, others) = all_append Lacks (block_around p) (flat_map block_around ps) k in
      λ i. part_alike p first around i ++ parts_alike ps more others i

  pub names_alike : (span : Span) (o : Output) → AgreeAround o a b → names_findings a span o ≡ names_findings b span o
  names_alike span o h =
      let (tops, around) = all_append Lacks (flat_map top_block o.nodes) (flat_map block_around (placed_parts_of o)) h.blocks in
      λ i. parent_alike span o.parent h.parent h.extends_itself i
      ++ (blocks_alike o.parent o.nodes tops i ++ parts_alike (placed_parts_of o) h.includes around i)
