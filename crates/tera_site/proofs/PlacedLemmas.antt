-- The parts of a tree with the blocks around them, by those that are to come.
use Rattle.std.proofs.Common.{◌≡◌, ◌∙◌, ℕ, List, [], ◌∷◌, ◌++◌, Option, Some, refl, sym, ap, append_assoc, append-nil}
use Rattle.std.specs.List.{flat_map}
use Rattle.std.specs.Option.{option_map}
use Rattle.tera_ast.specs.Tree.{Expr, Const, Array, Map, Var, GetAttr, GetItem, Slice, Filter, Test, Ternary, ListComprehension, ComponentCall, FunctionCall, UnaryOperation, BinaryOperation}
use Rattle.tera_ast.specs.Tree.{MaybeExpr, NoExpr, OneExpr, Filters, NoFilters, OneFilter, Args, NoArgs, Arg, Items, NoItems, Item, SpreadItem, Entries, NoEntries, Entry, SpreadEntry}
use Rattle.tera_ast.specs.Tree.{Stmt, Content, Shown, Set, BlockSet, Include, Block, ForLoop, Break, Continue, If, FilterSection, Nodes, NoNodes, OneNode}
use Rattle.tera_tree.specs.Parts.{PartVal, NodePart, ExpressionPart, parts_view, parts_of_maybe, parts_of_filters, parts_of_args, parts_of_items, parts_of_entries, parts_of_nodes, parts_in_expression, parts_in_node, children}
use Rattle.tera_findings.specs.Findings.{FindingVal}
use Rattle.tera_site.specs.Inside.{inside_parts, to_come}
use Rattle.tera_site.specs.Placed.{PlacedVal, placed, placed_maybe, placed_filters, placed_args, placed_items, placed_entries, placed_node, placed_nodes, placed_in, all_placed, around_in_node, around_in}
use Rattle.tera_site.specs.Named.{site_part}
use Rattle.tera_site.specs.Sites.{AroundVal}
use Rattle.tera_site.specs.declared.named.Inside.{Inside}

-- an expression with what is in it
abbrev placed_expression : Option (List ℕ) → Expr → List PlacedVal
placed_expression b e = (b, ExpressionPart e) ∷ placed b e

-- ---- the parts in a part

pub turned : (b : Option (List ℕ)) (ps qs : List PartVal) → all_placed b (ps ++ qs) ≡ all_placed b qs ++ all_placed b ps
turned b [] qs = sym (append-nil (all_placed b qs))
turned b (p ∷ ps) qs = ap (λ xs. xs ++ ((b, p) ∷ placed_in b p)) (turned b ps qs) ∙ append_assoc (all_placed b qs) (all_placed b ps) ((b, p) ∷ placed_in b p)

both : (b : Option (List ℕ)) (ps qs : List PartVal) (some more : List PlacedVal) → all_placed b ps ≡ some → all_placed b qs ≡ more → all_placed b (ps ++ qs) ≡ more ++ some
both b ps qs some more h k = turned b ps qs ∙ λ i. k i ++ h i

in_maybe : (b : Option (List ℕ)) (e : MaybeExpr) → all_placed b (parts_of_maybe e) ≡ placed_maybe b e
in_maybe b NoExpr = refl
in_maybe b (OneExpr e) = refl

in_filters : (b : Option (List ℕ)) (es : Filters) → all_placed b (parts_of_filters es) ≡ placed_filters b es
in_filters b NoFilters = refl
in_filters b (OneFilter e es) = ap (λ ps. ps ++ placed_expression b e) (in_filters b es)

in_args : (b : Option (List ℕ)) (args : Args) → all_placed b (parts_of_args args) ≡ placed_args b args
in_args b NoArgs = refl
in_args b (Arg name e more) = ap (λ ps. ps ++ placed_expression b e) (in_args b more)

in_items : (b : Option (List ℕ)) (es : Items) → all_placed b (parts_of_items es) ≡ placed_items b es
in_items b NoItems = refl
in_items b (Item e es) = ap (λ ps. ps ++ placed_expression b e) (in_items b es)
in_items b (SpreadItem e es) = ap (λ ps. ps ++ placed_expression b e) (in_items b es)

in_entries : (b : Option (List ℕ)) (es : Entries) → all_placed b (parts_of_entries es) ≡ placed_entries b es
in_entries b NoEntries = refl
in_entries b (Entry k e es) = ap (λ ps. ps ++ placed_expression b e) (in_entries b es)
in_entries b (SpreadEntry e es) = ap (λ ps. ps ++ placed_expression b e) (in_entries b es)

pub in_nodes : (b : Option (List ℕ)) (ns : Nodes) → all_placed b (parts_of_nodes ns) ≡ placed_nodes b ns
in_nodes b NoNodes = refl
in_nodes b (OneNode n ns) = ap (λ ps. ps ++ ((b, NodePart n) ∷ placed_node b n)) (in_nodes b ns)

in_filtered : (b : Option (List ℕ)) (es : Filters) (ns : Nodes) → all_placed b (parts_of_filters es ++ parts_of_nodes ns) ≡ placed_nodes b ns ++ placed_filters b es
in_filtered b es ns = both b (parts_of_filters es) (parts_of_nodes ns) _ _ (in_filters b es) (in_nodes b ns)

in_bodies : (b : Option (List ℕ)) (ns ms : Nodes) → all_placed b (parts_of_nodes ns ++ parts_of_nodes ms) ≡ placed_nodes b ms ++ placed_nodes b ns
in_bodies b ns ms = both b (parts_of_nodes ns) (parts_of_nodes ms) _ _ (in_nodes b ns) (in_nodes b ms)

in_node : (b : Option (List ℕ)) (n : Stmt) → all_placed (around_in_node b n) (parts_in_node n) ≡ placed_node b n
in_node b (Content t) = refl
in_node b (Shown e) = refl
in_node b (Set name e global) = refl
in_node b (BlockSet name filters body global) = in_filtered b filters body
in_node b (Include name span) = refl
in_node b (Block name span body) = in_nodes (Some name) body
in_node b (ForLoop key value target body other) = ap (λ ps. ps ++ placed_expression b target) (in_bodies b body other)
in_node b Break = refl
in_node b Continue = refl
in_node b (If e body other) = ap (λ ps. ps ++ placed_expression b e) (in_bodies b body other)
in_node b (FilterSection filters body) = in_filtered b filters body

in_expression : (b : Option (List ℕ)) (e : Expr) → all_placed b (parts_in_expression e) ≡ placed b e
in_expression b (Const v span) = refl
in_expression b (Array es span) = in_items b es
in_expression b (Map es span) = in_entries b es
in_expression b (Var name span) = refl
in_expression b (GetAttr e name optional span) = refl
in_expression b (GetItem e sub optional span) = refl
in_expression b (Slice e start end step optional span) =
    ap (λ ps. ps ++ placed_expression b e)
    (both b (parts_of_maybe start) (parts_of_maybe end ++ parts_of_maybe step) _ _ (in_maybe b start)
    (both b (parts_of_maybe end) (parts_of_maybe step) _ _ (in_maybe b end) (in_maybe b step)))
in_expression b (Filter e name args span) = ap (λ ps. ps ++ placed_expression b e) (in_args b args)
in_expression b (Test e name args span) = ap (λ ps. ps ++ placed_expression b e) (in_args b args)
in_expression b (Ternary e given other span) = refl
in_expression b (ListComprehension e key value target condition span) =
    ap (λ ps. (ps ++ placed_expression b target) ++ placed_expression b e) (in_maybe b condition)
in_expression b (ComponentCall name es body closed span) = both b (parts_of_entries es) (parts_of_nodes body) _ _ (in_entries b es) (in_nodes b body)
in_expression b (FunctionCall name args span) = in_args b args
in_expression b (UnaryOperation op e span) = refl
in_expression b (BinaryOperation op l r span) = refl

pub in_part : (b : Option (List ℕ)) (p : PartVal) → all_placed (around_in b p) (children p) ≡ placed_in b p
in_part b (NodePart n) = in_node b n
in_part b (ExpressionPart e) = in_expression b e

-- ---- a part is taken

pub last_first : (ss : List Inside) (s : Inside) → to_come (ss ++ s ∷ []) ≡ inside_parts s ++ to_come ss
last_first [] s = sym (append-nil (inside_parts s))
last_first (t ∷ ss) s = ap (λ ps. ps ++ inside_parts t) (last_first ss s) ∙ append_assoc (inside_parts s) (to_come ss) (inside_parts t)

-- what is in a part is put after those that are to come, unless the part is a block
pub put_there : (b : Option (List ℕ)) (p : PartVal) (rest now : List PlacedVal) → around_in b p ≡ b → now ≡ all_placed b (children p) ++ rest → now ≡ placed_in b p ++ rest
put_there b p rest now same h = h ∙ ap (λ ps. ps ++ rest) (ap (λ c. all_placed c (children p)) (sym same) ∙ in_part b p)

-- .. and in a block
pub in_made : (b : Option (List ℕ)) (ns : Nodes) (ps : List PartVal) → ps ≡ parts_of_nodes ns → all_placed b ps ≡ placed_nodes b ns
in_made b ns ps made = ap (all_placed b) made ∙ in_nodes b ns

-- what is found of the last part, and then of what is to come
pub taken : (a : AroundVal) (b : Option (List ℕ)) (p : PartVal) (rest : List PartVal) (old now : List PlacedVal) (start found : List FindingVal)
    → found ≡ start ++ site_part a (b, p) → now ≡ placed_in b p ++ (all_placed b rest ++ old)
    → found ++ flat_map (site_part a) now ≡ start ++ flat_map (site_part a) (all_placed b (rest ++ p ∷ []) ++ old)
taken a b p rest old now start found step is =
    let f = flat_map (site_part a) in
    (λ i. step i ++ f (is i))
    ∙ append_assoc start (site_part a (b, p)) (f (placed_in b p ++ (all_placed b rest ++ old)))
    ∙ ap (λ ps. start ++ (site_part a (b, p) ++ f ps)) (sym (append_assoc (placed_in b p) (all_placed b rest) old))
    ∙ ap (λ ps. start ++ f (ps ++ old)) (sym (turned b rest (p ∷ [])))

-- no part is left
pub all_taken : (a : AroundVal) (ss : List Inside) (found all : List FindingVal) → found ++ flat_map (site_part a) (to_come ss) ≡ all → ss ≡ [] → found ≡ all
all_taken a ss found all held none = sym (append-nil found) ∙ sym (ap (λ ts. found ++ flat_map (site_part a) (to_come ts)) none) ∙ held
