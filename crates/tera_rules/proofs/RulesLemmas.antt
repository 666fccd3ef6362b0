-- All parts of a tree by those that are to come, and what is found in a part.
use Rattle.std.proofs.Common.{◌≡◌, ◌∙◌, ℕ, List, [], ◌∷◌, ◌++◌, refl, sym, ap, append_assoc, append-nil}
use Rattle.std.specs.List.{flat_map}
use Rattle.std.proofs.lemmas.List.{map-append}
use Rattle.tera_base.specs.Spanned.{node_of}
use Rattle.tera_base.specs.declared.utils.Spanned.{Spanned}
use Rattle.tera_ast.specs.Tree.{Expr, Const, Array, Map, Var, GetAttr, GetItem, Slice, Filter, Test, Ternary, ListComprehension, ComponentCall, FunctionCall, UnaryOperation, BinaryOperation}
use Rattle.tera_ast.specs.Tree.{MaybeExpr, NoExpr, OneExpr, Filters, NoFilters, OneFilter, Args, NoArgs, Arg, Items, NoItems, Item, SpreadItem, Entries, NoEntries, Entry, SpreadEntry}
use Rattle.tera_ast.specs.Tree.{Stmt, Content, Shown, Set, BlockSet, Include, Block, ForLoop, Break, Continue, If, FilterSection, Nodes, NoNodes, OneNode}
use Rattle.tera_ast.specs.View.{expression_view, entries_view}
use Rattle.tera_ast.specs.declared.ast.Expression.{Expression}
use Rattle.tera_ast.specs.declared.ast.Expression.TheVariants as code
use Rattle.tera_ast.specs.declared.ast.MapOf.{MapOf}
use Rattle.tera_ast.proofs.Views.{view_map}
use Rattle.tera_tree.specs.Parts.{PartVal, NodePart, ExpressionPart, part_view, parts_view, parts_of_maybe, parts_of_filters, parts_of_args, parts_of_items, parts_of_entries, parts_of_nodes, parts_in_expression, parts_in_node, children}
use Rattle.tera_tree.specs.declared.parts.Part.{Part}
use Rattle.tera_findings.specs.Findings.{FindingVal}
use Rattle.tera_rules.specs.Repeated.{repeated_findings}
use Rattle.tera_rules.specs.RepeatedKeys.{repeated_keys}
use Rattle.tera_rules.specs.Rules.{part_findings}
use Rattle.tera_rules.specs.Within.{within, all_in, all_in_maybe, all_in_filters, all_in_args, all_in_items, all_in_entries, within_node, all_in_nodes, within_part, all_parts}
use Rattle.tera_rules.specs.declared.repeated.Holder.TheVariants as holders

-- ---- the parts in a part

pub turned : (ps qs : List PartVal) → all_parts (ps ++ qs) ≡ all_parts qs ++ all_parts ps
turned [] qs = sym (append-nil (all_parts qs))
turned (p ∷ ps) qs = ap (λ xs. xs ++ (p ∷ within_part p)) (turned ps qs) ∙ append_assoc (all_parts qs) (all_parts ps) (p ∷ within_part p)

both : (ps qs some more : List PartVal) → all_parts ps ≡ some → all_parts qs ≡ more → all_parts (ps ++ qs) ≡ more ++ some
both ps qs some more h k = turned ps qs ∙ λ i. k i ++ h i

in_maybe : (e : MaybeExpr) → all_parts (parts_of_maybe e) ≡ all_in_maybe e
in_maybe NoExpr = refl
in_maybe (OneExpr e) = refl

in_filters : (es : Filters) → all_parts (parts_of_filters es) ≡ all_in_filters es
in_filters NoFilters = refl
in_filters (OneFilter e es) = ap (λ ps. ps ++ all_in e) (in_filters es)

in_args : (args : Args) → all_parts (parts_of_args args) ≡ all_in_args args
in_args NoArgs = refl
in_args (Arg name e more) = ap (λ ps. ps ++ all_in e) (in_args more)

in_items : (es : Items) → all_parts (parts_of_items es) ≡ all_in_items es
in_items NoItems = refl
in_items (Item e es) = ap (λ ps. ps ++ all_in e) (in_items es)
in_items (SpreadItem e es) = ap (λ ps. ps ++ all_in e) (in_items es)

in_entries : (es : Entries) → all_parts (parts_of_entries es) ≡ all_in_entries es
in_entries NoEntries = refl
in_entries (Entry k e es) = ap (λ ps. ps ++ all_in e) (in_entries es)
in_entries (SpreadEntry e es) = ap (λ ps. ps ++ all_in e) (in_entries es)

in_nodes : (ns : Nodes) → all_parts (parts_of_nodes ns) ≡ all_in_nodes ns
in_nodes NoNodes = refl
in_nodes (OneNode n ns) = ap (λ ps. ps ++ (NodePart n ∷ within_node n)) (in_nodes ns)

in_filtered : (es : Filters) (ns : Nodes) → all_parts (parts_of_filters es ++ parts_of_nodes ns) ≡ all_in_nodes ns ++ all_in_filters es
in_filtered es ns = both (parts_of_filters es) (parts_of_nodes ns) _ _ (in_filters es) (in_nodes ns)

in_bodies : (ns ms : Nodes) → all_parts (parts_of_nodes ns ++ parts_of_nodes ms) ≡ all_in_nodes ms ++ all_in_nodes ns
in_bodies ns ms = both (parts_of_nodes ns) (parts_of_nodes ms) _ _ (in_nodes ns) (in_nodes ms)

in_node : (n : Stmt) → all_parts (parts_in_node n) ≡ within_node n
in_node (Content t) = refl
in_node (Shown e) = refl
in_node (Set name e global) = refl
in_node (BlockSet name filters body global) = in_filtered filters body
in_node (Include name span) = refl
in_node (Block name span body) = in_nodes body
in_node (ForLoop key value target body other) = ap (λ ps. ps ++ all_in target) (in_bodies body other)
in_node Break = refl
in_node Continue = refl
in_node (If e body other) = ap (λ ps. ps ++ all_in e) (in_bodies body other)
in_node (FilterSection filters body) = in_filtered filters body

in_expression : (e : Expr) → all_parts (parts_in_expression e) ≡ within e
in_expression (Const v span) = refl
in_expression (Array es span) = in_items es
in_expression (Map es span) = in_entries es
in_expression (Var name span) = refl
in_expression (GetAttr e name optional span) = refl
in_expression (GetItem e sub optional span) = refl
in_expression (Slice e start end step optional span) =
    ap (λ ps. ps ++ all_in e)
    (both (parts_of_maybe start) (parts_of_maybe end ++ parts_of_maybe step) _ _ (in_maybe start)
    (both (parts_of_maybe end) (parts_of_maybe step) _ _ (in_maybe end) (in_maybe step)))
in_expression (Filter e name args span) = ap (λ ps. ps ++ all_in e) (in_args args)
in_expression (Test e name args span) = ap (λ ps. ps ++ all_in e) (in_args args)
in_expression (Ternary e given other span) = refl
in_expression (ListComprehension e key value target condition span) =
    ap (λ ps. (ps ++ all_in target) ++ all_in e) (in_maybe condition)
in_expression (ComponentCall name es body closed span) = both (parts_of_entries es) (parts_of_nodes body) _ _ (in_entries es) (in_nodes body)
in_expression (FunctionCall name args span) = in_args args
in_expression (UnaryOperation op e span) = refl
in_expression (BinaryOperation op l r span) = refl

in_part : (p : PartVal) → all_parts (children p) ≡ within_part p
in_part (NodePart n) = in_node n
in_part (ExpressionPart e) = in_expression e

-- ---- a part is taken

-- what is to come is the last part, and then what is to come where those in it are in its place
pub last_part : (old : List PartVal) (p : PartVal) → all_parts (old ++ p ∷ []) ≡ p ∷ all_parts (old ++ children p)
last_part old p =
    turned old (p ∷ [])
    ∙ ap (λ ps. p ∷ ps) (ap (λ ps. ps ++ all_parts old) (sym (in_part p)) ∙ sym (turned old (children p)))

pub taken : (file : List ℕ) (old now : List PartVal) (p : PartVal) (start found : List FindingVal)
    → now ≡ old ++ children p → found ≡ start ++ part_findings file p
    → found ++ flat_map (part_findings file) (all_parts now) ≡ start ++ flat_map (part_findings file) (all_parts (old ++ p ∷ []))
taken file old now p start found h k =
    let rest = flat_map (part_findings file) (all_parts (old ++ children p)) in
    (λ i. k i ++ flat_map (part_findings file) (all_parts (h i)))
    ∙ append_assoc start (part_findings file p) rest
    ∙ ap (λ ps. start ++ flat_map (part_findings file) ps) (sym (last_part old p))

-- the last of the parts that are to come
pub next_part : (file : List ℕ) (all rest : List Part) (p : Part) (start now total : List FindingVal) → all ≡ rest ++ p ∷ []
    → start ++ flat_map (part_findings file) (all_parts (parts_view all)) ≡ total
    → now ≡ start ++ flat_map (part_findings file) (all_parts (parts_view rest ++ (part_view p ∷ []))) → now ≡ total
next_part file all rest p start now total split held step =
    step ∙ ap (λ ps. start ++ flat_map (part_findings file) (all_parts ps)) (sym (ap parts_view split ∙ map-append part_view rest (p ∷ []))) ∙ held

-- no part is left
pub all_taken : (file : List ℕ) (ps : List Part) (found all : List FindingVal) → found ++ flat_map (part_findings file) (all_parts (parts_view ps)) ≡ all → ps ≡ [] → found ≡ all
all_taken file ps found all held none =
    sym (append-nil found) ∙ sym (ap (λ qs. found ++ flat_map (part_findings file) (all_parts (parts_view qs))) none) ∙ held

-- ---- what is found in a part

pub keys_of_map : (file : List ℕ) (s : Spanned (MapOf Expression))
    → repeated_keys file (ExpressionPart (expression_view (code.Map s))) ≡ repeated_findings holders.Map file (entries_view (node_of s).entries.items)
keys_of_map file s = rw (view_map s) refl
