-- The calls in a part of a tree by those in the parts that are in it, and the parts of a tree that are to come.
use Rattle.std.proofs.Common.{◌≡◌, ◌∙◌, List, [], ◌∷◌, ◌++◌, map, reverse, refl, sym, ap, append_assoc, append-nil, ℕ, ◌-◌, take, Bor}
use Rattle.std.specs.List.{flat_map}
use Rattle.std.proofs.lemmas.List.{reverse-append, map-append}
use Rattle.std.proofs.lemmas.List.Concat.{flat_map-append}
use Rattle.tera_base.specs.declared.utils.Span.{Span}
use Rattle.tera_base.specs.declared.utils.Spanned.{Spanned}
use Rattle.tera_ast.specs.Tree.{Expr, Const, Array, Map, Var, GetAttr, GetItem, Slice, Filter, Test, Ternary, ListComprehension, ComponentCall, FunctionCall, UnaryOperation, BinaryOperation}
use Rattle.tera_ast.specs.Tree.{MaybeExpr, NoExpr, OneExpr, Filters, NoFilters, OneFilter, Args, NoArgs, Arg, Items, NoItems, Item, SpreadItem, Entries, NoEntries, Entry, SpreadEntry}
use Rattle.tera_ast.specs.Tree.{Stmt, Content, Shown, Set, BlockSet, Include, Block, ForLoop, Break, Continue, If, FilterSection, Nodes, NoNodes, OneNode}
use Rattle.tera_ast.specs.View.{nodes_of, call_view}
use Rattle.tera_ast.specs.declared.ast.ComponentCall.{ComponentCall as Call}
use Rattle.tera_ast.proofs.Views.{call_out}
use Rattle.tera_tree.specs.Parts.{PartVal, NodePart, ExpressionPart, parts_view, parts_of_maybe, parts_of_filters, parts_of_args, parts_of_items, parts_of_entries, parts_of_nodes, parts_in_expression, parts_in_node, children, top_parts}
use Rattle.tera_tree.specs.Tree.{Definition}
use Rattle.tera_tree.specs.declared.parts.Part.{Part}
use Rattle.tera_rules.specs.Calls.{calls_in, calls_in_maybe, calls_in_filters, calls_in_args, calls_in_items, calls_in_entries, calls_in_node, calls_in_nodes, calls_in_definition}
use Rattle.tera_rules.specs.Pending.{seen, calls_in_part, itself, to_come}

abbrev pub Found : Type 0
Found = Bor (Spanned Call)

-- ---- the calls in parts

abbrev calls_in_parts : List PartVal → List Expr
calls_in_parts ps = flat_map calls_in_part ps

both : (ps qs : List PartVal) (some more : List Expr) → calls_in_parts ps ≡ some → calls_in_parts qs ≡ more → calls_in_parts (ps ++ qs) ≡ some ++ more
both ps qs some more h k = flat_map-append calls_in_part ps qs ∙ ap (λ es. es ++ calls_in_parts qs) h ∙ ap (λ es. some ++ es) k

in_maybe : (e : MaybeExpr) → calls_in_parts (parts_of_maybe e) ≡ calls_in_maybe e
in_maybe NoExpr = refl
in_maybe (OneExpr e) = append-nil (calls_in e)

in_filters : (es : Filters) → calls_in_parts (parts_of_filters es) ≡ calls_in_filters es
in_filters NoFilters = refl
in_filters (OneFilter e es) = ap (λ cs. calls_in e ++ cs) (in_filters es)

in_args : (args : Args) → calls_in_parts (parts_of_args args) ≡ calls_in_args args
in_args NoArgs = refl
in_args (Arg name e more) = ap (λ cs. calls_in e ++ cs) (in_args more)

in_items : (es : Items) → calls_in_parts (parts_of_items es) ≡ calls_in_items es
in_items NoItems = refl
in_items (Item e es) = ap (λ cs. calls_in e ++ cs) (in_items es)
in_items (SpreadItem e es) = ap (λ cs. calls_in e ++ cs) (in_items es)

in_entries : (es : Entries) → calls_in_parts (parts_of_entries es) ≡ calls_in_entries es
in_entries NoEntries = refl
in_entries (Entry k e es) = ap (λ cs. calls_in e ++ cs) (in_entries es)
in_entries (SpreadEntry e es) = ap (λ cs. calls_in e ++ cs) (in_entries es)

in_nodes : (ns : Nodes) → calls_in_parts (parts_of_nodes ns) ≡ calls_in_nodes ns
in_nodes NoNodes = refl
in_nodes (OneNode n ns) = ap (λ cs. calls_in_node n ++ cs) (in_nodes ns)

in_filtered : (es : Filters) (ns : Nodes) → calls_in_parts (parts_of_filters es ++ parts_of_nodes ns) ≡ calls_in_filters es ++ calls_in_nodes ns
in_filtered es ns = both (parts_of_filters es) (parts_of_nodes ns) _ _ (in_filters es) (in_nodes ns)

in_bodies : (ns ms : Nodes) → calls_in_parts (parts_of_nodes ns ++ parts_of_nodes ms) ≡ calls_in_nodes ns ++ calls_in_nodes ms
in_bodies ns ms = both (parts_of_nodes ns) (parts_of_nodes ms) _ _ (in_nodes ns) (in_nodes ms)

in_node : (n : Stmt) → calls_in_parts (parts_in_node n) ≡ calls_in_node n
in_node (Content t) = refl
in_node (Shown e) = append-nil (calls_in e)
in_node (Set name e global) = append-nil (calls_in e)
in_node (BlockSet name filters body global) = in_filtered filters body
in_node (Include name span) = refl
in_node (Block name span body) = in_nodes body
in_node (ForLoop key value target body other) = ap (λ cs. calls_in target ++ cs) (in_bodies body other)
in_node Break = refl
in_node Continue = refl
in_node (If e body other) = ap (λ cs. calls_in e ++ cs) (in_bodies body other)
in_node (FilterSection filters body) = in_filtered filters body

in_expression : (e : Expr) → calls_in_parts (parts_in_expression e) ++ itself (ExpressionPart e) ≡ calls_in e
in_expression (Const v span) = refl
in_expression (Array es span) = append-nil _ ∙ in_items es
in_expression (Map es span) = append-nil _ ∙ in_entries es
in_expression (Var name span) = refl
in_expression (GetAttr e name optional span) = append-nil _ ∙ append-nil (calls_in e)
in_expression (GetItem e sub optional span) = append-nil _ ∙ ap (λ cs. calls_in e ++ cs) (append-nil (calls_in sub))
in_expression (Slice e start end step optional span) =
    append-nil _ ∙ ap (λ cs. calls_in e ++ cs)
    (both (parts_of_maybe start) (parts_of_maybe end ++ parts_of_maybe step) _ _ (in_maybe start)
    (both (parts_of_maybe end) (parts_of_maybe step) _ _ (in_maybe end) (in_maybe step)))
in_expression (Filter e name args span) = append-nil _ ∙ ap (λ cs. calls_in e ++ cs) (in_args args)
in_expression (Test e name args span) = append-nil _ ∙ ap (λ cs. calls_in e ++ cs) (in_args args)
in_expression (Ternary e given other span) = append-nil _ ∙ ap (λ cs. calls_in given ++ (calls_in e ++ cs)) (append-nil (calls_in other))
in_expression (ListComprehension e key value target condition span) =
    append-nil _ ∙ ap (λ cs. calls_in e ++ (calls_in target ++ cs)) (in_maybe condition)
in_expression (ComponentCall name es body closed span) =
    let call = ComponentCall name es body closed span ∷ [] in
    ap (λ cs. cs ++ call) (both (parts_of_entries es) (parts_of_nodes body) _ _ (in_entries es) (in_nodes body))
    ∙ append_assoc (calls_in_entries es) (calls_in_nodes body) call
in_expression (FunctionCall name args span) = append-nil _ ∙ in_args args
in_expression (UnaryOperation op e span) = append-nil _ ∙ append-nil (calls_in e)
in_expression (BinaryOperation op l r span) = append-nil _ ∙ ap (λ cs. calls_in l ++ cs) (append-nil (calls_in r))

pub in_part : (p : PartVal) → calls_in_parts (children p) ++ itself p ≡ calls_in_part p
in_part (NodePart n) = append-nil _ ∙ in_node n
in_part (ExpressionPart e) = in_expression e

in_definitions : (ds : List Definition) → calls_in_parts (flat_map (λ d. parts_of_nodes (nodes_of d.body)) ds) ≡ flat_map calls_in_definition ds
in_definitions [] = refl
in_definitions (d ∷ ds) = both (parts_of_nodes (nodes_of d.body)) (flat_map (λ d. parts_of_nodes (nodes_of d.body)) ds) _ _ (in_nodes (nodes_of d.body)) (in_definitions ds)

in_tree : (ds : List Definition) (ns : List Stmt) → calls_in_parts (top_parts ds ns) ≡ flat_map calls_in_definition ds ++ calls_in_nodes (nodes_of ns)
in_tree ds ns = both (flat_map (λ d. parts_of_nodes (nodes_of d.body)) ds) (parts_of_nodes (nodes_of ns)) _ _ (in_definitions ds) (in_nodes (nodes_of ns))

-- ---- the parts that are to come

-- of the parts at the top of a tree all calls in it are to come
pub begun : (ps : List Part) (calls : List Found) (ds : List Definition) (ns : List Stmt) → parts_view ps ≡ top_parts ds ns → calls ≡ []
    → to_come ps ++ reverse (map seen calls) ≡ flat_map calls_in_definition ds ++ calls_in_nodes (nodes_of ns)
begun ps calls ds ns tops none =
    ap (λ cs. to_come ps ++ reverse (map seen cs)) none ∙ append-nil (to_come ps) ∙ ap calls_in_parts tops ∙ in_tree ds ns

-- a part was taken
pub taken : (old now : List Part) (p : PartVal) (before after : List Expr) → parts_view now ≡ parts_view old ++ children p → after ≡ itself p ++ before
    → to_come now ++ after ≡ to_come old ++ (calls_in_part p ++ before)
taken old now p before after h k =
    let inside = calls_in_parts (children p) in
    ap (λ ps. calls_in_parts ps ++ after) h ∙ ap (λ es. es ++ after) (flat_map-append calls_in_part (parts_view old) (children p))
    ∙ append_assoc (to_come old) inside after
    ∙ ap (λ es. to_come old ++ (inside ++ es)) k
    ∙ ap (λ es. to_come old ++ es) (sym (append_assoc inside (itself p) before) ∙ ap (λ es. es ++ before) (in_part p))

-- a call that was found
pub found_more : (calls : List Found) (c : Found) → reverse (map seen (calls ++ c ∷ [])) ≡ seen c ∷ reverse (map seen calls)
found_more calls c = ap reverse (map-append seen calls (c ∷ [])) ∙ reverse-append (map seen calls) (seen c ∷ [])

pub itself_call : (c : Call) (span : Span) → itself (ExpressionPart (call_view c span)) ≡ call_view c span ∷ []
itself_call c span = rw (call_out c span) refl

-- nothing is left of a vector that gave nothing
pub emptied : {X : Type 0} (xs ys : List X) (n : ℕ) → n ≡ 0 → xs ≡ ys ++ [] → ys ≡ take (n - 1) xs → xs ≡ []
emptied xs ys n none split rest = split ∙ ap (λ zs. zs ++ []) (rest ∙ ap (λ k. take (k - 1) xs) none)

-- no part is left
map_reverse : (calls : List Found) → map seen (reverse calls) ≡ reverse (map seen calls)
map_reverse [] = refl
map_reverse (c ∷ calls) =
    ap (map seen) (reverse-append (c ∷ []) calls) ∙ map-append seen (reverse calls) (c ∷ [])
    ∙ ap (λ es. es ++ (seen c ∷ [])) (map_reverse calls)
    ∙ sym (reverse-append (seen c ∷ []) (map seen calls))

pub all_found : (ps : List Part) (calls turned : List Found) (all : List Expr)
    → to_come ps ++ reverse (map seen calls) ≡ all → ps ≡ [] → turned ≡ reverse calls → map seen turned ≡ all
all_found ps calls turned all held none is =
    ap (map seen) is ∙ map_reverse calls ∙ ap (λ qs. to_come qs ++ reverse (map seen calls)) (sym none) ∙ held
