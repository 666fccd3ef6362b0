-- What names a parameter, and which parameters are never used, by what calls take under their names.
use Rattle.std.proofs.Common.{◌≡◌, ℕ, List, [], ◌∷◌, ◌++◌, Bool, Option, Some, refl, ap, subst}
use Rattle.std.specs.Prelude.{◌||◌, ◌&&◌, not, false}
use Rattle.std.specs.List.{flat_map, list_any, AllByRecursion}
use Rattle.std.proofs.lemmas.List.Concat.{flat_map-append}
use Rattle.tera_ast.specs.Tree.{Expr, Const, Array, Map, Var, GetAttr, GetItem, Slice, Filter, Test, Ternary, ListComprehension, ComponentCall, FunctionCall, UnaryOperation, BinaryOperation}
use Rattle.tera_ast.specs.Tree.{MaybeExpr, NoExpr, OneExpr, Filters, NoFilters, OneFilter, Args, NoArgs, Arg, Items, NoItems, Item, SpreadItem, Entries, NoEntries, Entry, SpreadEntry}
use Rattle.tera_ast.specs.Tree.{Stmt, Content, Shown, Set, BlockSet, Include, Block, ForLoop, Break, Continue, If, FilterSection, Nodes, NoNodes, OneNode}
use Rattle.tera_check.specs.Alike.{name_called}
use Rattle.tera_ast.specs.View.{nodes_of}
use Rattle.tera_grammar.specs.statements.Reading.Meeting.{Located}
use Rattle.tera_tree.specs.Tree.{Definition}
use Rattle.tera_rules.specs.Calls.{calls_in, calls_in_maybe, calls_in_filters, calls_in_args, calls_in_items, calls_in_entries, calls_in_node, calls_in_nodes, calls_in_definition}
use Rattle.tera_rules.specs.Judged.{KnownVal, takes_it, taken_by}
use Rattle.tera_check.specs.Named.{taken_in}
use Rattle.tera_check.specs.Parameters.{binds, named_in, named_in_maybe, named_in_filters, named_in_args, named_in_items, named_in_entries, named_in_node, named_in_nodes, unused_of, unused_in}

pub all_append : {X : Type 0} (P : X → Type 0) (xs ys : List X) → AllByRecursion P (xs ++ ys) → AllByRecursion P xs × AllByRecursion P ys
all_append P [] ys h = (tt, h)
all_append P (x ∷ xs) ys h = let (first, second) = all_append P xs ys h.1 in ((h.0, first), second)

-- what is known has a property under the names of some calls, by which these take alike
module _ (known others : List ℕ → Option KnownVal) (P : List ℕ → Type 0)
    (taken_alike : (name : List ℕ) → P name → (hidden : Bool) (n : List ℕ) → taken_in known name hidden n ≡ taken_in others name hidden n) where
  abbrev pub Agree : List Expr → Type 0
  Agree es = AllByRecursion P (flat_map name_called es)

  pub agree_both : (es more : List Expr) → Agree (es ++ more) → Agree es × Agree more
  agree_both es more h = all_append P (flat_map name_called es) (flat_map name_called more) (subst (AllByRecursion P) (flat_map-append name_called es more) h)

  mutual
    named_alike : (hidden : Bool) (n : List ℕ) (e : Expr) → Agree (calls_in e) → named_in (taken_in known) hidden n e ≡ named_in (taken_in others) hidden n e
    named_alike hidden n (Const v span) h = refl
    named_alike hidden n (Array es span) h = items_alike hidden n es h
    named_alike hidden n (Map es span) h = entries_alike hidden n es h
    named_alike hidden n (Var name span) h = refl
    named_alike hidden n (GetAttr e name optional span) h = named_alike hidden n e h
    named_alike hidden n (GetItem e sub optional span) h =
        let (first, second) = agree_both (calls_in e) (calls_in sub) h in
        λ i. named_alike hidden n e first i || named_alike hidden n sub second i
    named_alike hidden n (Slice e start end step optional span) h =
        let (first, more) = agree_both (calls_in e) (calls_in_maybe start ++ (calls_in_maybe end ++ calls_in_maybe step)) h in
        let (second, rest) = agree_both (calls_in_maybe start) (calls_in_maybe end ++ calls_in_maybe step) more in
        let (third, fourth) = agree_both (calls_in_maybe end) (calls_in_maybe step) rest in
        λ i. named_alike hidden n e first i || (maybe_alike hidden n start second i || (maybe_alike hidden n end third i || maybe_alike hidden n step fourth i))
    named_alike hidden n (Filter e name args span) h =
        let (first, second) = agree_both (calls_in e) (calls_in_args args) h in
        λ i. named_alike hidden n e first i || args_alike hidden n args second i
    named_alike hidden n (Test e name args span) h =
        let (first, second) = agree_both (calls_in e) (calls_in_args args) h in
        λ i. named_alike hidden n e first i || args_alike hidden n args second i
    named_alike hidden n (Ternary e given otherwise span) h =
        let (first, more) = agree_both (calls_in given) (calls_in e ++ calls_in otherwise) h in
        let (second, third) = agree_both (calls_in e) (calls_in otherwise) more in
        λ i. named_alike hidden n given first i || (named_alike hidden n e second i || named_alike hidden n otherwise third i)
    named_alike hidden n (ListComprehension e key value target condition span) h =
        let (first, more) = agree_both (calls_in e) (calls_in target ++ calls_in_maybe condition) h in
        let (second, third) = agree_both (calls_in target) (calls_in_maybe condition) more in
        let inner = hidden || binds key value n in
        λ i. named_alike inner n e first i || (named_alike hidden n target second i || maybe_alike inner n condition third i)
    named_alike hidden n (ComponentCall name es body closed span) h =
        let (first, more) = agree_both (calls_in_entries es) (calls_in_nodes body ++ (ComponentCall name es body closed span ∷ [])) h in
        let (second, itself) = agree_both (calls_in_nodes body) (ComponentCall name es body closed span ∷ []) more in
        λ i. taken_alike name itself.0 hidden n i || (entries_alike hidden n es first i || nodes_alike hidden n body second i)
    named_alike hidden n (FunctionCall name args span) h = args_alike hidden n args h
    named_alike hidden n (UnaryOperation op e span) h = named_alike hidden n e h
    named_alike hidden n (BinaryOperation op l r span) h =
        let (first, second) = agree_both (calls_in l) (calls_in r) h in
        λ i. named_alike hidden n l first i || named_alike hidden n r second i

    maybe_alike : (hidden : Bool) (n : List ℕ) (e : MaybeExpr) → Agree (calls_in_maybe e) → named_in_maybe (taken_in known) hidden n e ≡ named_in_maybe (taken_in others) hidden n e
    maybe_alike hidden n NoExpr h = refl
    maybe_alike hidden n (OneExpr e) h = named_alike hidden n e h

    filters_alike : (hidden : Bool) (n : List ℕ) (es : Filters) → Agree (calls_in_filters es) → named_in_filters (taken_in known) hidden n es ≡ named_in_filters (taken_in others) hidden n es
    filters_alike hidden n NoFilters h = refl
    filters_alike hidden n (OneFilter e es) h =
        let (first, second) = agree_both (calls_in e) (calls_in_filters es) h in
        λ i. named_alike hidden n e first i || filters_alike hidden n es second i

    args_alike : (hidden : Bool) (n : List ℕ) (args : Args) → Agree (calls_in_args args) → named_in_args (taken_in known) hidden n args ≡ named_in_args (taken_in others) hidden n args
    args_alike hidden n NoArgs h = refl
    args_alike hidden n (Arg name e more) h =
        let (first, second) = agree_both (calls_in e) (calls_in_args more) h in
        λ i. named_alike hidden n e first i || args_alike hidden n more second i

    items_alike : (hidden : Bool) (n : List ℕ) (es : Items) → Agree (calls_in_items es) → named_in_items (taken_in known) hidden n es ≡ named_in_items (taken_in others) hidden n es
    items_alike hidden n NoItems h = refl
    items_alike hidden n (Item e es) h =
        let (first, second) = agree_both (calls_in e) (calls_in_items es) h in
        λ i. named_alike hidden n e first i || items_alike hidden n es second i
    items_alike hidden n (SpreadItem e es) h =
        let (first, second) = agree_both (calls_in e) (calls_in_items es) h in
        λ i. named_alike hidden n e first i || items_alike hidden n es second i

    entries_alike : (hidden : Bool) (n : List ℕ) (es : Entries) → Agree (calls_in_entries es) → named_in_entries (taken_in known) hidden n es ≡ named_in_entries (taken_in others) hidden n es
    entries_alike hidden n NoEntries h = refl
    entries_alike hidden n (Entry k e es) h =
        let (first, second) = agree_both (calls_in e) (calls_in_entries es) h in
        λ i. named_alike hidden n e first i || entries_alike hidden n es second i
    entries_alike hidden n (SpreadEntry e es) h =
        let (first, second) = agree_both (calls_in e) (calls_in_entries es) h in
        λ i. named_alike hidden n e first i || entries_alike hidden n es second i

    node_alike : (hidden : Bool) (n : List ℕ) (s : Stmt) → Agree (calls_in_node s) → named_in_node (taken_in known) hidden n s ≡ named_in_node (taken_in others) hidden n s
    node_alike hidden n (Content t) h = refl
    node_alike hidden n (Shown e) h = named_alike hidden n e h
    node_alike hidden n (Set name e global) h = named_alike hidden n e h
    node_alike hidden n (BlockSet name filters body global) h =
        let (first, second) = agree_both (calls_in_filters filters) (calls_in_nodes body) h in
        λ i. filters_alike hidden n filters first i || nodes_alike hidden n body second i
    node_alike hidden n (Include name span) h = refl
    node_alike hidden n (Block name span body) h = nodes_alike hidden n body h
    node_alike hidden n (ForLoop key value target body otherwise) h =
        let (first, more) = agree_both (calls_in target) (calls_in_nodes body ++ calls_in_nodes otherwise) h in
        let (second, third) = agree_both (calls_in_nodes body) (calls_in_nodes otherwise) more in
        λ i. named_alike hidden n target first i || (nodes_alike (hidden || binds key value n) n body second i || nodes_alike hidden n otherwise third i)
    node_alike hidden n Break h = refl
    node_alike hidden n Continue h = refl
    node_alike hidden n (If e body otherwise) h =
        let (first, more) = agree_both (calls_in e) (calls_in_nodes body ++ calls_in_nodes otherwise) h in
        let (second, third) = agree_both (calls_in_nodes body) (calls_in_nodes otherwise) more in
        λ i. named_alike hidden n e first i || (nodes_alike hidden n body second i || nodes_alike hidden n otherwise third i)
    node_alike hidden n (FilterSection filters body) h =
        let (first, second) = agree_both (calls_in_filters filters) (calls_in_nodes body) h in
        λ i. filters_alike hidden n filters first i || nodes_alike hidden n body second i

    nodes_alike : (hidden : Bool) (n : List ℕ) (ss : Nodes) → Agree (calls_in_nodes ss) → named_in_nodes (taken_in known) hidden n ss ≡ named_in_nodes (taken_in others) hidden n ss
    nodes_alike hidden n NoNodes h = refl
    nodes_alike hidden n (OneNode s ss) h =
        let (first, second) = agree_both (calls_in_node s) (calls_in_nodes ss) h in
        λ i. node_alike hidden n s first i || nodes_alike hidden n ss second i

  pub unused_alike : (places : List ℕ → Located) (ds : List Definition) → Agree (flat_map calls_in_definition ds)
      → flat_map (unused_in (taken_in known) places) ds ≡ flat_map (unused_in (taken_in others) places) ds
  unused_alike places [] h = refl
  unused_alike places (d ∷ ds) h =
      let (first, more) = agree_both (calls_in_definition d) (flat_map calls_in_definition ds) h in
      λ i. unused_of d (λ n. nodes_alike false n (nodes_of d.body) first i) (places d.name) ++ unused_alike places ds more i

-- components with the same arguments
pub taken_by_arguments : (k j : KnownVal) → k.definition.arguments ≡ j.definition.arguments → (hidden : Bool) (n : List ℕ) → taken_by (Some k) hidden n ≡ taken_by (Some j) hidden n
taken_by_arguments k j h hidden n = ap (λ arguments. not hidden && list_any (takes_it n) arguments) h
