-- What is around a tree alike under the names of its page is around it alike where that has a part in what is found.
use Rattle.std.proofs.Common.{◌≡◌, ◌∙◌, ℕ, List, [], ◌∷◌, ◌++◌, Bool, true, false, not, Option, None, Some, refl, sym, ap, subst, append_assoc, append-nil}
use Rattle.std.specs.Prelude.{◌||◌, ◌&&◌}
use Rattle.std.specs.List.{AllByRecursion, filter, flat_map}
use Rattle.std.specs.Option.{option_map, option_map_or}
use Rattle.std.specs.Str.{bytes_eq}
use Rattle.std.proofs.lemmas.List.Folds.{list_any-append}
use Rattle.std.proofs.lemmas.Slice.Eq.{bytes_eq-Decides}
use Rattle.tera_base.specs.declared.utils.Span.{Span}
use Rattle.tera_ast.specs.Tree.{Expr, Const, Array, Map, Var, GetAttr, GetItem, Slice, Filter, Test, Ternary, ListComprehension, ComponentCall, FunctionCall, UnaryOperation, BinaryOperation}
use Rattle.tera_ast.specs.Tree.{MaybeExpr, NoExpr, OneExpr, Filters, NoFilters, OneFilter, Args, NoArgs, Arg, Items, NoItems, Item, SpreadItem, Entries, NoEntries, Entry, SpreadEntry}
use Rattle.tera_ast.specs.Tree.{Stmt, Content, Shown, Set, BlockSet, Include, Block, ForLoop, Break, Continue, If, FilterSection, Nodes, NoNodes, OneNode}
use Rattle.tera_ast.specs.View.{nodes_of}
use Rattle.tera_tree.specs.Outputs.{output_view}
use Rattle.tera_tree.specs.Parts.{PartVal, NodePart, ExpressionPart, parts_of_nodes, top_parts}
use Rattle.tera_tree.specs.Tree.{Output}
use Rattle.tera_tree.specs.declared.outputs.ParserOutput.{ParserOutput}
use Rattle.tera_check.specs.Due.{is_due}
use Rattle.tera_findings.specs.Findings.{FindingVal, span_if_any}
use Rattle.tera_templates.specs.Templates.{tree_of}
use Rattle.tera_rules.specs.Within.{within, all_in, all_in_maybe, all_in_filters, all_in_args, all_in_items, all_in_entries, within_node, all_in_nodes, within_part, all_parts, parts_of}
use Rattle.tera_templates.specs.declared.templates.Template.{Template}
use Rattle.tera_check.proofs.TakenLemmas.{all_append}
use Rattle.tera_site.specs.Alike.{AgreeAround, included_at, block_around, top_block, blocks_used}
use Rattle.tera_site.specs.Kept.{is_one_of, on_page}
use Rattle.tera_site.specs.Named.{due_names, lacks, names_findings}
use Rattle.tera_site.specs.Pages.{PageVal, block_name, included, is_whole_by, page_by, page_of}
use Rattle.tera_site.specs.Placed.{PlacedVal, placed, placed_maybe, placed_filters, placed_args, placed_items, placed_entries, placed_node, placed_nodes, placed_in, all_placed, placed_parts_of}
use Rattle.tera_site.specs.Sites.{AroundVal, if_any, used_names}
use Rattle.tera_site.proofs.CountLemmas.{or_true}
use Rattle.tera_site.proofs.KeptLemmas.{twice}
use Rattle.tera_site.proofs.SiteLemmas.{names_alike}

all_join : {X : Type 0} (P : X → Type 0) (xs ys : List X) → AllByRecursion P xs → AllByRecursion P ys → AllByRecursion P (xs ++ ys)
all_join P [] ys h k = k
all_join P (x ∷ xs) ys h k = (h.0, all_join P xs ys h.1 k)

-- two are around a page alike: they agree under the names that it uses, and under those of its blocks
pub record AgreeOnPage (p : PageVal) (a b : AroundVal) : Type 0 where
  pub parent : AllByRecursion (λ n. a.has n ≡ b.has n) (if_any p.parent)
  pub includes : AllByRecursion (λ n. (a.has n ≡ b.has n) × (a.comes_back n ≡ b.comes_back n)) p.includes
  pub extends_itself : a.extends_itself ≡ b.extends_itself
  pub blocks : AllByRecursion (λ n. lacks a n ≡ lacks b n) p.blocks

-- the parts of more parts
parts_on : (ps qs : List PartVal) → all_parts (ps ++ qs) ≡ all_parts qs ++ all_parts ps
parts_on [] qs = sym (append-nil (all_parts qs))
parts_on (p ∷ ps) qs = ap (λ xs. xs ++ (p ∷ within_part p)) (parts_on ps qs) ∙ append_assoc (all_parts qs) (all_parts ps) (p ∷ within_part p)

module _ (a b : AroundVal) where
  abbrev Includes : List ℕ → Type 0
  Includes n = (a.has n ≡ b.has n) × (a.comes_back n ≡ b.comes_back n)

  abbrev Lacks : List ℕ → Type 0
  Lacks n = lacks a n ≡ lacks b n

  -- the names of a part, and of a part in a block
  abbrev Agrees : PartVal → Type 0
  Agrees p = AllByRecursion Includes (included p) × AllByRecursion Lacks (block_name p)

  abbrev AgreesIn : PlacedVal → Type 0
  AgreesIn (block, p) = AllByRecursion Includes (included p) × AllByRecursion Lacks (if_any block)

  abbrev Good : Option (List ℕ) → Type 0
  Good block = AllByRecursion Lacks (if_any block)

  -- ---- one part, and more parts

  abbrev here : Option (List ℕ) → Expr → List PlacedVal
  here block e = (block, ExpressionPart e) ∷ placed block e

  one : (block : Option (List ℕ)) → Good block → (e : Expr) → (AllByRecursion Agrees (within e) → AllByRecursion AgreesIn (placed block e))
      → AllByRecursion Agrees (all_in e) → AllByRecursion AgreesIn ((block, ExpressionPart e) ∷ placed block e)
  one block good e rest h = ((h.0.0, good), rest h.1)

  two : (ps qs : List PartVal) (xs ys : List PlacedVal) → (AllByRecursion Agrees ps → AllByRecursion AgreesIn xs) → (AllByRecursion Agrees qs → AllByRecursion AgreesIn ys)
      → AllByRecursion Agrees (ps ++ qs) → AllByRecursion AgreesIn (xs ++ ys)
  two ps qs xs ys first second h = let (before, after) = all_append Agrees ps qs h in all_join AgreesIn xs ys (first before) (second after)

  mutual
    in_expression : (block : Option (List ℕ)) → Good block → (e : Expr) → AllByRecursion Agrees (within e) → AllByRecursion AgreesIn (placed block e)
    in_expression block good (Const v span) h = tt
    in_expression block good (Array es span) h = in_items block good es h
    in_expression block good (Map es span) h = in_entries block good es h
    in_expression block good (Var name span) h = tt
    in_expression block good (GetAttr e name optional span) h = one block good e (λ k. in_expression block good e k) h
    in_expression block good (GetItem e sub optional span) h =
        two (all_in sub) (all_in e) (here block sub) (here block e) (one block good sub (λ k. in_expression block good sub k)) (one block good e (λ k. in_expression block good e k)) h
    in_expression block good (Slice e start end step optional span) h =
        two ((all_in_maybe step ++ all_in_maybe end) ++ all_in_maybe start) (all_in e) _ _
        (two (all_in_maybe step ++ all_in_maybe end) (all_in_maybe start) _ _
        (two (all_in_maybe step) (all_in_maybe end) _ _ (λ k. in_maybe block good step k) (λ k. in_maybe block good end k)) (λ k. in_maybe block good start k))
        (one block good e (λ k. in_expression block good e k)) h
    in_expression block good (Filter e name args span) h =
        two (all_in_args args) (all_in e) _ _ (λ k. in_args block good args k) (one block good e (λ k. in_expression block good e k)) h
    in_expression block good (Test e name args span) h =
        two (all_in_args args) (all_in e) _ _ (λ k. in_args block good args k) (one block good e (λ k. in_expression block good e k)) h
    in_expression block good (Ternary e given other span) h =
        two (all_in other ++ all_in e) (all_in given) (here block other ++ here block e) (here block given)
        (two (all_in other) (all_in e) (here block other) (here block e) (one block good other (λ k. in_expression block good other k)) (one block good e (λ k. in_expression block good e k)))
        (one block good given (λ k. in_expression block good given k)) h
    in_expression block good (ListComprehension e key value target condition span) h =
        two (all_in_maybe condition ++ all_in target) (all_in e) _ _
        (two (all_in_maybe condition) (all_in target) _ _ (λ k. in_maybe block good condition k) (one block good target (λ k. in_expression block good target k)))
        (one block good e (λ k. in_expression block good e k)) h
    in_expression block good (ComponentCall name es body closed span) h =
        two (all_in_nodes body) (all_in_entries es) _ _ (λ k. in_nodes block good body k) (λ k. in_entries block good es k) h
    in_expression block good (FunctionCall name args span) h = in_args block good args h
    in_expression block good (UnaryOperation op e span) h = one block good e (λ k. in_expression block good e k) h
    in_expression block good (BinaryOperation op l r span) h =
        two (all_in r) (all_in l) (here block r) (here block l) (one block good r (λ k. in_expression block good r k)) (one block good l (λ k. in_expression block good l k)) h

    in_maybe : (block : Option (List ℕ)) → Good block → (e : MaybeExpr) → AllByRecursion Agrees (all_in_maybe e) → AllByRecursion AgreesIn (placed_maybe block e)
    in_maybe block good NoExpr h = tt
    in_maybe block good (OneExpr e) h = one block good e (λ k. in_expression block good e k) h

    in_filters : (block : Option (List ℕ)) → Good block → (es : Filters) → AllByRecursion Agrees (all_in_filters es) → AllByRecursion AgreesIn (placed_filters block es)
    in_filters block good NoFilters h = tt
    in_filters block good (OneFilter e es) h =
        two (all_in_filters es) (all_in e) _ _ (λ k. in_filters block good es k) (one block good e (λ k. in_expression block good e k)) h

    in_args : (block : Option (List ℕ)) → Good block → (args : Args) → AllByRecursion Agrees (all_in_args args) → AllByRecursion AgreesIn (placed_args block args)
    in_args block good NoArgs h = tt
    in_args block good (Arg name e more) h =
        two (all_in_args more) (all_in e) _ _ (λ k. in_args block good more k) (one block good e (λ k. in_expression block good e k)) h

    in_items : (block : Option (List ℕ)) → Good block → (es : Items) → AllByRecursion Agrees (all_in_items es) → AllByRecursion AgreesIn (placed_items block es)
    in_items block good NoItems h = tt
    in_items block good (Item e es) h =
        two (all_in_items es) (all_in e) _ _ (λ k. in_items block good es k) (one block good e (λ k. in_expression block good e k)) h
    in_items block good (SpreadItem e es) h =
        two (all_in_items es) (all_in e) _ _ (λ k. in_items block good es k) (one block good e (λ k. in_expression block good e k)) h

    in_entries : (block : Option (List ℕ)) → Good block → (es : Entries) → AllByRecursion Agrees (all_in_entries es) → AllByRecursion AgreesIn (placed_entries block es)
    in_entries block good NoEntries h = tt
    in_entries block good (Entry key e es) h =
        two (all_in_entries es) (all_in e) _ _ (λ k. in_entries block good es k) (one block good e (λ k. in_expression block good e k)) h
    in_entries block good (SpreadEntry e es) h =
        two (all_in_entries es) (all_in e) _ _ (λ k. in_entries block good es k) (one block good e (λ k. in_expression block good e k)) h

    in_node : (block : Option (List ℕ)) → Good block → (n : Stmt) → AllByRecursion Lacks (block_name (NodePart n)) → AllByRecursion Agrees (within_node n)
        → AllByRecursion AgreesIn (placed_node block n)
    in_node block good (Content t) own h = tt
    in_node block good (Shown e) own h = one block good e (λ k. in_expression block good e k) h
    in_node block good (Set name e global) own h = one block good e (λ k. in_expression block good e k) h
    in_node block good (BlockSet name filters body global) own h =
        two (all_in_nodes body) (all_in_filters filters) _ _ (λ k. in_nodes block good body k) (λ k. in_filters block good filters k) h
    in_node block good (Include name span) own h = tt
    in_node block good (Block name span body) own h = in_nodes (Some name) own body h
    in_node block good (ForLoop key value target body other) own h =
        two (all_in_nodes other ++ all_in_nodes body) (all_in target) _ _
        (two (all_in_nodes other) (all_in_nodes body) _ _ (λ k. in_nodes block good other k) (λ k. in_nodes block good body k))
        (one block good target (λ k. in_expression block good target k)) h
    in_node block good Break own h = tt
    in_node block good Continue own h = tt
    in_node block good (If e body other) own h =
        two (all_in_nodes other ++ all_in_nodes body) (all_in e) _ _
        (two (all_in_nodes other) (all_in_nodes body) _ _ (λ k. in_nodes block good other k) (λ k. in_nodes block good body k))
        (one block good e (λ k. in_expression block good e k)) h
    in_node block good (FilterSection filters body) own h =
        two (all_in_nodes body) (all_in_filters filters) _ _ (λ k. in_nodes block good body k) (λ k. in_filters block good filters k) h

    in_nodes : (block : Option (List ℕ)) → Good block → (ns : Nodes) → AllByRecursion Agrees (all_in_nodes ns) → AllByRecursion AgreesIn (placed_nodes block ns)
    in_nodes block good NoNodes h = tt
    in_nodes block good (OneNode n ns) h =
        two (all_in_nodes ns) (NodePart n ∷ within_node n) _ _ (λ k. in_nodes block good ns k) (λ k. ((k.0.0, good), in_node block good n k.0.1 k.1)) h

  in_part : (p : PartVal) → AllByRecursion Lacks (block_name p) → AllByRecursion Agrees (within_part p) → AllByRecursion AgreesIn (placed_in None p)
  in_part (NodePart n) own h = in_node None tt n own h
  in_part (ExpressionPart e) own h = in_expression None tt e h

  in_all : (ps : List PartVal) → AllByRecursion Agrees (all_parts ps) → AllByRecursion AgreesIn (all_placed None ps)
  in_all [] h = tt
  in_all (p ∷ ps) h =
      two (all_parts ps) (p ∷ within_part p) (all_placed None ps) ((None, p) ∷ placed_in None p) (in_all ps) (λ k. ((k.0.0, tt), in_part p k.0.1 k.1)) h

  -- ---- the blocks at the top

  top_agrees : (n : Stmt) → AllByRecursion Lacks (block_name (NodePart n)) → AllByRecursion Lacks (top_block n)
  top_agrees (Content t) h = tt
  top_agrees (Shown e) h = tt
  top_agrees (Set name e global) h = tt
  top_agrees (BlockSet name filters body global) h = tt
  top_agrees (Include name span) h = tt
  top_agrees (Block name span body) h = h
  top_agrees (ForLoop key value target body other) h = tt
  top_agrees Break h = tt
  top_agrees Continue h = tt
  top_agrees (If e body other) h = tt
  top_agrees (FilterSection filters body) h = tt

  tops_agree : (ns : List Stmt) → AllByRecursion Agrees (all_parts (parts_of_nodes (nodes_of ns))) → AllByRecursion Lacks (flat_map top_block ns)
  tops_agree [] h = tt
  tops_agree (n ∷ ns) h =
      let (later, here) = all_append Agrees (all_parts (parts_of_nodes (nodes_of ns))) (NodePart n ∷ within_node n) h in
      all_join Lacks (top_block n) (flat_map top_block ns) (top_agrees n here.0.1) (tops_agree ns later)

  -- ---- lists of names

  agree_each : (ps : List PartVal) → AllByRecursion Includes (flat_map included ps) → AllByRecursion Lacks (flat_map block_name ps) → AllByRecursion Agrees ps
  agree_each [] h k = tt
  agree_each (p ∷ ps) h k =
      let (first, more) = all_append Includes (included p) (flat_map included ps) h in
      let (own, others) = all_append Lacks (block_name p) (flat_map block_name ps) k in
      ((first, own), agree_each ps more others)

  included_agree : (ps : List PlacedVal) → AllByRecursion AgreesIn ps → AllByRecursion Includes (flat_map included_at ps)
  included_agree [] h = tt
  included_agree (p ∷ ps) h = all_join Includes (included_at p) (flat_map included_at ps) h.0.0 (included_agree ps h.1)

  around_agree : (ps : List PlacedVal) → AllByRecursion AgreesIn ps → AllByRecursion Lacks (flat_map block_around ps)
  around_agree [] h = tt
  around_agree (p ∷ ps) h = all_join Lacks (block_around p) (flat_map block_around ps) h.0.1 (around_agree ps h.1)

  agree_around : (whole : Bool) (o : Output) → AgreeOnPage (page_by whole (Some o)) a b → AgreeAround o a b
  agree_around whole o h =
      let all = agree_each (parts_of o) h.includes h.blocks in
      let each = in_all (top_parts o.definitions o.nodes) all in
      let defined = flat_map (λ d. parts_of_nodes (nodes_of d.body)) o.definitions in
      let own = parts_of_nodes (nodes_of o.nodes) in
      let (tops, _) = all_append Agrees (all_parts own) (all_parts defined) (subst (AllByRecursion Agrees) (parts_on defined own) all) in
      record {
        parent = h.parent;
        includes = included_agree (placed_parts_of o) each;
        extends_itself = h.extends_itself;
        blocks = all_join Lacks (flat_map top_block o.nodes) (flat_map block_around (placed_parts_of o)) (tops_agree o.nodes tops) (around_agree (placed_parts_of o) each);
      }

  -- what is due by the tree, if there is one
  pub due_alike : (whole : Bool) (keep : FindingVal → Bool) (span : Span) (r : Option ParserOutput) → AgreeOnPage (page_by whole (option_map output_view r)) a b
      → option_map_or (λ o. filter keep (names_findings a span (output_view o))) r []
      ≡ option_map_or (λ o. filter keep (names_findings b span (output_view o))) r []
  due_alike whole keep span None h = refl
  due_alike whole keep span (Some o) h = ap (filter keep) (names_alike a b span (output_view o) (agree_around whole (output_view o) h))

-- ---- what is kept is around a page alike

-- each of some names has what holds of those that are among them
each_one : (P : List ℕ → Type 0) (ns : List (List ℕ)) → ((n : List ℕ) → is_one_of ns n ≡ true → P n) → AllByRecursion P ns
each_one P [] h = tt
each_one P (m ∷ ns) h = (
  h m (ap (λ b. b || is_one_of ns m) ((bytes_eq-Decides m m).1 refl)),
  each_one P ns (λ n is. h n (ap (λ b. bytes_eq n m || b) is ∙ or_true (bytes_eq n m))),
)

pub on_page_agrees : (p : PageVal) (a : AroundVal) → AgreeOnPage p a (on_page p a)
on_page_agrees p a =
    let first = if_any p.parent in
    let used : (n : List ℕ) → is_one_of (used_names p) n ≡ true → a.has n ≡ (is_one_of (used_names p) n && a.has n) =
    (λ n is. ap (λ b. b && a.has n) (sym is)) in
    record {
      parent = each_one (λ n. a.has n ≡ (is_one_of (used_names p) n && a.has n)) first (λ n is.
          used n (list_any-append (bytes_eq n) first p.includes ∙ ap (λ b. b || is_one_of p.includes n) is));
      includes = each_one (λ n. (a.has n ≡ (is_one_of (used_names p) n && a.has n)) × (a.comes_back n ≡ (is_one_of p.includes n && a.comes_back n))) p.includes (λ n is. (
        used n (list_any-append (bytes_eq n) first p.includes ∙ ap (λ b. is_one_of first n || b) is ∙ or_true (is_one_of first n)),
        ap (λ b. b && a.comes_back n) (sym is),
      ));
      extends_itself = refl;
      blocks = each_one (λ n. lacks a n ≡ not (not (is_one_of p.blocks n && lacks a n))) p.blocks (λ n is.
          twice (lacks a n) ∙ ap (λ b. not (not (b && lacks a n))) (sym is));
    }

pub due_on_page : (a : AroundVal) (t : Template) → due_names (on_page (page_of t) a) t ≡ due_names a t
due_on_page a t =
    let page = page_of t in
    sym (due_alike a (on_page page a) (is_whole_by t.parsed t.mended) (is_due false t) (span_if_any t.parent_at) (tree_of t) (on_page_agrees page a))
