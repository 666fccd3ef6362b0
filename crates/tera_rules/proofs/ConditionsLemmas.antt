-- The conditions of a chain, from the last to the first; and what a walk keeps of them.
use Rattle.std.proofs.Common.{◌≡◌, ◌∙◌, ◌==◌, ◌<◌, arith, vec_len, Global, Vec, ℕ, List, [], ◌∷◌, ◌++◌, length, Bool, true, false, true≢false, cond, if◌then◌else◌, Option, None, Some, String, map, reverse, inl, inr, refl, sym, ap, subst, append_assoc}
use Rattle.std.specs.Borrow.{Bor}
use Rattle.std.specs.List.{find}
use Rattle.std.specs.BTreeMap.{BTreeMap}
use Rattle.std.specs.Option.{option_map_or}
use Rattle.std.specs.Str.{bytes_eq}
use Rattle.std.proofs.lemmas.Bool.Decides.{eqb_tells}
use Rattle.std.proofs.lemmas.List.{reverse-append, reverse-reverse, map-append}
use Rattle.tera_base.specs.Errors.{IsMemory}
use Rattle.tera_base.specs.declared.errors.Error.{Error}
use Rattle.tera_base.specs.declared.errors.ErrorKind.{ErrorKind}
use Rattle.tera_base.specs.declared.errors.ErrorKind.TheVariants as errors
use Rattle.tera_base.specs.Errors.{IsMemoryKind}
use Rattle.tera_ast.specs.Tree.{Expr, Stmt, Content, Shown, Set, BlockSet, Include, Block, ForLoop, Break, Continue, If, FilterSection, Nodes, NoNodes, OneNode}
use Rattle.tera_ast.specs.View.{expression_view, node_view, nodes_view, if_view}
use Rattle.tera_ast.specs.declared.ast.Expression.{Expression}
use Rattle.tera_ast.specs.declared.ast.If.{If as Choice, out-If}
use Rattle.tera_ast.specs.declared.ast.Node as nodes
use Rattle.tera_ast.specs.declared.ast.Node.{Node}
use Rattle.tera_ast.proofs.Views.{view_if, if_out}
use Rattle.tera_tree.specs.Parts.{PartVal, NodePart, ExpressionPart, part_view, parts_view, parts_of_nodes, children}
use Rattle.tera_tree.specs.declared.parts.Part.{Part}
use Rattle.tera_findings.specs.Faults.{is_memory_kind}
use Rattle.tera_rules.specs.RepeatedConditions.{IsKept, condition_text, first_of_text, has_text, next_alike, conditions_in, conditions_of, nexts, nexts_of, nexts_after, nexts_first, is_choice, repeated_conditions, repeated_if, seen_if, under_text, under_text_if}

-- ---- what is kept

-- a vector that is not empty
pub not_none : {X : Type 0} (v : Vec X Global) → false ≡ (vec_len v == 0) → 0 < length v.items
not_none v is = elim (eqb_tells (vec_len v) 0) [
  | inl none ↦ let never : false ≡ true = is ∙ none.0 in absurd (let no : false ≡ true = never in cc)
  | inr some ↦ omega (arith, some.1, v.ok.0)
]

pub nothing_kept : (those : List (Option Expr)) → IsKept those [] → those ≡ []
nothing_kept those (inl none) = none
nothing_kept those (inr none) = none

last_first : (xs : List PartVal) (p : PartVal) → nexts_first (reverse (xs ++ p ∷ [])) ≡ nexts_of p
last_first xs p = ap nexts_first (reverse-append xs (p ∷ []))

-- of a part that was popped
pub popped : (those : List (Option Expr)) (all rest : List Part) (p : Part) → all ≡ rest ++ p ∷ [] → IsKept those (nexts_first (reverse (parts_view all))) → IsKept those (nexts_of (part_view p))
popped those all rest p split kept =
    subst (IsKept those) (ap (λ ps. nexts_first (reverse ps)) (ap parts_view split ∙ map-append part_view rest (p ∷ [])) ∙ last_first (parts_view rest) (part_view p)) kept

-- of two nodes and more
pub many_none : (n m : Stmt) (ms : Nodes) → conditions_in (OneNode n (OneNode m ms)) ≡ []
many_none (If e body other) m ms = refl
many_none (Content t) m ms = refl
many_none (Shown e) m ms = refl
many_none (Set name e global) m ms = refl
many_none (BlockSet name parts body global) m ms = refl
many_none (Include name span) m ms = refl
many_none (Block name span body) m ms = refl
many_none (ForLoop key value target body other) m ms = refl
many_none Break m ms = refl
many_none Continue m ms = refl
many_none (FilterSection parts body) m ms = refl

-- the part comes next that is the next of the chain
elif_comes : (those : List (Option Expr)) (before : List PartVal) (other : Nodes) → IsKept those (nexts (conditions_in other)) → IsKept those (nexts_first (reverse (before ++ parts_of_nodes other)))
elif_comes those before (OneNode (If e body other) NoNodes) kept = subst (IsKept those) (sym (last_first before (NodePart (If e body other)))) kept
elif_comes those before NoNodes kept = inl (nothing_kept those kept)
elif_comes those before (OneNode n (OneNode m ms)) kept = inl (nothing_kept those (subst (λ es. IsKept those (nexts es)) (many_none n m ms) kept))
elif_comes those before (OneNode (Content t) NoNodes) kept = inl (nothing_kept those kept)
elif_comes those before (OneNode (Shown e) NoNodes) kept = inl (nothing_kept those kept)
elif_comes those before (OneNode (Set name e global) NoNodes) kept = inl (nothing_kept those kept)
elif_comes those before (OneNode (BlockSet name parts body global) NoNodes) kept = inl (nothing_kept those kept)
elif_comes those before (OneNode (Include name span) NoNodes) kept = inl (nothing_kept those kept)
elif_comes those before (OneNode (Block name span body) NoNodes) kept = inl (nothing_kept those kept)
elif_comes those before (OneNode (ForLoop key value target body other) NoNodes) kept = inl (nothing_kept those kept)
elif_comes those before (OneNode Break NoNodes) kept = inl (nothing_kept those kept)
elif_comes those before (OneNode Continue NoNodes) kept = inl (nothing_kept those kept)
elif_comes those before (OneNode (FilterSection parts body) NoNodes) kept = inl (nothing_kept those kept)

pub taken_chain : (those : List (Option Expr)) (old now : List PartVal) (p : PartVal) → now ≡ old ++ children p → IsKept those (nexts_after p) → IsKept those (nexts_first (reverse now))
taken_chain those old now (NodePart (If e body other)) is kept =
    subst (λ ps. IsKept those (nexts_first (reverse ps)))
    (append_assoc old (ExpressionPart e ∷ parts_of_nodes body) (parts_of_nodes other) ∙ sym is)
    (elif_comes those (old ++ (ExpressionPart e ∷ parts_of_nodes body)) other kept)
taken_chain those old now (NodePart (Content t)) is kept = inl (nothing_kept those kept)
taken_chain those old now (NodePart (Shown e)) is kept = inl (nothing_kept those kept)
taken_chain those old now (NodePart (Set name e global)) is kept = inl (nothing_kept those kept)
taken_chain those old now (NodePart (BlockSet name parts body global)) is kept = inl (nothing_kept those kept)
taken_chain those old now (NodePart (Include name span)) is kept = inl (nothing_kept those kept)
taken_chain those old now (NodePart (Block name span body)) is kept = inl (nothing_kept those kept)
taken_chain those old now (NodePart (ForLoop key value target body other)) is kept = inl (nothing_kept those kept)
taken_chain those old now (NodePart Break) is kept = inl (nothing_kept those kept)
taken_chain those old now (NodePart Continue) is kept = inl (nothing_kept those kept)
taken_chain those old now (NodePart (FilterSection parts body)) is kept = inl (nothing_kept those kept)
taken_chain those old now (ExpressionPart e) is kept = inl (nothing_kept those kept)

-- a part that is not an `if`
no_choice : (P : List ℕ → PartVal → Type 0) → ((file : List ℕ) (p : PartVal) → repeated_conditions file p ≡ [] → nexts_of p ≡ [] → nexts_after p ≡ [] → P file p)
    → (file : List ℕ) (p : PartVal) → is_choice p ≡ false → P file p
no_choice P f file (NodePart (If e body other)) h = absurd (true≢false h)
no_choice P f file (NodePart (Content t)) h = f file (NodePart (Content t)) refl refl refl
no_choice P f file (NodePart (Shown e)) h = f file (NodePart (Shown e)) refl refl refl
no_choice P f file (NodePart (Set name e global)) h = f file (NodePart (Set name e global)) refl refl refl
no_choice P f file (NodePart (BlockSet name parts body global)) h = f file (NodePart (BlockSet name parts body global)) refl refl refl
no_choice P f file (NodePart (Include name span)) h = f file (NodePart (Include name span)) refl refl refl
no_choice P f file (NodePart (Block name span body)) h = f file (NodePart (Block name span body)) refl refl refl
no_choice P f file (NodePart (ForLoop key value target body other)) h = f file (NodePart (ForLoop key value target body other)) refl refl refl
no_choice P f file (NodePart Break) h = f file (NodePart Break) refl refl refl
no_choice P f file (NodePart Continue) h = f file (NodePart Continue) refl refl refl
no_choice P f file (NodePart (FilterSection parts body)) h = f file (NodePart (FilterSection parts body)) refl refl refl
no_choice P f file (ExpressionPart e) h = f file (ExpressionPart e) refl refl refl

pub none_found : (file : List ℕ) (p : PartVal) → is_choice p ≡ false → repeated_conditions file p ≡ []
none_found file p h = no_choice (λ file p. repeated_conditions file p ≡ []) (λ file p found nexts after. found) file p h

pub none_kept : (those : List (Option Expr)) (file : List ℕ) (p : PartVal) → is_choice p ≡ false → IsKept those (nexts_of p) → IsKept those (nexts_after p)
none_kept those file p h =
    no_choice (λ file p. IsKept those (nexts_of p) → IsKept those (nexts_after p)) (λ file p found nexts after kept. inl (nothing_kept those (subst (IsKept those) nexts kept))) file p h

-- ---- the conditions

pub no_elif : (xs : List Node) → (length xs ≡ 1 → ⊥) → conditions_in (nodes_view xs) ≡ []
no_elif [] h = refl
no_elif (x ∷ []) h = absurd (h refl)
no_elif (x ∷ y ∷ xs) h = many_none (node_view x) (node_view y) (nodes_view xs)

pub lone : (xs : List Node) (x : Node) → xs ≡ x ∷ [] → conditions_in (nodes_view xs) ≡ conditions_of (node_view x)
lone xs x e = ap (λ ns. conditions_in (nodes_view ns)) e ∙ alone (node_view x)
  where
    alone : (n : Stmt) → conditions_in (OneNode n NoNodes) ≡ conditions_of n
    alone (If e body other) = refl
    alone (Content t) = refl
    alone (Shown e) = refl
    alone (Set name e global) = refl
    alone (BlockSet name parts body global) = refl
    alone (Include name span) = refl
    alone (Block name span body) = refl
    alone (ForLoop key value target body other) = refl
    alone Break = refl
    alone Continue = refl
    alone (FilterSection parts body) = refl

-- of an `if`, and of one that has an `elif`
pub of_choice : (i : Choice) → conditions_of (if_view i) ≡ expression_view (out-If i).expr ∷ conditions_in (nodes_view (out-If i).false_body.items)
of_choice i = ap conditions_of (if_out i)

pub one_more : (i next : Choice) (all before now : List Expr) → (out-If i).false_body.items ≡ nodes.If next ∷ [] → before ++ conditions_of (if_view i) ≡ all
    → now ≡ before ++ expression_view (out-If i).expr ∷ [] → now ++ conditions_of (if_view next) ≡ all
one_more i next all before now is held more =
    ap (λ es. es ++ conditions_of (if_view next)) more
    ∙ append_assoc before (expression_view (out-If i).expr ∷ []) (conditions_of (if_view next))
    ∙ ap (λ es. before ++ (expression_view (out-If i).expr ∷ es)) (sym (lone _ (nodes.If next) is ∙ ap conditions_of (view_if next)))
    ∙ ap (λ es. before ++ es) (sym (of_choice i))
    ∙ held

pub last_one : (i : Choice) (all before now : List Expr) → conditions_in (nodes_view (out-If i).false_body.items) ≡ [] → before ++ conditions_of (if_view i) ≡ all
    → now ≡ before ++ expression_view (out-If i).expr ∷ [] → now ≡ all
last_one i all before now none held more =
    more ∙ ap (λ es. before ++ (expression_view (out-If i).expr ∷ es)) (sym none) ∙ ap (λ es. before ++ es) (sym (of_choice i)) ∙ held

pub of_if : (file : List ℕ) (i : Choice)
    → repeated_conditions file (NodePart (if_view i)) ≡ repeated_if file (expression_view (out-If i).expr) (next_alike (expression_view (out-If i).expr) (conditions_in (nodes_view (out-If i).false_body.items)))
of_if file i = ap (λ n. repeated_conditions file (NodePart n)) (if_out i)

pub after_if : (i : Choice) → nexts_after (NodePart (if_view i)) ≡ nexts (conditions_in (nodes_view (out-If i).false_body.items))
after_if i = ap (λ n. nexts_after (NodePart n)) (if_out i)

-- one reference more
pub pushed : (xs ys : List (Bor Expression)) (x : Bor Expression) → ys ≡ xs ++ x ∷ [] → map (λ (e : Bor Expression). expression_view e.now) ys ≡ map (λ (e : Bor Expression). expression_view e.now) xs ++ expression_view x.now ∷ []
pushed xs ys x is = ap (map (λ (e : Bor Expression). expression_view e.now)) is ∙ map-append (λ (e : Bor Expression). expression_view e.now) xs (x ∷ [])

-- ---- of each the next one

pub none_comes : (text : Option (List ℕ)) → first_of_text text [] ≡ None
none_comes None = refl
none_comes (Some t) = refl

pub nexts_more : (ns : List (Option (Bor Expression))) (n : Option (Bor Expression)) (e : Expr) (done : List Expr)
    → reverse (map seen_if ns) ≡ nexts done → seen_if n ≡ next_alike e done → reverse (map seen_if (ns ++ n ∷ [])) ≡ nexts (e ∷ done)
nexts_more ns n e done held is =
    ap reverse (map-append seen_if ns (n ∷ [])) ∙ reverse-append (map seen_if ns) (seen_if n ∷ []) ∙ λ i. is i ∷ held i

-- those of a chain with one condition, and the first of all
pub only_one : (i : Choice) (none : List (Option (Bor Expression))) → conditions_in (nodes_view (out-If i).false_body.items) ≡ [] → none ≡ [] → reverse (map seen_if (none ++ None ∷ [])) ≡ nexts (conditions_of (if_view i))
only_one i none alone empty =
    let e = expression_view (out-If i).expr in
    ap (λ ns. reverse (map seen_if (ns ++ None ∷ []))) empty
    ∙ ap (λ o. o ∷ []) (sym (none_comes (condition_text e)))
    ∙ ap (λ es. nexts (e ∷ es)) (sym alone)
    ∙ ap nexts (sym (of_choice i))

none_of : (ns : List (Option (Bor Expression))) → map seen_if ns ≡ [] → ns ≡ []
none_of [] h = refl
none_of (n ∷ ns) h = cc

empty_kept : (ns : List (Option (Bor Expression))) → reverse (map seen_if ns) ≡ [] → ns ≡ []
empty_kept ns h = none_of ns (sym (reverse-reverse (map seen_if ns)) ∙ ap reverse h)

none_left : {X : Type 0} (xs : List X) → length xs ≡ 0 → xs ≡ []
none_left [] none = refl
none_left (x ∷ xs) none = absurd (omega arith)

-- nothing is kept
pub all_none : {X : Type 0} (v : Vec X Global) → true ≡ (vec_len v == 0) → v.items ≡ []
all_none v is = elim (eqb_tells (vec_len v) 0) [
  | inl none ↦ none_left v.items (omega (arith, none.1, v.ok.0))
  | inr some ↦ let never : true ≡ false = is ∙ some.0 in absurd (true≢false never)
]

-- what is kept is not nothing
pub kept_still : (ns : List (Option (Bor Expression))) (these : List (Option Expr)) → (ns ≡ [] → ⊥) → IsKept (reverse (map seen_if ns)) these → reverse (map seen_if ns) ≡ these
kept_still ns these some (inl none) = absurd (some (empty_kept ns none))
kept_still ns these some (inr same) = same

first_is : {X : Type 0} (x y : X) (xs ys : List X) → x ∷ xs ≡ y ∷ ys → x ≡ y
first_is x y xs ys h = cc

rest_is : {X : Type 0} (x y : X) (xs ys : List X) → x ∷ xs ≡ y ∷ ys → xs ≡ ys
rest_is x y xs ys h = cc

split_off : (ns rest : List (Option (Bor Expression))) (n : Option (Bor Expression)) → ns ≡ rest ++ n ∷ [] → reverse (map seen_if ns) ≡ seen_if n ∷ reverse (map seen_if rest)
split_off ns rest n split = ap (λ ms. reverse (map seen_if ms)) split ∙ ap reverse (map-append seen_if rest (n ∷ [])) ∙ reverse-append (map seen_if rest) (seen_if n ∷ [])

pub next_is : (i : Choice) (ns rest : List (Option (Bor Expression))) (n : Option (Bor Expression)) → ns ≡ rest ++ n ∷ [] → reverse (map seen_if ns) ≡ nexts (conditions_of (if_view i))
    → seen_if n ≡ next_alike (expression_view (out-If i).expr) (conditions_in (nodes_view (out-If i).false_body.items))
next_is i ns rest n split held = first_is _ _ _ _ (sym (split_off ns rest n split) ∙ held ∙ ap nexts (of_choice i))

pub rest_kept : (i : Choice) (ns rest : List (Option (Bor Expression))) (n : Option (Bor Expression)) → ns ≡ rest ++ n ∷ [] → reverse (map seen_if ns) ≡ nexts (conditions_of (if_view i))
    → reverse (map seen_if rest) ≡ nexts (conditions_in (nodes_view (out-If i).false_body.items))
rest_kept i ns rest n split held = rest_is _ _ _ _ (sym (split_off ns rest n split) ∙ held ∙ ap nexts (of_choice i))

pub never_empty : {P : Type 0} (i : Choice) (ns : List (Option (Bor Expression))) → ns ≡ [] → reverse (map seen_if ns) ≡ nexts (conditions_of (if_view i)) → P
never_empty i ns none held = absurd (some (sym (ap (λ ms. reverse (map seen_if ms)) none) ∙ held ∙ ap nexts (of_choice i)))
  where
    some : {X : Type 0} {x : X} {xs : List X} → [] ≡ x ∷ xs → ⊥
    some h = cc

-- ---- texts

pub same_text : (key text : List ℕ) (e : Expr) → Some key ≡ condition_text e → bytes_eq key text ≡ has_text text e
same_text key text e is = ap (λ o. option_map_or (λ t. bytes_eq t text) o false) is

pub no_text : (text : List ℕ) (e : Expr) → None ≡ condition_text e → false ≡ has_text text e
no_text text e is = ap (λ o. option_map_or (λ t. bytes_eq t text) o false) is

pub seen_cond : (b : Bool) (x : Bor Expression) (o : Option (Bor Expression)) → seen_if (cond b (Some x) o) ≡ (if b then Some (expression_view x.now) else seen_if o)
seen_cond true x o = refl
seen_cond false x o = refl

-- of each the next one, where one more is put under its text
pub put_next : (left rest all : List (Bor Expression)) (a : Bor Expression) (done : List Expr) (ns : List (Option (Bor Expression))) (n : Option (Bor Expression)) (before after : List ℕ → Option Expr) (found : Option Expr)
    → (let view = λ (e : Bor Expression). expression_view e.now in
    map view left ++ done ≡ map view all → left ≡ rest ++ a ∷ []
    → reverse (map seen_if ns) ≡ nexts done → ((t : List ℕ) → before t ≡ find (has_text t) done)
    → seen_if n ≡ found → found ≡ first_of_text (condition_text (expression_view a.now)) done
    → ((t : List ℕ) → after t ≡ (if has_text t (expression_view a.now) then Some (expression_view a.now) else before t))
    → (map view rest ++ (expression_view a.now ∷ done) ≡ map view all)
    × (reverse (map seen_if (ns ++ n ∷ [])) ≡ nexts (expression_view a.now ∷ done))
    × ((t : List ℕ) → after t ≡ find (has_text t) (expression_view a.now ∷ done)))
put_next left rest all a done ns n before after found held split kept following is next put =
    let view = λ (e : Bor Expression). expression_view e.now in (
      sym (append_assoc (map view rest) (view a ∷ []) done) ∙ ap (λ es. es ++ done) (sym (ap (map view) split ∙ map-append view rest (a ∷ []))) ∙ held,
      nexts_more ns n (view a) done kept (is ∙ next),
      λ t. put t ∙ ap (λ o. if has_text t (view a) then Some (view a) else o) (following t),
    )

pub under_is : (text : Option (List ℕ)) (following : BTreeMap (String Global) (Bor Expression)) (done : List Expr) → ((t : List ℕ) → under_text following t ≡ find (has_text t) done)
    → under_text_if following text ≡ first_of_text text done
under_is None following done held = refl
under_is (Some t) following done held = held t

-- an error that is not an allocation failure
pub no_memory : (error : Error) (body : Bool) → is_memory_kind error.kind ≡ false → (body ≡ false → IsMemory error) → body ≡ true
no_memory error true is h = refl
no_memory error false is h = by_kind error.kind is (h refl)
  where
    by_kind : (k : ErrorKind) → is_memory_kind k ≡ false → IsMemoryKind k → false ≡ true
    by_kind errors.Memory is h = absurd (true≢false is)
    by_kind (errors.Message s) is h = absurd h
    by_kind (errors.SyntaxError b) is h = absurd h
