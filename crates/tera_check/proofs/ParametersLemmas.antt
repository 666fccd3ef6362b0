-- What names a parameter in a part of a body, by the parts that are in it; and parts that are to come, in their scopes.
use Rattle.std.proofs.Common.{◌≡◌, ◌∙◌, ℕ, List, [], ◌∷◌, ◌++◌, Bool, true, false, map, refl, sym, ap, subst}
use Rattle.std.specs.Prelude.{◌||◌, Result, Ok, Err, OnOk}
use Rattle.std.proofs.lemmas.List.Folds.{list_any-append}
use Rattle.std.proofs.Common.{◌<◌, ◌+◌, suc, length, drop, get_or, append_assoc, arith}
use Rattle.std.specs.List.{flat_map}
use Rattle.tera_tree.specs.Tree.{Argument, Definition}
use Rattle.tera_tree.specs.View.{argument_view, definition_view}
use Rattle.tera_tree.specs.declared.ast.ComponentArgument.{ComponentArgument}
use Rattle.tera_tree.specs.declared.ast.ComponentDefinition.{ComponentDefinition}
use Rattle.tera_findings.specs.Findings.{FindingVal}
use Rattle.tera_rules.proofs.BodiesLemmas.{drop_next}
use Rattle.std.proofs.Common.{◌⊎◌, String, Global, inl, inr, rules, string_bytes}
use Rattle.std.proofs.lemmas.List.{map-append}
use Rattle.tera_base.specs.Spanned.{node_of, span_of}
use Rattle.tera_base.specs.declared.utils.Span.{Span}
use Rattle.tera_base.specs.declared.utils.Spanned.{Spanned}
use Rattle.tera_base.specs.declared.values.Value.{Value}
use Rattle.tera_ast.specs.View.{expression_view, node_view, entries_view, nodes_view}
use Rattle.tera_ast.specs.declared.ast.Expression as expressions
use Rattle.tera_ast.specs.declared.ast.Expression.{Expression, the_lemmas}
use Rattle.tera_ast.specs.declared.ast.Node as nodes
use Rattle.tera_ast.specs.declared.ast.Node.{Node}
use Rattle.tera_ast.specs.declared.ast.BlockSet.{BlockSet as CodeBlockSet}
use Rattle.tera_ast.specs.declared.ast.If.{If as Choice}
use Rattle.tera_ast.specs.declared.ast.FilterSection.{FilterSection as Section}
use Rattle.tera_ast.specs.declared.ast.ArrayOf.{ArrayOf}
use Rattle.tera_ast.specs.declared.ast.ComponentCall.{ComponentCall as Call, out-ComponentCall}
use Rattle.tera_ast.specs.declared.ast.MapOf.{MapOf}
use Rattle.tera_ast.specs.declared.ast.GetAttrOf.{GetAttrOf}
use Rattle.tera_ast.specs.declared.ast.GetItemOf.{GetItemOf}
use Rattle.tera_ast.specs.declared.ast.SliceOf.{SliceOf}
use Rattle.tera_ast.specs.declared.ast.FilterOf.{FilterOf}
use Rattle.tera_ast.specs.declared.ast.TestOf.{TestOf}
use Rattle.tera_ast.specs.declared.ast.TernaryOf.{TernaryOf}
use Rattle.tera_ast.specs.declared.ast.FunctionCallOf.{FunctionCallOf}
use Rattle.tera_ast.specs.declared.ast.UnaryOperationOf.{UnaryOperationOf}
use Rattle.tera_ast.specs.declared.ast.BinaryOperationOf.{BinaryOperationOf}
use Rattle.tera_ast.specs.declared.ast.SetOf.{SetOf}
use Rattle.tera_ast.specs.declared.ast.BlockOf.{BlockOf}
use Rattle.tera_ast.proofs.Views.{view_const, view_array, view_map, view_get_attr, view_get_item, view_slice, view_filter, view_test, view_ternary, view_call, view_function_call, view_unary, view_binary, view_set, view_block, view_block_set, block_set_out, view_if, if_out, view_section, section_out, view_shown}
use Rattle.tera_tree.specs.declared.parts.Part.{Part}
use Rattle.tera_ast.specs.Tree.{Expr, Const, Array, Map, Var, GetAttr, GetItem, Slice, Filter, Test, Ternary, ListComprehension, ComponentCall, FunctionCall, UnaryOperation, BinaryOperation}
use Rattle.tera_ast.specs.Tree.{MaybeExpr, NoExpr, OneExpr, Filters, NoFilters, OneFilter, Args, NoArgs, Arg, Items, NoItems, Item, SpreadItem, Entries, NoEntries, Entry, SpreadEntry}
use Rattle.tera_ast.specs.Tree.{Stmt, Content, Shown, Set, BlockSet, Include, Block, ForLoop, Break, Continue, If, FilterSection, Nodes, NoNodes, OneNode}
use Rattle.tera_tree.specs.Parts.{part_view, PartVal, parts_view, parts_of_maybe, parts_of_filters, parts_of_args, parts_of_items, parts_of_entries, parts_of_nodes, parts_in_expression, parts_in_node}
use Rattle.tera_check.specs.Parameters.{Taking, named_in, named_in_maybe, named_in_filters, named_in_args, named_in_items, named_in_entries, named_in_node, named_in_nodes}
use Rattle.tera_check.specs.Scopes.{is_named, named_in_part, named_in_parts, named_in_scope, is_to_come}
use Rattle.tera_check.specs.declared.parameters.Naming.{Naming}
use Rattle.tera_check.specs.declared.parameters.Scope.{Scope}

-- ---- sums of truths

pub or_false : (a : Bool) → (a || false) ≡ a
or_false true = refl
or_false false = refl

-- what a loop adds after others
pub loop_sum : (s p t b o : Bool) → ((s || b) || ((p || t) || o)) ≡ (s || (p || (t || (b || o))))
loop_sum true p t b o = refl
loop_sum false true t true o = refl
loop_sum false true t false o = refl
loop_sum false false true true o = refl
loop_sum false false true false o = refl
loop_sum false false false true o = refl
loop_sum false false false false o = refl

-- ---- expressions and nodes that give no name and are none

abbrev IsPlain : Expr → Type 0
IsPlain (Var name span) = ⊥
IsPlain (ListComprehension e key value target condition span) = ⊥
IsPlain (ComponentCall name es body closed span) = ⊥
IsPlain _ = Unit {0}

abbrev IsPlainNode : Stmt → Type 0
IsPlainNode (Include name span) = ⊥
IsPlainNode (ForLoop key value target body other) = ⊥
IsPlainNode _ = Unit {0}

view_content : (s : String Global) → node_view (nodes.Content s) ≡ Content (string_bytes s)
view_content s = search (rules, the_lemmas)

view_break : node_view nodes.Break ≡ Break
view_break = search (rules, the_lemmas)

view_continue : node_view nodes.Continue ≡ Continue
view_continue = search (rules, the_lemmas)

-- what the arms of a match say
abbrev pub PlainArm : Expression → Type 0
PlainArm x =
    (((s : Spanned Value) × (x ≡ expressions.Const s))
    ⊎ (((s : Spanned (ArrayOf Expression)) × (x ≡ expressions.Array s))
    ⊎ (((s : Spanned (MapOf Expression)) × (x ≡ expressions.Map s))
    ⊎ (((s : Spanned (GetAttrOf Expression)) × (x ≡ expressions.GetAttr s))
    ⊎ (((s : Spanned (GetItemOf Expression)) × (x ≡ expressions.GetItem s))
    ⊎ (((s : Spanned (SliceOf Expression)) × (x ≡ expressions.Slice s))
    ⊎ (((s : Spanned (FilterOf Expression)) × (x ≡ expressions.Filter s))
    ⊎ (((s : Spanned (TestOf Expression)) × (x ≡ expressions.Test s))
    ⊎ (((s : Spanned (TernaryOf Expression)) × (x ≡ expressions.Ternary s))
    ⊎ (((s : Spanned (FunctionCallOf Expression)) × (x ≡ expressions.FunctionCall s))
    ⊎ (((s : Spanned (UnaryOperationOf Expression)) × (x ≡ expressions.UnaryOperation s))
    ⊎ (((s : Spanned (BinaryOperationOf Expression)) × (x ≡ expressions.BinaryOperation s))))))))))))))

is_plain : (x : Expression) → PlainArm x → IsPlain (expression_view x)
is_plain x (inl (s, is)) = rw (is, view_const s) tt
is_plain x (inr (inl (s, is))) = rw (is, view_array s) tt
is_plain x (inr (inr (inl (s, is)))) = rw (is, view_map s) tt
is_plain x (inr (inr (inr (inl (s, is))))) = rw (is, view_get_attr s) tt
is_plain x (inr (inr (inr (inr (inl (s, is)))))) = rw (is, view_get_item s) tt
is_plain x (inr (inr (inr (inr (inr (inl (s, is))))))) = rw (is, view_slice s) tt
is_plain x (inr (inr (inr (inr (inr (inr (inl (s, is)))))))) = rw (is, view_filter s) tt
is_plain x (inr (inr (inr (inr (inr (inr (inr (inl (s, is))))))))) = rw (is, view_test s) tt
is_plain x (inr (inr (inr (inr (inr (inr (inr (inr (inl (s, is)))))))))) = rw (is, view_ternary s) tt
is_plain x (inr (inr (inr (inr (inr (inr (inr (inr (inr (inl (s, is))))))))))) = rw (is, view_function_call s) tt
is_plain x (inr (inr (inr (inr (inr (inr (inr (inr (inr (inr (inl (s, is)))))))))))) = rw (is, view_unary s) tt
is_plain x (inr (inr (inr (inr (inr (inr (inr (inr (inr (inr (inr (s, is)))))))))))) = rw (is, view_binary s) tt

abbrev pub PlainNodeArm : Node → Type 0
PlainNodeArm x =
    (((s : (String Global)) × (x ≡ nodes.Content s))
    ⊎ (((s : Expression) × (x ≡ nodes.Expression s))
    ⊎ (((s : (SetOf Expression)) × (x ≡ nodes.Set s))
    ⊎ (((s : CodeBlockSet) × (x ≡ nodes.BlockSet s))
    ⊎ (((s : (BlockOf Node)) × (x ≡ nodes.Block s))
    ⊎ ((x ≡ nodes.Break)
    ⊎ ((x ≡ nodes.Continue)
    ⊎ (((s : Choice) × (x ≡ nodes.If s))
    ⊎ (((s : Section) × (x ≡ nodes.FilterSection s)))))))))))

is_plain_node : (x : Node) → PlainNodeArm x → IsPlainNode (node_view x)
is_plain_node x (inl (s, is)) = rw (is, view_content s) tt
is_plain_node x (inr (inl (s, is))) = rw (is, view_shown s) tt
is_plain_node x (inr (inr (inl (s, is)))) = rw (is, view_set s) tt
is_plain_node x (inr (inr (inr (inl (s, is))))) = rw (is, view_block_set s, block_set_out s) tt
is_plain_node x (inr (inr (inr (inr (inl (s, is)))))) = rw (is, view_block s) tt
is_plain_node x (inr (inr (inr (inr (inr (inl is)))))) = rw (is, view_break) tt
is_plain_node x (inr (inr (inr (inr (inr (inr (inl is))))))) = rw (is, view_continue) tt
is_plain_node x (inr (inr (inr (inr (inr (inr (inr (inl (s, is))))))))) = rw (is, view_if s, if_out s) tt
is_plain_node x (inr (inr (inr (inr (inr (inr (inr (inr (s, is))))))))) = rw (is, view_section s, section_out s) tt

-- ---- the parts that are in a part

module _ (takes : Taking) (hidden : Bool) (n : List ℕ) where
  abbrev any : List PartVal → Bool
  any ps = named_in_parts takes hidden n ps

  pub both : (ps qs : List PartVal) (some more : Bool) → any ps ≡ some → any qs ≡ more → any (ps ++ qs) ≡ (some || more)
  both ps qs some more h k = list_any-append (named_in_part takes hidden n) ps qs ∙ (λ i. h i || k i)

  pub in_maybe : (e : MaybeExpr) → any (parts_of_maybe e) ≡ named_in_maybe takes hidden n e
  in_maybe NoExpr = refl
  in_maybe (OneExpr e) = or_false (named_in takes hidden n e)

  in_filters : (es : Filters) → any (parts_of_filters es) ≡ named_in_filters takes hidden n es
  in_filters NoFilters = refl
  in_filters (OneFilter e es) = ap (λ b. named_in takes hidden n e || b) (in_filters es)

  in_args : (args : Args) → any (parts_of_args args) ≡ named_in_args takes hidden n args
  in_args NoArgs = refl
  in_args (Arg name e more) = ap (λ b. named_in takes hidden n e || b) (in_args more)

  in_items : (es : Items) → any (parts_of_items es) ≡ named_in_items takes hidden n es
  in_items NoItems = refl
  in_items (Item e es) = ap (λ b. named_in takes hidden n e || b) (in_items es)
  in_items (SpreadItem e es) = ap (λ b. named_in takes hidden n e || b) (in_items es)

  in_entries : (es : Entries) → any (parts_of_entries es) ≡ named_in_entries takes hidden n es
  in_entries NoEntries = refl
  in_entries (Entry k e es) = ap (λ b. named_in takes hidden n e || b) (in_entries es)
  in_entries (SpreadEntry e es) = ap (λ b. named_in takes hidden n e || b) (in_entries es)

  pub in_nodes : (ns : Nodes) → any (parts_of_nodes ns) ≡ named_in_nodes takes hidden n ns
  in_nodes NoNodes = refl
  in_nodes (OneNode s ss) = ap (λ b. named_in_node takes hidden n s || b) (in_nodes ss)

  in_filtered : (es : Filters) (ns : Nodes) → any (parts_of_filters es ++ parts_of_nodes ns) ≡ (named_in_filters takes hidden n es || named_in_nodes takes hidden n ns)
  in_filtered es ns = both (parts_of_filters es) (parts_of_nodes ns) _ _ (in_filters es) (in_nodes ns)

  in_bodies : (ns ms : Nodes) → any (parts_of_nodes ns ++ parts_of_nodes ms) ≡ (named_in_nodes takes hidden n ns || named_in_nodes takes hidden n ms)
  in_bodies ns ms = both (parts_of_nodes ns) (parts_of_nodes ms) _ _ (in_nodes ns) (in_nodes ms)

  -- an expression but a variable and a comprehension
  in_plain : (e : Expr) → IsPlain e → any (parts_in_expression e) ≡ named_in takes hidden n e
  in_plain (Const v span) is = refl
  in_plain (Array es span) is = in_items es
  in_plain (Map es span) is = in_entries es
  in_plain (Var name span) is = absurd is
  in_plain (GetAttr e name optional span) is = or_false (named_in takes hidden n e)
  in_plain (GetItem e sub optional span) is = ap (λ c. named_in takes hidden n e || c) (or_false (named_in takes hidden n sub))
  in_plain (Slice e start end step optional span) is =
      ap (λ c. named_in takes hidden n e || c)
      (both (parts_of_maybe start) (parts_of_maybe end ++ parts_of_maybe step) _ _ (in_maybe start)
      (both (parts_of_maybe end) (parts_of_maybe step) _ _ (in_maybe end) (in_maybe step)))
  in_plain (Filter e name args span) is = ap (λ c. named_in takes hidden n e || c) (in_args args)
  in_plain (Test e name args span) is = ap (λ c. named_in takes hidden n e || c) (in_args args)
  in_plain (Ternary e given other span) is = ap (λ c. named_in takes hidden n given || (named_in takes hidden n e || c)) (or_false (named_in takes hidden n other))
  in_plain (ListComprehension e key value target condition span) is = absurd is
  in_plain (ComponentCall name es body closed span) is = absurd is
  in_plain (FunctionCall name args span) is = in_args args
  in_plain (UnaryOperation op e span) is = or_false (named_in takes hidden n e)
  in_plain (BinaryOperation op l r span) is = ap (λ c. named_in takes hidden n l || c) (or_false (named_in takes hidden n r))

  -- what is in a call, beside what its component takes
  pub in_call : (name : List ℕ) (es : Entries) (body : Nodes) (closed : Bool) (span : Span)
      → (takes name hidden n || any (parts_in_expression (ComponentCall name es body closed span))) ≡ named_in takes hidden n (ComponentCall name es body closed span)
  in_call name es body closed span = ap (λ c. takes name hidden n || c) (both (parts_of_entries es) (parts_of_nodes body) _ _ (in_entries es) (in_nodes body))

  pub in_code_call : (call : Spanned Call)
      → (takes (string_bytes (out-ComponentCall (node_of call)).name) hidden n || any (parts_in_expression (expression_view (expressions.ComponentCall call)))) ≡ named_in takes hidden n (expression_view (expressions.ComponentCall call))
  in_code_call call = rw (view_call call) (in_call (string_bytes (out-ComponentCall (node_of call)).name) (entries_view (out-ComponentCall (node_of call)).kwargs.items)
      (nodes_view (out-ComponentCall (node_of call)).body.items) (out-ComponentCall (node_of call)).self_closing (span_of call))

  -- a node but an `include` and a loop
  in_plain_node : (s : Stmt) → IsPlainNode s → any (parts_in_node s) ≡ named_in_node takes hidden n s
  in_plain_node (Content t) is = refl
  in_plain_node (Shown e) is = or_false (named_in takes hidden n e)
  in_plain_node (Set name e global) is = or_false (named_in takes hidden n e)
  in_plain_node (BlockSet name filters body global) is = in_filtered filters body
  in_plain_node (Include name span) is = absurd is
  in_plain_node (Block name span body) is = in_nodes body
  in_plain_node (ForLoop key value target body other) is = absurd is
  in_plain_node Break is = refl
  in_plain_node Continue is = refl
  in_plain_node (If e body other) is = ap (λ c. named_in takes hidden n e || c) (in_bodies body other)
  in_plain_node (FilterSection filters body) is = in_filtered filters body

  pub plain_expression : (x : Expression) → PlainArm x → any (parts_in_expression (expression_view x)) ≡ named_in takes hidden n (expression_view x)
  plain_expression x arm = in_plain (expression_view x) (is_plain x arm)

  pub plain_node : (x : Node) → PlainNodeArm x → any (parts_in_node (node_view x)) ≡ named_in_node takes hidden n (node_view x)
  plain_node x arm = in_plain_node (node_view x) (is_plain_node x arm)

  -- what is in a part is put after others
  pub put_after : (old new : List Part) (more : List PartVal) (b : Bool) → parts_view new ≡ parts_view old ++ more → any more ≡ b
      → any (parts_view new) ≡ (any (parts_view old) || b)
  put_after old new more b is h = ap any is ∙ both (parts_view old) more _ _ refl h

  pub pushed : (old new : List Part) (p : Part) (b : Bool) → new ≡ old ++ p ∷ [] → any (parts_view (p ∷ [])) ≡ b → any (parts_view new) ≡ (any (parts_view old) || b)
  pushed old new p b is h = ap (λ ps. any (parts_view ps)) is ∙ ap any (map-append part_view old (p ∷ [])) ∙ both (parts_view old) (parts_view (p ∷ [])) _ _ refl h

-- one scope more
pub scope_more : (takes : Taking) (n : List ℕ) (ss new : List Scope) (s : Scope) (b : Bool)
    → new ≡ ss ++ s ∷ [] → named_in_scope takes n s ≡ b → is_to_come takes n new ≡ (is_to_come takes n ss || b)
scope_more takes n ss new s b is h = ap (is_to_come takes n) is ∙ list_any-append (named_in_scope takes n) ss (s ∷ []) ∙ ap (λ c. is_to_come takes n ss || c) (or_false _ ∙ h)

-- where memory was found, what is in a part is to come in place of it
pub put_ok : {E : Type 0} (takes : Taking) (named to_come hidden : List ℕ → Bool) (old new : List Part) (more : List PartVal) (b : List ℕ → Bool) (r : Result (Unit {0}) E)
    → OnOk r (parts_view new ≡ parts_view old ++ more) → ((n : List ℕ) → named_in_parts takes (hidden n) n more ≡ b n)
    → OnOk r ((n : List ℕ) → (named n || (to_come n || named_in_parts takes (hidden n) n (parts_view new)))
    ≡ (named n || (to_come n || (named_in_parts takes (hidden n) n (parts_view old) || b n))))
put_ok takes named to_come hidden old new more b (Ok u) is h = λ n. ap (λ c. named n || (to_come n || c)) (put_after takes (hidden n) n old new more (b n) is (h n))
put_ok takes named to_come hidden old new more b (Err e) is h = is

-- the same for a call, of whose variables some are named before
or_between : (s b p t a m : Bool) → a ≡ (s || m) → ((a || (t || (p || b))) ≡ (s || (t || (p || (m || b)))))
or_between true b p t a m h = rw h refl
or_between false b p t a true h = rw h (between p t)
  where
    between : (p t : Bool) → true ≡ (t || (p || true))
    between p true = refl
    between true false = refl
    between false false = refl
or_between false b p t a false h = rw h refl

pub call_ok : {E : Type 0} (takes : Taking) (to_come hidden : List ℕ → Bool) (before following : Naming) (old new : List Part) (x : Expression) (call : Spanned Call) (r : Result (Unit {0}) E)
    → x ≡ expressions.ComponentCall call → OnOk r (parts_view new ≡ parts_view old ++ parts_in_expression (expression_view x))
    → ((n : List ℕ) → is_named following n ≡ (is_named before n || takes (string_bytes (out-ComponentCall (node_of call)).name) (hidden n) n))
    → OnOk r ((n : List ℕ) → (is_named following n || (to_come n || named_in_parts takes (hidden n) n (parts_view new)))
    ≡ (is_named before n || (to_come n || (named_in_parts takes (hidden n) n (parts_view old) || named_in takes (hidden n) n (expression_view x)))))
call_ok takes to_come hidden before following old new x call (Err e) code is h = is
call_ok takes to_come hidden before following old new x call (Ok u) code is h = λ n.
    let inside = named_in_parts takes (hidden n) n (parts_in_expression (expression_view x)) in
    let p = named_in_parts takes (hidden n) n (parts_view old) in
    ap (λ b. is_named following n || (to_come n || b)) (put_after takes (hidden n) n old new _ inside is refl)
    ∙ or_between (is_named before n) inside p (to_come n) (is_named following n) _ (h n)
    ∙ ap (λ b. is_named before n || (to_come n || (p || b))) (subst (λ y. (takes (string_bytes (out-ComponentCall (node_of call)).name) (hidden n) n || named_in_parts takes (hidden n) n (parts_in_expression (expression_view y))) ≡ named_in takes (hidden n) n (expression_view y)) (sym code) (in_code_call takes (hidden n) n call))

-- ---- what is found of definitions, one by one

pub definition_next : (found : Definition → List FindingVal) (start now later : List FindingVal) (ds : List ComponentDefinition) (i : ℕ) (d : ComponentDefinition)
    → i < length ds → d ≡ get_or ds i d → start ≡ now ++ flat_map found (map definition_view (drop i ds)) → later ≡ now ++ found (definition_view d)
    → start ≡ later ++ flat_map found (map definition_view (drop (i + 1) ds))
definition_next found start now later ds i d h is held step =
    let next : i + 1 ≡ suc i = omega arith in
    let more = flat_map found (map definition_view (drop (suc i) ds)) in
    rw next
    (held ∙ ap (λ es. now ++ flat_map found (map definition_view es)) (drop_next ds i d h is)
    ∙ sym (append_assoc now (found (definition_view d)) more) ∙ ap (λ fs. fs ++ more) (sym step))

-- ---- what is found of arguments, one by one

abbrev pub CodeArgument : Type 0
CodeArgument = String Global × ComponentArgument

pub argument_next : (found : List ℕ × Argument → List FindingVal) (start now later : List FindingVal) (entries rest : List CodeArgument) (e : CodeArgument)
    → entries ≡ e ∷ rest → start ≡ now ++ flat_map found (map (λ a. (string_bytes a.0, argument_view a.1)) entries) → later ≡ now ++ found (string_bytes e.0, argument_view e.1)
    → start ≡ later ++ flat_map found (map (λ a. (string_bytes a.0, argument_view a.1)) rest)
argument_next found start now later entries rest e is held step =
    let more = flat_map found (map (λ (a : CodeArgument). (string_bytes a.0, argument_view a.1)) rest) in
    held ∙ ap (λ es. now ++ flat_map found (map (λ (a : CodeArgument). (string_bytes a.0, argument_view a.1)) es)) is
    ∙ sym (append_assoc now (found (string_bytes e.0, argument_view e.1)) more) ∙ ap (λ fs. fs ++ more) (sym step)
