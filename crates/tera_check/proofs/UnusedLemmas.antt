-- Components that templates call, one by one.
use Rattle.std.proofs.Common.{◌≡◌, ◌∙◌, ◌<◌, ◌+◌, ℕ, suc, List, [], ◌∷◌, ◌++◌, Bool, true, false, Bor, Ok, Err, drop, get_or, length, map, string_bytes, refl, sym, ap, subst, arith, append_assoc}
use Rattle.std.specs.Prelude.{◌||◌}
use Rattle.std.specs.List.{list_any}
use Rattle.std.specs.Str.{bytes_eq}
use Rattle.std.proofs.lemmas.List.{map_push}
use Rattle.std.proofs.lemmas.List.Folds.{list_any-append}
use Rattle.tera_base.specs.Spanned.{node_of, span_of}
use Rattle.tera_base.specs.declared.errors.Error.{Error}
use Rattle.tera_base.specs.declared.utils.Span.{Span}
use Rattle.tera_base.specs.declared.utils.Spanned.{Spanned}
use Rattle.tera_ast.specs.Tree.{Expr}
use Rattle.tera_ast.specs.View.{call_view}
use Rattle.tera_ast.specs.declared.ast.ComponentCall.{ComponentCall, out-ComponentCall}
use Rattle.tera_ast.proofs.Views.{call_out}
use Rattle.tera_tree.specs.Outputs.{output_view}
use Rattle.tera_tree.specs.View.{definition_view}
use Rattle.tera_tree.specs.declared.ast.ComponentDefinition.{ComponentDefinition}
use Rattle.tera_tree.specs.declared.outputs.ParserOutput.{ParserOutput}
use Rattle.tera_rules.specs.Calls.{calls_of}
use Rattle.tera_findings.specs.Findings.{FindingVal}
use Rattle.tera_rules.specs.Pending.{seen}
use Rattle.tera_check.specs.UnusedComponents.{is_call_of, may_be_called, may_call, may_call_by, unused_component_if, unused_components}
use Rattle.tera_templates.specs.declared.templates.Template.{Template}
use Rattle.tera_rules.proofs.BodiesLemmas.{drop_next}

or_false : (b : Bool) → (b || false) ≡ b
or_false true = refl
or_false false = refl

or_true : (b : Bool) → (b || true) ≡ true
or_true true = refl
or_true false = refl

or_assoc : (a b c : Bool) → ((a || b) || c) ≡ (a || (b || c))
or_assoc true b c = refl
or_assoc false b c = refl

called_name : (n : List ℕ) (s : Spanned ComponentCall) → is_call_of n (call_view (node_of s) (span_of s)) ≡ bytes_eq (string_bytes (out-ComponentCall (node_of s)).name) n
called_name n s = rw (call_out (node_of s) (span_of s)) refl

-- one more call
pub one_more : (n : List ℕ) (done : List (Bor (Spanned ComponentCall))) (call : Bor (Spanned ComponentCall)) (start old new : Bool)
    → old ≡ (start || list_any (is_call_of n) (map seen done)) → new ≡ (old || bytes_eq (string_bytes (out-ComponentCall (node_of call.now)).name) n)
    → new ≡ (start || list_any (is_call_of n) (map seen (done ++ call ∷ [])))
one_more n done call start old new held step =
    let here = bytes_eq (string_bytes (out-ComponentCall (node_of call.now)).name) n in
    let before = list_any (is_call_of n) (map seen done) in
    step ∙ ap (λ b. b || here) held ∙ or_assoc start before here
    ∙ ap (λ b. start || b)
    (sym (ap (list_any (is_call_of n)) (map_push seen done call) ∙ list_any-append (is_call_of n) (map seen done) (seen call ∷ [])
    ∙ ap (λ b. before || b) (or_false (is_call_of n (seen call)) ∙ called_name n call.now)))

-- one more template: its calls, or all, if it has a fault
pub with_calls : (n : List ℕ) (t : Template) (o : ParserOutput) (calls : List Expr) (all old new : Bool) → t.parsed ≡ Ok o → calls ≡ calls_of (output_view o)
    → new ≡ (old || list_any (is_call_of n) calls) → (all || new) ≡ ((all || old) || may_call n t)
with_calls n t o calls all old new is are step =
    ap (λ b. all || b) (step ∙ ap (λ es. old || list_any (is_call_of n) es) are)
    ∙ sym (or_assoc all old (list_any (is_call_of n) (calls_of (output_view o)))) ∙ sym (ap (λ r. (all || old) || may_call_by n r) is)

pub with_fault : (n : List ℕ) (t : Template) (e : Error) (old : Bool) → t.parsed ≡ Err e → true ≡ (old || may_call n t)
with_fault n t e old is = sym (or_true old) ∙ sym (ap (λ r. old || may_call_by n r) is)

pub next_template : (n : List ℕ) (ts : List Template) (at : ℕ) (t : Template) (before now : Bool) → at < length ts → t ≡ get_or ts at t
    → may_be_called ts n ≡ (before || list_any (may_call n) (drop at ts)) → now ≡ (before || may_call n t)
    → may_be_called ts n ≡ (now || list_any (may_call n) (drop (at + 1) ts))
next_template n ts at t before now inside is held step =
    let next : suc at ≡ at + 1 = omega arith in
    subst (λ k. may_be_called ts n ≡ (now || list_any (may_call n) (drop k ts))) next
    (held ∙ ap (λ us. before || list_any (may_call n) us) (drop_next ts at t inside is)
    ∙ sym (or_assoc before (may_call n t) (list_any (may_call n) (drop (suc at) ts))) ∙ ap (λ b. b || list_any (may_call n) (drop (suc at) ts)) (sym step))

-- one more definition
pub unused_next : (called : List ℕ → Bool) (spans : ℕ → Span) (ds : List ComponentDefinition) (at : ℕ) (d : ComponentDefinition) (all now new : List FindingVal) → at < length ds → d ≡ get_or ds at d
    → all ≡ now ++ unused_components called spans at (map definition_view (drop at ds)) → new ≡ now ++ unused_component_if called (string_bytes d.name) (spans at)
    → all ≡ new ++ unused_components called spans (at + 1) (map definition_view (drop (at + 1) ds))
unused_next called spans ds at d all now new inside is held step =
    let here = unused_component_if called (string_bytes d.name) (spans at) in
    let rest = unused_components called spans (suc at) (map definition_view (drop (suc at) ds)) in
    let next : suc at ≡ at + 1 = omega arith in
    subst (λ k. all ≡ new ++ unused_components called spans k (map definition_view (drop k ds))) next
    (held ∙ ap (λ es. now ++ unused_components called spans at (map definition_view es)) (drop_next ds at d inside is)
    ∙ sym (append_assoc now here rest) ∙ ap (λ fs. fs ++ rest) (sym step))
