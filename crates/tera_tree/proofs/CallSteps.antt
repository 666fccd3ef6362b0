-- A call, step by step.
use Rattle.std.proofs.Common.{◌≡◌, ℕ, ◌==◌, true, false, List, [], length, Option, Some, None, Result, Ok, Err, String, string_bytes, Global, inl, inr, refl, ap, subst}
use Rattle.tera_base.specs.Contexts.{context_view, put_all}
use Rattle.tera_tree.specs.Outcomes.{Outcome, Gives, Refuses, ComesTo}
use Rattle.tera_base.specs.ValueView.{pairs_view}
use Rattle.tera_base.specs.declared.contexts.Context.{Context}
use Rattle.tera_base.specs.declared.errors.Error.{Error}
use Rattle.tera_base.specs.declared.values.Key.{Key}
use Rattle.tera_base.specs.declared.values.Value.{Value, Map}
use Rattle.tera_tree.proofs.Coming.{gave, stopped, next}
use Rattle.tera_base.proofs.ValueViews.{view_map}
use Rattle.tera_tree.specs.Calls.{Pair, arguments_view, texts, unknown, unknown_text, passed_pairs, body_pairs, RestMapComesTo, RestComesTo, ArgumentsComeTo, ContextComesTo, BuildsContext}
use Rattle.tera_tree.specs.Tree.{Argument}
use Rattle.tera_ast.specs.View.{name_view}
use Rattle.tera_tree.specs.View.{definition_view}
use Rattle.tera_tree.specs.declared.ast.ComponentDefinition.{ComponentDefinition}
use Rattle.tera_tree.proofs.CallNames.{Name, no_names, some_names}

abbrev pub ValueAnswer : Type 0
ValueAnswer = Result (Option Value) Error

abbrev pub FoundAnswer : Type 0
FoundAnswer = Result Value Error

module _ (V : List ℕ → ValueAnswer → Type 0) (arguments : List (List ℕ × Argument)) (rest : Option (String Global)) where
  pub rest_given : (name : String Global) (ns : List (List ℕ)) (m : List (Key × Value)) (n : Name) → rest ≡ Some name → n.now ≡ string_bytes name
      → RestMapComesTo V ns (Gives (pairs_view m)) → RestComesTo V (name_view rest) arguments ns (Gives (passed_pairs (Some (n, Map m))))
  rest_given name ns m n e named h = rw e (Gives (pairs_view m), h, rw (named, view_map m) refl)

  pub rest_none : (ns : List Name) → rest ≡ None → true ≡ (length ns == 0) → RestComesTo V (name_view rest) arguments (texts ns) (Gives [])
  rest_none ns e h = rw (e, no_names ns h) refl

  pub rest_refused : (ns : List Name) → rest ≡ None → false ≡ (length ns == 0) → RestComesTo V (name_view rest) arguments (texts ns) (Refuses (unknown_text (texts ns) arguments))
  rest_refused ns e h = let s = some_names ns h in rw (e, s.2) refl

with_names : {X A B : Type 0} (view : A → B) (P : X → Type 0) (R : X → Outcome B → Type 0) (x : X) (r : Result A Error) → P x → ComesTo view (R x) r → ComesTo view (λ o. (y : X) × P y × R y o) r
with_names view P R x r p (inl m) = inl m
with_names view P R x r p (inr h) = inr (h.0, (x, p, h.1), h.2)

module _ (V : List ℕ → ValueAnswer → Type 0) (F : List ℕ → FoundAnswer → Type 0) (P : List Name → Type 0) (d : ComponentDefinition) (body : Option Value)
    (names us : List Name) (given : P names) (of_these : texts us ≡ unknown (arguments_view d.kwargs.entries) (texts names)) where
  abbrev Rest : List (List ℕ) → Outcome (List Pair) → Type 0
  Rest ns = RestComesTo V (name_view d.rest_param_name) (arguments_view d.kwargs.entries) ns

  pub rest_stops : (e : Error) → ComesTo passed_pairs (Rest (texts us)) (Err e) → ComesTo context_view (BuildsContext V F P (definition_view d) body) (Err e)
  rest_stops e h =
      with_names context_view P (λ ns. ContextComesTo V F (definition_view d) (texts ns) (body_pairs body)) names (Err e) given
      (stopped passed_pairs (Rest (unknown (arguments_view d.kwargs.entries) (texts names))) context_view _ e (subst (λ ns. ComesTo passed_pairs (Rest ns) (Err e)) of_these h))

  pub arguments_stop : (e : Error) (r : Option (Name × Value)) → Rest (texts us) (Gives (passed_pairs r))
      → ComesTo context_view (ArgumentsComeTo V F (arguments_view d.kwargs.entries)) (Err e) → ComesTo context_view (BuildsContext V F P (definition_view d) body) (Err e)
  arguments_stop e r rested h =
      with_names context_view P (λ ns. ContextComesTo V F (definition_view d) (texts ns) (body_pairs body)) names (Err e) given
      (next (Rest (unknown (arguments_view d.kwargs.entries) (texts names))) context_view _ (passed_pairs r) (Err e) (subst (λ ns. Rest ns (Gives (passed_pairs r))) of_these rested)
      (stopped context_view (ArgumentsComeTo V F (arguments_view d.kwargs.entries)) context_view _ e h))

  pub built : (r : Option (Name × Value)) (filled whole : Context) → Rest (texts us) (Gives (passed_pairs r)) → ArgumentsComeTo V F (arguments_view d.kwargs.entries) (Gives (context_view filled))
      → context_view whole ≡ put_all (body_pairs body) (put_all (passed_pairs r) (context_view filled)) → ComesTo context_view (BuildsContext V F P (definition_view d) body) (Ok whole)
  built r filled whole rested all e =
      gave context_view (BuildsContext V F P (definition_view d) body) whole
      (names, given, (Gives (passed_pairs r), subst (λ ns. Rest ns (Gives (passed_pairs r))) of_these rested, (Gives (context_view filled), all, ap Gives e)))
