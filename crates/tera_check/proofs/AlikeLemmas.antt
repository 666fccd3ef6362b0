-- What is found by components that are alike.
use Rattle.std.proofs.Common.{◌≡◌, ◌∙◌, ℕ, suc, List, [], ◌∷◌, ◌++◌, Bool, Option, None, Some, map, string_bytes, refl, ap}
use Rattle.std.proofs.Common.{if◌then◌else◌}
use Rattle.std.specs.List.{flat_map}
use Rattle.tera_base.specs.Contexts.{found}
use Rattle.tera_base.specs.Values.{Val}
use Rattle.tera_base.specs.declared.utils.Span.{Span}
use Rattle.tera_ast.specs.Tree.{Expr, Const, Array, Map, Var, GetAttr, GetItem, Slice, Filter, Test, Ternary, ListComprehension, ComponentCall, FunctionCall, UnaryOperation, BinaryOperation}
use Rattle.tera_ast.specs.Tree.{Nodes}
use Rattle.tera_ast.specs.View.{nodes_of}
use Rattle.tera_tree.specs.Tree.{Argument, Definition, Output}
use Rattle.tera_check.specs.Alike.{name_called, names_in, AreAlike, AreAlikeIfAny, AgreeOn}
use Rattle.tera_rules.specs.Calls.{calls_in_definition, calls_in_nodes, calls_of}
use Rattle.tera_findings.specs.Findings.{FindingVal}
use Rattle.tera_rules.specs.Judged.{KnownVal, RemarkVal, taken_by, about, remarked, refused_for, unless_rest, unknown, refusal, counted, refused, refused_one, is_again, refused_findings, missed, missing_findings, missing_in, judged, unused_body, unused_bodies, call_findings, again, defined_again, again_findings}
use Rattle.tera_check.specs.Named.{span_at, taken_in, tree_findings}
use Rattle.tera_check.specs.Parameters.{parameter_at}
use Rattle.tera_rules.specs.Rules.{small_findings}
use Rattle.tera_rules.specs.Passed.{NamedVal, PassedVal, OneNamed, Whatever, has_whatever, is_passed, passed_by}
use Rattle.tera_templates.specs.declared.templates.Template.{Template}
use Rattle.tera_check.proofs.TakenLemmas.{all_append, agree_both, unused_alike, taken_by_arguments}

-- ---- one component, and one that is reported alike

module _ (number other : ℕ) (k j : KnownVal) (h : AreAlike number other k j) where
  about_alike : (span : Span) (r : RemarkVal) → about k span r ≡ about j span r
  about_alike span r = λ i. about (record k { definition = record k.definition { name = h.name i }; file = h.file i; span = h.span i }) span r

  remarked_alike : (span : Span) (r : Option RemarkVal) → remarked k span r ≡ remarked j span r
  remarked_alike span None = refl
  remarked_alike span (Some r) = ap (λ f. f ∷ []) (about_alike span r)

  refused_for_alike : (a : Option Argument) (n : List ℕ) (v : Option Val) → refused_for a k.definition n v ≡ refused_for a j.definition n v
  refused_for_alike (Some a) n v = refl
  refused_for_alike None n v = λ i. unless_rest (h.rest i) (unknown (record k.definition { arguments = h.arguments i }) n)

  refusal_alike : (n : List ℕ) (v : Option Val) → refusal k.definition n v ≡ refusal j.definition n v
  refusal_alike n v = ap (λ as_given. refused_for (found n as_given) k.definition n v) h.arguments ∙ refused_for_alike (found n j.definition.arguments) n v

  refused_alike : (more : Bool) (p : NamedVal) → refused k more p ≡ refused j more p
  refused_alike more p = ap (remarked k p.span) (refusal_alike p.name (counted more p.constant)) ∙ remarked_alike p.span (refusal j.definition p.name (counted more p.constant))

  one_alike : (later more : Bool) (p : PassedVal) → refused_one k later more p ≡ refused_one j later more p
  one_alike later more (OneNamed p) = ap (λ (fs : List FindingVal). if later then [] else fs) (refused_alike more p)
  one_alike later more Whatever = refl

  all_refused_alike : (ps : List PassedVal) → refused_findings k ps ≡ refused_findings j ps
  all_refused_alike [] = refl
  all_refused_alike (p ∷ ps) = λ i. all_refused_alike ps i ++ one_alike (is_again p ps) (has_whatever ps) p i

  missing_alike : (passed : List ℕ → Bool) (span : Span) → missing_findings k passed span ≡ missing_findings j passed span
  missing_alike passed span = λ i. flat_map (λ a. remarked_alike span (missed passed a) i) (h.arguments i)

  missing_in_alike : (span : Span) (ps : List PassedVal) → missing_in k span ps ≡ missing_in j span ps
  missing_in_alike span ps = ap (λ (fs : List FindingVal). if has_whatever ps then [] else fs) (missing_alike (λ n. is_passed n ps) span)

  judged_some : (name : List ℕ) (span : Span) (ps : List PassedVal) → judged (Some k) name span ps ≡ judged (Some j) name span ps
  judged_some name span ps = λ i. all_refused_alike ps i ++ missing_in_alike span ps i

  unused_some : (span : Span) (body : Nodes) → unused_bodies (Some k) span body ≡ unused_bodies (Some j) span body
  unused_some span body = (λ i. remarked k span (unused_body (h.shows_body i) (h.name i) body)) ∙ remarked_alike span (unused_body j.shows_body j.definition.name body)

  again_alike : (span : Span) → again k span ≡ again j span
  again_alike span = λ i. again (record k { definition = record k.definition { name = h.name i }; file = h.file i; span = h.span i }) span

  defined_some : (span : Span) → defined_again number span (Some k) ≡ defined_again other span (Some j)
  defined_some span = λ i. if h.own i then [] else again_alike span i ∷ []

-- ---- a tree

module _ (number other : ℕ) where
  judged_alike : (o p : Option KnownVal) → AreAlikeIfAny number other o p → (name : List ℕ) (span : Span) (ps : List PassedVal) → judged o name span ps ≡ judged p name span ps
  judged_alike None None h name span ps = refl
  judged_alike None (Some j) h name span ps = absurd h
  judged_alike (Some k) None h name span ps = absurd h
  judged_alike (Some k) (Some j) h name span ps = judged_some number other k j h name span ps

  unused_body_alike : (o p : Option KnownVal) → AreAlikeIfAny number other o p → (span : Span) (body : Nodes) → unused_bodies o span body ≡ unused_bodies p span body
  unused_body_alike None None h span body = refl
  unused_body_alike None (Some j) h span body = absurd h
  unused_body_alike (Some k) None h span body = absurd h
  unused_body_alike (Some k) (Some j) h span body = unused_some number other k j h span body

  taken_alike : (o p : Option KnownVal) → AreAlikeIfAny number other o p → (hidden : Bool) (n : List ℕ) → taken_by o hidden n ≡ taken_by p hidden n
  taken_alike None None h hidden n = refl
  taken_alike None (Some j) h hidden n = absurd h
  taken_alike (Some k) None h hidden n = absurd h
  taken_alike (Some k) (Some j) h hidden n = taken_by_arguments k j h.arguments hidden n

  defined_alike : (o p : Option KnownVal) → AreAlikeIfAny number other o p → (span : Span) → defined_again number span o ≡ defined_again other span p
  defined_alike None None h span = refl
  defined_alike None (Some j) h span = absurd h
  defined_alike (Some k) None h span = absurd h
  defined_alike (Some k) (Some j) h span = defined_some number other k j h span

-- after the same findings
after_same : (before more others : List FindingVal) → more ≡ others → before ++ more ≡ before ++ others
after_same before more others same = ap (λ fs. before ++ fs) same

module _ (number other : ℕ) (known others : List ℕ → Option KnownVal) where
  call_alike : (file : List ℕ) (e : Expr) → AgreeOn (name_called e) number other known others → call_findings file known e ≡ call_findings file others e
  call_alike file (ComponentCall name es body closed span) h =
      after_same _ _ _
      (λ i. judged_alike number other (known name) (others name) h.0 name span (passed_by es) i ++ unused_body_alike number other (known name) (others name) h.0 span body i)
  call_alike file (Const v span) h = refl
  call_alike file (Array es span) h = refl
  call_alike file (Map es span) h = refl
  call_alike file (Var name span) h = refl
  call_alike file (GetAttr e name optional span) h = refl
  call_alike file (GetItem e sub optional span) h = refl
  call_alike file (Slice e start end step optional span) h = refl
  call_alike file (Filter e name args span) h = refl
  call_alike file (Test e name args span) h = refl
  call_alike file (Ternary e given otherwise span) h = refl
  call_alike file (ListComprehension e key value target condition span) h = refl
  call_alike file (FunctionCall name args span) h = refl
  call_alike file (UnaryOperation op e span) h = refl
  call_alike file (BinaryOperation op l r span) h = refl

  calls_alike : (file : List ℕ) (es : List Expr) → AgreeOn (flat_map name_called es) number other known others
      → flat_map (call_findings file known) es ≡ flat_map (call_findings file others) es
  calls_alike file [] h = refl
  calls_alike file (e ∷ es) h =
      let (first, more) = all_append (λ n. AreAlikeIfAny number other (known n) (others n)) (name_called e) (flat_map name_called es) h in
      λ i. call_alike file e first i ++ calls_alike file es more i

  definitions_alike : (spans : ℕ → Span) (at : ℕ) (ds : List Definition) → AgreeOn (map (λ d. d.name) ds) number other known others
      → again_findings known number spans at ds ≡ again_findings others other spans at ds
  definitions_alike spans at [] h = refl
  definitions_alike spans at (d ∷ ds) h =
      λ i. defined_alike number other (known d.name) (others d.name) h.0 (spans at) i ++ definitions_alike spans (suc at) ds h.1 i

  takes_alike : (name : List ℕ) → AreAlikeIfAny number other (known name) (others name) → (hidden : Bool) (n : List ℕ) → taken_in known name hidden n ≡ taken_in others name hidden n
  takes_alike name h = taken_alike number other (known name) (others name) h

  pub tree_alike : (t : Template) (o : Output) → AgreeOn (names_in o) number other known others → tree_findings known number t o ≡ tree_findings others other t o
  tree_alike t o h =
      let (defined, called) = all_append (λ n. AreAlikeIfAny number other (known n) (others n)) (map (λ d. d.name) o.definitions) (flat_map name_called (calls_of o)) h in
      let (bodies, nodes) = agree_both known others (λ n. AreAlikeIfAny number other (known n) (others n)) takes_alike (flat_map calls_in_definition o.definitions) (calls_in_nodes (nodes_of o.nodes)) called in
      λ i. definitions_alike (span_at t) 0 o.definitions defined i
      ++ (unused_alike known others (λ n. AreAlikeIfAny number other (known n) (others n)) takes_alike (parameter_at t) o.definitions bodies i ++ (calls_alike (string_bytes t.file) (calls_of o) called i ++ small_findings (string_bytes t.file) o))
