-- What is found by components that are alike except their spans in one file: the same, except notes about that file.
use Rattle.std.proofs.Common.{◌≡◌, ◌∙◌, ℕ, suc, List, [], ◌∷◌, ◌++◌, Bool, true, false, cond, Option, None, Some, map, string_bytes, refl, sym, ap, subst, inl, inr, nat_eq}
use Rattle.std.proofs.Common.{if◌then◌else◌}
use Rattle.std.specs.Prelude.{◌&&◌, ◌||◌, is_some, not}
use Rattle.std.specs.List.{flat_map, filter, list_any, AllByRecursion}
use Rattle.tera_base.specs.Contexts.{found}
use Rattle.tera_base.specs.Values.{Val}
use Rattle.tera_base.specs.declared.utils.Span.{Span}
use Rattle.tera_ast.specs.Tree.{Nodes}
use Rattle.tera_ast.specs.Tree.{Expr, Const, Array, Map, Var, GetAttr, GetItem, Slice, Filter, Test, Ternary, ListComprehension, ComponentCall, FunctionCall, UnaryOperation, BinaryOperation}
use Rattle.tera_ast.specs.View.{nodes_of}
use Rattle.tera_tree.specs.Tree.{Argument, Definition, Output}
use Rattle.tera_check.specs.Alike.{name_called, names_in}
use Rattle.tera_rules.specs.Calls.{calls_in_definition, calls_in_nodes, calls_of}
use Rattle.tera_check.specs.Due.{due_among, is_due, is_due_in}
use Rattle.tera_findings.specs.Findings.{NoteVal, FindingVal, FoundAs, kind_name}
use Rattle.tera_templates.specs.Ignores.{IgnoreVal, ignores_view}
use Rattle.tera_rules.specs.Judged.{KnownVal, RemarkVal, taken_by, about, remarked, refused_for, unless_rest, unknown, refusal, counted, refused, refused_one, is_again, refused_findings, missed, missing_findings, missing_in, judged, unused_body, unused_bodies, call_findings, again, defined_again, again_findings}
use Rattle.tera_check.specs.Named.{span_at, taken_in, tree_findings}
use Rattle.tera_check.specs.Parameters.{parameter_at, unused_in}
use Rattle.tera_rules.specs.Rules.{small_findings}
use Rattle.tera_check.specs.Silenced.{is_judged, is_silenced_at, is_undefined_kind, silences, silences_at, unused_ignore, unused_ignores}
use Rattle.tera_rules.specs.Passed.{NamedVal, PassedVal, OneNamed, Whatever, has_whatever, is_passed, passed_by}
use Rattle.tera_findings.specs.declared.finding.Kind.{Kind}
use Rattle.tera_findings.specs.declared.finding.Severity.{Severity}
use Rattle.tera_templates.specs.declared.mended.Mended.{Mended}
use Rattle.tera_templates.specs.declared.templates.Template.{Template}
use Rattle.tera_check.proofs.TakenLemmas.{all_append, agree_both, unused_alike, taken_by_arguments}
use Rattle.tera_workspace.specs.Beside.{HasNoNoteIn, AreAlikeBut, AreAlikeButIfAny, AgreeBut}

-- ---- findings that differ by notes about one file

abbrev kind_of : FindingVal → Kind
kind_of (FoundAs kind severity span text notes) = kind

abbrev span_of : FindingVal → Span
span_of (FoundAs kind severity span text notes) = span

-- of one kind at one span; and the same, where the first has no note about the file
pub record AreSameBut (file : List ℕ) (f g : FindingVal) : Type 0 where
  kind : kind_of f ≡ kind_of g
  span : span_of f ≡ span_of g
  same : HasNoNoteIn file f → f ≡ g

abbrev pub AreEachSameBut : List ℕ → List FindingVal → List FindingVal → Type 0
AreEachSameBut file [] [] = Unit {0}
AreEachSameBut file [] (g ∷ gs) = ⊥
AreEachSameBut file (f ∷ fs) [] = ⊥
AreEachSameBut file (f ∷ fs) (g ∷ gs) = AreSameBut file f g × AreEachSameBut file fs gs

each_itself : (file : List ℕ) (fs : List FindingVal) → AreEachSameBut file fs fs
each_itself file [] = tt
each_itself file (f ∷ fs) = (record { kind = refl; span = refl; same = λ beside. refl }, each_itself file fs)

each_equal : (file : List ℕ) (fs gs : List FindingVal) → fs ≡ gs → AreEachSameBut file fs gs
each_equal file fs gs e = subst (AreEachSameBut file fs) e (each_itself file fs)

each_append : (file : List ℕ) (fs gs hs is : List FindingVal) → AreEachSameBut file fs gs → AreEachSameBut file hs is → AreEachSameBut file (fs ++ hs) (gs ++ is)
each_append file [] [] hs is h more = more
each_append file [] (g ∷ gs) hs is h more = absurd h
each_append file (f ∷ fs) [] hs is h more = absurd h
each_append file (f ∷ fs) (g ∷ gs) hs is h more = (h.0, each_append file fs gs hs is h.1 more)

each_same : (file : List ℕ) (fs gs : List FindingVal) → AreEachSameBut file fs gs → AllByRecursion (HasNoNoteIn file) fs → fs ≡ gs
each_same file [] [] h b = refl
each_same file [] (g ∷ gs) h b = absurd h
each_same file (f ∷ fs) [] h b = absurd h
each_same file (f ∷ fs) (g ∷ gs) h b = λ i. h.0.same b.0 i ∷ each_same file fs gs h.1 b.1 i

-- those that pass a test by the kind and the span
false_true : false ≡ true → ⊥
false_true e = cc

module _ (file : List ℕ) (test : FindingVal → Bool)
    (by_kind_and_span : (kind : Kind) (severity another : Severity) (span : Span) (text other : List ℕ) (notes others : List NoteVal) → test (FoundAs kind severity span text notes) ≡ test (FoundAs kind another span other others)) where
  test_same : (f g : FindingVal) → AreSameBut file f g → test f ≡ test g
  test_same (FoundAs kind severity span text notes) (FoundAs now another there other others) h =
      by_kind_and_span kind severity another span text other notes others ∙ λ i. test (FoundAs (h.kind i) another (h.span i) other others)

  kept_same : (b c : Bool) (f g : FindingVal) (fs gs : List FindingVal) → b ≡ c → (HasNoNoteIn file f → f ≡ g) → (AllByRecursion (HasNoNoteIn file) fs → fs ≡ gs)
      → AllByRecursion (HasNoNoteIn file) (cond b (f ∷ fs) fs) → cond b (f ∷ fs) fs ≡ cond c (g ∷ gs) gs
  kept_same true true f g fs gs e same more b = λ i. same b.0 i ∷ more b.1 i
  kept_same false false f g fs gs e same more b = more b
  kept_same true false f g fs gs e same more b = absurd (false_true (sym e))
  kept_same false true f g fs gs e same more b = absurd (false_true e)

  filter_same : (fs gs : List FindingVal) → AreEachSameBut file fs gs → AllByRecursion (HasNoNoteIn file) (filter test fs) → filter test fs ≡ filter test gs
  filter_same [] [] h b = refl
  filter_same [] (g ∷ gs) h b = absurd h
  filter_same (f ∷ fs) [] h b = absurd h
  filter_same (f ∷ fs) (g ∷ gs) h b =
      kept_same (test f) (test g) f g (filter test fs) (filter test gs) (test_same f g h.0) h.0.same (filter_same fs gs h.1) b

-- ---- one component, and one that is alike

module _ (file : List ℕ) (number : ℕ) (k j : KnownVal) (h : AreAlikeBut file number k j) where
  about_but : (span : Span) (r : RemarkVal) → AreSameBut file (about k span r) (about j span r)
  about_but span r = record {
    kind = refl;
    span = refl;
    same = λ beside. elim h.span [
      | inl e ↦ absurd (beside.0 e)
      | inr e ↦ λ i. about (record k { definition = record k.definition { name = h.name i }; file = h.same_file i; span = e i }) span r
    ];
  }

  reported_but : (span : Span) (r : Option RemarkVal) → AreEachSameBut file (remarked k span r) (remarked j span r)
  reported_but span None = tt
  reported_but span (Some r) = (about_but span r, tt)

  refused_for_but : (a : Option Argument) (n : List ℕ) (v : Option Val) → refused_for a k.definition n v ≡ refused_for a j.definition n v
  refused_for_but (Some a) n v = refl
  refused_for_but None n v = λ i. unless_rest (h.rest i) (unknown (record k.definition { arguments = h.arguments i }) n)

  refusal_but : (n : List ℕ) (v : Option Val) → refusal k.definition n v ≡ refusal j.definition n v
  refusal_but n v = ap (λ as_given. refused_for (found n as_given) k.definition n v) h.arguments ∙ refused_for_but (found n j.definition.arguments) n v

  refused_but : (more : Bool) (p : NamedVal) → AreEachSameBut file (refused k more p) (refused j more p)
  refused_but more p =
      subst (λ r. AreEachSameBut file (refused k more p) (remarked j p.span r)) (refusal_but p.name (counted more p.constant))
      (reported_but p.span (refusal k.definition p.name (counted more p.constant)))

  one_but : (later more : Bool) (p : PassedVal) → AreEachSameBut file (refused_one k later more p) (refused_one j later more p)
  one_but true more (OneNamed p) = tt
  one_but false more (OneNamed p) = refused_but more p
  one_but later more Whatever = tt

  all_refused_but : (ps : List PassedVal) → AreEachSameBut file (refused_findings k ps) (refused_findings j ps)
  all_refused_but [] = tt
  all_refused_but (p ∷ ps) =
      each_append file (refused_findings k ps) (refused_findings j ps) (refused_one k (is_again p ps) (has_whatever ps) p) (refused_one j (is_again p ps) (has_whatever ps) p)
      (all_refused_but ps) (one_but (is_again p ps) (has_whatever ps) p)

  each_missing : (passed : List ℕ → Bool) (span : Span) (as_given : List (List ℕ × Argument))
      → AreEachSameBut file (flat_map (λ a. remarked k span (missed passed a)) as_given) (flat_map (λ a. remarked j span (missed passed a)) as_given)
  each_missing passed span [] = tt
  each_missing passed span (a ∷ more) =
      each_append file (remarked k span (missed passed a)) (remarked j span (missed passed a)) (flat_map (λ a. remarked k span (missed passed a)) more) (flat_map (λ a. remarked j span (missed passed a)) more)
      (reported_but span (missed passed a)) (each_missing passed span more)

  missing_but : (passed : List ℕ → Bool) (span : Span) → AreEachSameBut file (missing_findings k passed span) (missing_findings j passed span)
  missing_but passed span =
      subst (λ as_given. AreEachSameBut file (missing_findings k passed span) (flat_map (λ a. remarked j span (missed passed a)) as_given)) h.arguments (each_missing passed span k.definition.arguments)

  missing_if : (any : Bool) (passed : List ℕ → Bool) (span : Span)
      → AreEachSameBut file (if any then [] else missing_findings k passed span) (if any then [] else missing_findings j passed span)
  missing_if true passed span = tt
  missing_if false passed span = missing_but passed span

  judged_but : (name : List ℕ) (span : Span) (ps : List PassedVal) → AreEachSameBut file (judged (Some k) name span ps) (judged (Some j) name span ps)
  judged_but name span ps =
      each_append file (refused_findings k ps) (refused_findings j ps) (missing_in k span ps) (missing_in j span ps)
      (all_refused_but ps) (missing_if (has_whatever ps) (λ n. is_passed n ps) span)

  unused_body_but : (span : Span) (body : Nodes) → AreEachSameBut file (unused_bodies (Some k) span body) (unused_bodies (Some j) span body)
  unused_body_but span body =
      subst (λ r. AreEachSameBut file (unused_bodies (Some k) span body) (remarked j span r)) (λ i. unused_body (h.shows_body i) (h.name i) body)
      (reported_but span (unused_body k.shows_body k.definition.name body))

  again_but : (span : Span) → AreSameBut file (again k span) (again j span)
  again_but span = record {
    kind = refl;
    span = refl;
    same = λ beside. elim h.span [
      | inl e ↦ absurd (beside.0 e)
      | inr e ↦ λ i. again (record k { definition = record k.definition { name = h.name i }; file = h.same_file i; span = e i }) span
    ];
  }

  defined_if : (own : Bool) (span : Span) → AreEachSameBut file (if own then [] else again k span ∷ []) (if own then [] else again j span ∷ [])
  defined_if true span = tt
  defined_if false span = (again_but span, tt)

  defined_but : (span : Span) → AreEachSameBut file (defined_again number span (Some k)) (defined_again number span (Some j))
  defined_but span =
      subst (λ own. AreEachSameBut file (defined_again number span (Some k)) (if own then [] else again j span ∷ [])) h.own (defined_if (nat_eq k.template number) span)

-- ---- a tree

module _ (file : List ℕ) (number : ℕ) where
  judged_any : (o p : Option KnownVal) → AreAlikeButIfAny file number o p → (name : List ℕ) (span : Span) (ps : List PassedVal)
      → AreEachSameBut file (judged o name span ps) (judged p name span ps)
  judged_any None None h name span ps = each_itself file (judged None name span ps)
  judged_any None (Some j) h name span ps = absurd h
  judged_any (Some k) None h name span ps = absurd h
  judged_any (Some k) (Some j) h name span ps = judged_but file number k j h name span ps

  unused_any : (o p : Option KnownVal) → AreAlikeButIfAny file number o p → (span : Span) (body : Nodes)
      → AreEachSameBut file (unused_bodies o span body) (unused_bodies p span body)
  unused_any None None h span body = tt
  unused_any None (Some j) h span body = absurd h
  unused_any (Some k) None h span body = absurd h
  unused_any (Some k) (Some j) h span body = unused_body_but file number k j h span body

  taken_any : (o p : Option KnownVal) → AreAlikeButIfAny file number o p → (hidden : Bool) (n : List ℕ) → taken_by o hidden n ≡ taken_by p hidden n
  taken_any None None h hidden n = refl
  taken_any None (Some j) h hidden n = absurd h
  taken_any (Some k) None h hidden n = absurd h
  taken_any (Some k) (Some j) h hidden n = taken_by_arguments k j h.arguments hidden n

  defined_any : (o p : Option KnownVal) → AreAlikeButIfAny file number o p → (span : Span)
      → AreEachSameBut file (defined_again number span o) (defined_again number span p)
  defined_any None None h span = tt
  defined_any None (Some j) h span = absurd h
  defined_any (Some k) None h span = absurd h
  defined_any (Some k) (Some j) h span = defined_but file number k j h span

-- whether a finding is due does not depend on how grave it is, on its text and on its notes
due_in_by : (m : Option Mended) (kind : Kind) (severity another : Severity) (span : Span) (text other : List ℕ) (notes others : List NoteVal)
    → is_due_in m (FoundAs kind severity span text notes) ≡ is_due_in m (FoundAs kind another span other others)
due_in_by None kind severity another span text other notes others = refl
due_in_by (Some m) kind severity another span text other notes others = refl

due_by : (open_text : Bool) (t : Template) (kind : Kind) (severity another : Severity) (span : Span) (text other : List ℕ) (notes others : List NoteVal)
    → is_due open_text t (FoundAs kind severity span text notes) ≡ is_due open_text t (FoundAs kind another span other others)
due_by open_text t kind severity another span text other notes others =
    ap (λ b. not (open_text && is_undefined_kind kind) && (b && not (is_silenced_at (ignores_view t.ignores.items) (kind_name kind) span.start_line)))
    (due_in_by t.mended kind severity another span text other notes others)

-- .. and which ignores silence nothing does not depend on notes
silences_one : (file : List ℕ) (i : IgnoreVal) (f g : FindingVal) → AreSameBut file f g → silences i f ≡ silences i g
silences_one file i (FoundAs kind severity span text notes) (FoundAs now later there other others) h = λ k. silences_at i (kind_name (h.kind k)) (h.span k).start_line

silences_any : (file : List ℕ) (i : IgnoreVal) (fs gs : List FindingVal) → AreEachSameBut file fs gs → list_any (silences i) fs ≡ list_any (silences i) gs
silences_any file i [] [] h = refl
silences_any file i [] (g ∷ gs) h = absurd h
silences_any file i (f ∷ fs) [] h = absurd h
silences_any file i (f ∷ fs) (g ∷ gs) h = λ k. silences_one file i f g h.0 k || silences_any file i fs gs h.1 k

unused_same : (file : List ℕ) (open_text : Bool) (t : Template) (fs gs : List FindingVal) → AreEachSameBut file fs gs → unused_ignores open_text t fs ≡ unused_ignores open_text t gs
unused_same file open_text t fs gs h =
    λ k. if is_some t.mended then [] else map unused_ignore (filter (λ i. is_judged open_text i.rule && not (silences_any file i fs gs h k)) (ignores_view t.ignores.items))

module _ (file : List ℕ) (number : ℕ) (known others : List ℕ → Option KnownVal) where
  call_but : (own : List ℕ) (e : Expr) → AgreeBut (name_called e) file number known others → AreEachSameBut file (call_findings own known e) (call_findings own others e)
  call_but own (ComponentCall name es body closed span) h =
      each_append file _ _ (judged (known name) name span (passed_by es) ++ unused_bodies (known name) span body) (judged (others name) name span (passed_by es) ++ unused_bodies (others name) span body)
      (each_itself file _)
      (each_append file (judged (known name) name span (passed_by es)) (judged (others name) name span (passed_by es)) (unused_bodies (known name) span body) (unused_bodies (others name) span body)
      (judged_any file number (known name) (others name) h.0 name span (passed_by es)) (unused_any file number (known name) (others name) h.0 span body))
  call_but own (Const v span) h = tt
  call_but own (Array es span) h = tt
  call_but own (Map es span) h = tt
  call_but own (Var name span) h = tt
  call_but own (GetAttr e name optional span) h = tt
  call_but own (GetItem e sub optional span) h = tt
  call_but own (Slice e start end step optional span) h = tt
  call_but own (Filter e name args span) h = tt
  call_but own (Test e name args span) h = tt
  call_but own (Ternary e given otherwise span) h = tt
  call_but own (ListComprehension e key value target condition span) h = tt
  call_but own (FunctionCall name args span) h = tt
  call_but own (UnaryOperation op e span) h = tt
  call_but own (BinaryOperation op l r span) h = tt

  calls_but : (own : List ℕ) (es : List Expr) → AgreeBut (flat_map name_called es) file number known others
      → AreEachSameBut file (flat_map (call_findings own known) es) (flat_map (call_findings own others) es)
  calls_but own [] h = tt
  calls_but own (e ∷ es) h =
      let (first, more) = all_append (λ n. AreAlikeButIfAny file number (known n) (others n)) (name_called e) (flat_map name_called es) h in
      each_append file (call_findings own known e) (call_findings own others e) (flat_map (call_findings own known) es) (flat_map (call_findings own others) es)
      (call_but own e first) (calls_but own es more)

  definitions_but : (spans : ℕ → Span) (at : ℕ) (ds : List Definition) → AgreeBut (map (λ d. d.name) ds) file number known others
      → AreEachSameBut file (again_findings known number spans at ds) (again_findings others number spans at ds)
  definitions_but spans at [] h = tt
  definitions_but spans at (d ∷ ds) h =
      each_append file (defined_again number (spans at) (known d.name)) (defined_again number (spans at) (others d.name)) (again_findings known number spans (suc at) ds) (again_findings others number spans (suc at) ds)
      (defined_any file number (known d.name) (others d.name) h.0 (spans at)) (definitions_but spans (suc at) ds h.1)

  takes_but : (name : List ℕ) → AreAlikeButIfAny file number (known name) (others name) → (hidden : Bool) (n : List ℕ) → taken_in known name hidden n ≡ taken_in others name hidden n
  takes_but name h = taken_any file number (known name) (others name) h

  -- what is found in a tree is the same by what is known alike except places in the file, except notes about it
  tree_each : (t : Template) (o : Output) → AgreeBut (names_in o) file number known others → AreEachSameBut file (tree_findings known number t o) (tree_findings others number t o)
  tree_each t o h =
      let (defined, called) = all_append (λ n. AreAlikeButIfAny file number (known n) (others n)) (map (λ d. d.name) o.definitions) (flat_map name_called (calls_of o)) h in
      let (bodies, nodes) = agree_both known others (λ n. AreAlikeButIfAny file number (known n) (others n)) takes_but (flat_map calls_in_definition o.definitions) (calls_in_nodes (nodes_of o.nodes)) called in
      let unused = flat_map (unused_in (taken_in known) (parameter_at t)) o.definitions in
      let unused_now = flat_map (unused_in (taken_in others) (parameter_at t)) o.definitions in
      let calls = flat_map (call_findings (string_bytes t.file) known) (calls_of o) in
      let calls_now = flat_map (call_findings (string_bytes t.file) others) (calls_of o) in
      let small = small_findings (string_bytes t.file) o in
      each_append file (again_findings known number (span_at t) 0 o.definitions) (again_findings others number (span_at t) 0 o.definitions) (unused ++ (calls ++ small)) (unused_now ++ (calls_now ++ small))
      (definitions_but (span_at t) 0 o.definitions defined)
      (each_append file unused unused_now (calls ++ small) (calls_now ++ small)
      (each_equal file unused unused_now (unused_alike known others (λ n. AreAlikeButIfAny file number (known n) (others n)) takes_but (parameter_at t) o.definitions bodies))
      (each_append file calls calls_now small small (calls_but (string_bytes t.file) (calls_of o) called) (each_itself file small)))

  -- so where nothing that is found says a place in the file, it is the same; and where nothing that is due does, that
  -- is
  pub tree_but : (t : Template) (o : Output) → AgreeBut (names_in o) file number known others → AllByRecursion (HasNoNoteIn file) (tree_findings known number t o)
      → tree_findings known number t o ≡ tree_findings others number t o
  tree_but t o h b = each_same file (tree_findings known number t o) (tree_findings others number t o) (tree_each t o h) b

  pub due_but : (open_text : Bool) (t : Template) (o : Output) → AgreeBut (names_in o) file number known others
      → AllByRecursion (HasNoNoteIn file) (due_among open_text t (tree_findings known number t o))
      → due_among open_text t (tree_findings known number t o) ≡ due_among open_text t (tree_findings others number t o)
  due_but open_text t o h b =
      let before = tree_findings known number t o in
      let now = tree_findings others number t o in
      let each = tree_each t o h in
      let (unused, due) = all_append (HasNoNoteIn file) (unused_ignores open_text t before) (filter (is_due open_text t) before) b in
      λ i. unused_same file open_text t before now each i ++ filter_same file (is_due open_text t) (due_by open_text t) before now each due i
