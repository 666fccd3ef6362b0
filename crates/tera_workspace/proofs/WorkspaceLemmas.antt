-- Workspaces of which some documents changed.
use Rattle.std.proofs.Common.{◌≡◌, ◌∙◌, ℕ, List, [], ◌∷◌, ◌++◌, ◌||◌, map, Bool, true, false, cond, String, Vec, Bor, string_bytes, unwrap_or, Option, None, Some, Result, Ok, Err, OnOk, OnErr, refl, sym, ap, subst}
use Rattle.std.proofs.Common.{if◌then◌else◌}
use Rattle.std.specs.Option.{option_map, is_some}
use Rattle.std.specs.Str.{bytes_eq}
use Rattle.std.specs.declared.alloc.Global.{Global}
use Rattle.std.proofs.lemmas.List.{map-append}
use Rattle.text_edits.specs.Documents.{DocumentVal, text_of}
use Rattle.text_edits.specs.Stored.{document_of, IsChangedAt, AreSame}
use Rattle.text_edits.specs.declared.documents.Documents.{Documents}
use Rattle.tera_workspace.specs.Components.{components_by, files_by, parameters_by}
use Rattle.tera_workspace.specs.Definitions.{AreRead, definition_by}
use Rattle.tera_workspace.specs.Fresh.{AreFresh}
use Rattle.tera_workspace.specs.Judgements.{IsJudgementIfAny}
use Rattle.tera_workspace.specs.Kept.{sources_of, templates_of, reported_of, reported_named, AllWhole, AreCurrent, StayKept}
use Rattle.tera_workspace.specs.Names.{is_among}
use Rattle.tera_workspace.specs.Sites.{AreNamed, FitsTemplates, named_by, templates_below}
use Rattle.tera_workspace.specs.Sources.{Source, AreAscending, text_named}
use Rattle.tera_workspace.specs.Reported.{AreNews, reported_each}
use Rattle.tera_workspace.specs.Unregistered.{unknown_by}
use Rattle.tera_workspace.specs.Workspaces.{IsKept, IsSettled}
use Rattle.text_edits.specs.declared.positions.Encoding.{Encoding}
use Rattle.tera_workspace.specs.declared.judged.Judged.{Judged}
use Rattle.tera_workspace.specs.declared.workspace.Workspace.{Workspace}
use Rattle.tera_workspace.proofs.BelowLemmas.{names_are}
use Rattle.tera_workspace.proofs.NamedLemmas.{named_by_fits}
use Rattle.tera_workspace.proofs.NameSets.{among_append}
use Rattle.tera_workspace.specs.Diagnostics.{DiagnosticVal}
use Rattle.tera_workspace.proofs.PlaceLemmas.{first_false, second_false, false_true}
use Rattle.tera_workspace.proofs.SettleLemmas.{News, reported_sources, reported_templates, reported_whole, still_ordered, all_reported, now_current, all_read, all_fresh}

-- those that are not among the names that changed are what they were
kept_by : (w : Workspace) (ds : Documents) (changed : Vec (String Global) Global) {ordered : AreAscending (sources_of w.judged.items)} → IsKept w
    → ((n : List ℕ) → is_among n (map string_bytes changed.items) ≡ false → (is_among n (map string_bytes w.changed.items) ≡ false) × (document_of ds n ≡ document_of w.documents n))
    → IsKept (record w { documents = ds; changed = changed; ordered = ordered })
kept_by w ds changed k h = record {
  whole = k.whole;
  ordered = k.ordered;
  current = k.current;
  texts = λ n free. let (was, same) = h n free in k.texts n was ∙ sym (ap (λ d. unwrap_or (text_of d) []) same);
}

-- one more name that changed
if_true : (b : Bool) → (if b then true else false) ≡ false → b ≡ false
if_true true h = h
if_true false h = refl

one_more : (changed now : List (String Global)) (key : String Global) (name n : List ℕ) → now ≡ changed ++ key ∷ [] → string_bytes key ≡ name → is_among n (map string_bytes now) ≡ false
    → (is_among n (map string_bytes changed) ≡ false) × (bytes_eq name n ≡ false)
one_more changed now key name n is same free =
    let both : (is_among n (map string_bytes changed) || is_among n (string_bytes key ∷ [])) ≡ false =
    sym (among_append n (map string_bytes changed) (string_bytes key ∷ [])) ∙ ap (is_among n) (sym (ap (map string_bytes) is ∙ map-append string_bytes changed (key ∷ []))) ∙ free in (
      first_false (is_among n (map string_bytes changed)) (is_among n (string_bytes key ∷ [])) both,
      ap (λ m. bytes_eq m n) (sym same) ∙ if_true (bytes_eq (string_bytes key) n) (second_false (is_among n (map string_bytes changed)) (is_among n (string_bytes key ∷ [])) both),
    )

-- a document that changed, and all that are what they were
pub kept_changed : (w : Workspace) (ds : Documents) (changed : Vec (String Global) Global) (key : String Global) (name : List ℕ) (change : DocumentVal → DocumentVal) {ordered : AreAscending (sources_of w.judged.items)}
    → changed.items ≡ w.changed.items ++ key ∷ [] → string_bytes key ≡ name → IsChangedAt name change w.documents ds → IsKept w
    → IsKept (record w { documents = ds; changed = changed; ordered = ordered })
kept_changed w ds changed key name change is same h k =
    kept_by w ds changed k (λ n free.
    let (was, other) = one_more w.changed.items changed.items key name n is same free in
    (was, h n ∙ ap (λ (b : Bool). cond b (change (document_of w.documents n)) (document_of w.documents n)) other))

pub kept_same : (w : Workspace) (ds : Documents) (changed : Vec (String Global) Global) (key : String Global) (name : List ℕ) {ordered : AreAscending (sources_of w.judged.items)}
    → changed.items ≡ w.changed.items ++ key ∷ [] → string_bytes key ≡ name → AreSame w.documents ds → IsKept w → IsKept (record w { documents = ds; changed = changed; ordered = ordered })
kept_same w ds changed key name is same h k =
    kept_by w ds changed k (λ n free. let (was, other) = one_more w.changed.items changed.items key name n is same free in (was, h n))

-- ---- documents that were read

pub kept_read : (w u : Workspace) → IsKept w → u.encoding ≡ w.encoding → StayKept w.judged.items u.judged.items
    → ((n : List ℕ) → is_among n (map string_bytes u.changed.items) ≡ false → text_named n (sources_of u.judged.items) ≡ unwrap_or (text_of (document_of u.documents n)) [])
    → IsKept u
kept_read w u k same stay texts = record {
  whole = stay.whole k.whole;
  ordered = stay.ordered k.ordered;
  current = stay.current u.encoding k.whole (subst (λ e. AreCurrent e w.judged.items) (sym same) k.current);
  texts = texts;
}

-- the text of each name, among those that changed or not
pub each_text : (changed : List (List ℕ)) (text before now : List ℕ → List ℕ)
    → ((n : List ℕ) → is_among n changed ≡ false → before n ≡ text n) → ((n : List ℕ) → is_among n changed ≡ false → now n ≡ before n) → ((n : List ℕ) → is_among n changed ≡ true → now n ≡ text n)
    → (n : List ℕ) → now n ≡ text n
each_text changed text before now kept stays read n = by_test (is_among n changed) refl
  where
    by_test : (b : Bool) → is_among n changed ≡ b → now n ≡ text n
    by_test true e = read n e
    by_test false e = stays n e ∙ kept n e

-- where no more than the documents was read
module _ (w : Workspace) (now : Vec Judged Global) (k : IsKept w) (stay : StayKept w.judged.items now.items)
    (others : (n : List ℕ) → is_among n (map string_bytes w.changed.items) ≡ false → text_named n (sources_of now.items) ≡ text_named n (sources_of w.judged.items)) where
  pub kept_so_far : {ordered : AreAscending (sources_of now.items)} → IsKept (record w { judged = now; ordered = ordered })
  kept_so_far {ordered} = kept_read w (record w { judged = now; ordered = ordered }) k refl stay (λ n free. others n free ∙ k.texts n free)

  pub kept_after : {ordered : AreAscending (sources_of now.items)} (changed : Vec (String Global) Global)
      → ((n : List ℕ) → is_among n (map string_bytes w.changed.items) ≡ true → text_named n (sources_of now.items) ≡ unwrap_or (text_of (document_of w.documents n)) [])
      → IsKept (record w { changed = changed; judged = now; ordered = ordered })
  kept_after {ordered} changed read =
      kept_read w (record w { changed = changed; judged = now; ordered = ordered }) k refl stay
      (λ n free. each_text (map string_bytes w.changed.items) (λ m. unwrap_or (text_of (document_of w.documents m)) []) (λ m. text_named m (sources_of w.judged.items)) (λ m. text_named m (sources_of now.items))
      k.texts others read n)

-- ---- all was read

pub are_read : (w : Workspace) → IsKept w → w.changed.items ≡ [] → AreRead w
are_read w k none = record {
  sources = sources_of w.judged.items;
  are = record { ascending = k.ordered; texts = λ n. k.texts n (ap (λ names. is_among n (map string_bytes names)) none) };
  templates = templates_of w.judged.items;
  read = all_read w.judged.items k.whole;
  definitions = λ n. refl;
  texts = refl;
  components = refl;
  parameters = λ n. refl;
  there = ap (files_by w.documents) (names_are w.judged.items);
  judgements = λ n j is. is;
  unknown = λ r n. refl;
  named = λ s fits. named_by_fits w.encoding (sources_of w.judged.items) w.documents w.judged.items s k.ordered fits;
}

-- whether a file is there, by the text that is found
some_text : (o : Option (Bor (List ℕ))) → is_some (option_map (λ t. t.now) o) ≡ is_some o
some_text None = refl
some_text (Some t) = refl

pub is_there : (ds : Documents) (file name : List ℕ) (text : Option (Bor (List ℕ))) (b : Bool) → name ≡ file → option_map (λ t. t.now) text ≡ text_of (document_of ds name) → b ≡ is_some text
    → is_some (text_of (document_of ds file)) ≡ b
is_there ds file name text b same is tests =
    ap (λ n. is_some (text_of (document_of ds n))) (sym same) ∙ ap is_some (sym is) ∙ some_text text ∙ sym tests

-- ---- all was reported

-- of what is not among the names nothing was reported
not_here : (here : Bool) (one more : List DiagnosticVal) (rest : Bool) → (if here then true else rest) ≡ false → (rest ≡ false → more ≡ []) → cond here one more ≡ []
not_here true one more rest free h = absurd (false_true (sym free))
not_here false one more rest free h = h free

unreported : (n : List ℕ) (js : List Judged) → is_among n (map (λ s. s.name) (sources_of js)) ≡ false → reported_named n js ≡ []
unreported n [] free = refl
unreported n (j ∷ js) free =
    not_here (bytes_eq (string_bytes j.template.file) n) (reported_of j) (reported_named n js) (is_among n (map (λ s. s.name) (sources_of js))) free (unreported n js)

-- what was reported is found again in the texts that were read
pub reported_fresh : (e : Encoding) (js now : List Judged) (news : List News) → now ≡ reported_each js news → AllWhole js → AreAscending (sources_of js) → AreCurrent e js → AreNews e js news
    → AreFresh e (sources_of js) (λ n. reported_named n now)
reported_fresh e js now news is whole ordered current are =
    subst (λ (xs : List Judged). AreFresh e (sources_of js) (λ n. reported_named n xs)) (sym is)
    (subst (λ (ss : List Source). AreFresh e ss (λ n. reported_named n (reported_each js news))) (reported_sources js news)
    (all_fresh e (reported_each js news) (reported_whole js news whole) (subst AreAscending (sym (reported_sources js news)) ordered) (all_reported e js news current are)))

is_settled : (w : Workspace) (js : List Judged) (news : List News) → w.judged.items ≡ reported_each js news → AllWhole js → AreAscending (sources_of js) → AreCurrent w.encoding js → AreNews w.encoding js news
    → ((n : List ℕ) → text_named n (sources_of js) ≡ unwrap_or (text_of (document_of w.documents n)) []) → IsSettled w
is_settled w js news is whole ordered current are texts = record {
  sources = sources_of js;
  are = record { ascending = ordered; texts = texts };
  fresh = reported_fresh w.encoding js w.judged.items news is whole ordered current are;
  others = λ n free. unreported n w.judged.items (subst (λ (ss : List Source). is_among n (map (λ s. s.name) ss) ≡ false) (sym (ap sources_of is ∙ reported_sources js news)) free);
}

pub kept_settled : (w : Workspace) (js : List Judged) (news : List News) → w.judged.items ≡ reported_each js news → AllWhole js → AreAscending (sources_of js) → AreCurrent w.encoding js → AreNews w.encoding js news
    → ((n : List ℕ) → is_among n (map string_bytes w.changed.items) ≡ false → text_named n (sources_of js) ≡ unwrap_or (text_of (document_of w.documents n)) []) → IsKept w
kept_settled w js news is whole ordered current are texts = record {
  whole = subst AllWhole (sym is) (reported_whole js news whole);
  ordered = still_ordered js w.judged.items news is ordered;
  current = subst (AreCurrent w.encoding) (sym is) (now_current w.encoding js news current are);
  texts = λ n free. ap (λ (xs : List Judged). text_named n (sources_of xs)) is ∙ ap (text_named n) (reported_sources js news) ∙ texts n free;
}

-- as a call answered that changes a document, or leaves all after an allocation failure
pub kept_either : {X E : Type 0} (r : Result X E) (w : Workspace) (ds : Documents) (changed : Vec (String Global) Global) (key : String Global) (name : List ℕ) (change : DocumentVal → DocumentVal) {ordered : AreAscending (sources_of w.judged.items)}
    → changed.items ≡ w.changed.items ++ key ∷ [] → string_bytes key ≡ name → OnOk r (IsChangedAt name change w.documents ds) → OnErr r (AreSame w.documents ds) → IsKept w
    → IsKept (record w { documents = ds; changed = changed; ordered = ordered })
kept_either (Ok x) w ds changed key name change is same ok err k = kept_changed w ds changed key name change is same ok k
kept_either (Err e) w ds changed key name change is same ok err k = kept_same w ds changed key name is same err k

-- ---- documents that were read, and reported about

pub same_sources : (js now : List Judged) (news : List News) → now ≡ reported_each js news → sources_of now ≡ sources_of js
same_sources js now news is = ap sources_of is ∙ reported_sources js news

pub same_templates : (js now : List Judged) (news : List News) → now ≡ reported_each js news → templates_of now ≡ templates_of js
same_templates js now news is = ap templates_of is ∙ reported_templates js news

pub still_kept : (w : Workspace) (now : Vec Judged Global) (news : List News) → IsKept w → (AllWhole w.judged.items → AreNews w.encoding w.judged.items news)
    → now.items ≡ reported_each w.judged.items news → (ordered : AreAscending (sources_of now.items)) → IsKept (record w { judged = now; ordered = ordered })
still_kept w now news k are is ordered =
    kept_settled (record w { judged = now; ordered = ordered }) w.judged.items news is k.whole k.ordered k.current (are k.whole) k.texts

module _ (w : Workspace) (now : Vec Judged Global) (news : List News) (k : IsKept w) (read : AreRead w)
    (are : AllWhole w.judged.items → AreNews w.encoding w.judged.items news) (is : now.items ≡ reported_each w.judged.items news) (ordered : AreAscending (sources_of now.items)) where
  abbrev settled : Workspace
  settled = record w { judged = now; ordered = ordered }

  texts : (n : List ℕ) → text_named n (sources_of w.judged.items) ≡ unwrap_or (text_of (document_of w.documents n)) []
  texts n = ap (text_named n) read.texts ∙ read.are.texts n

  pub read_settled : IsSettled settled
  read_settled = is_settled settled w.judged.items news is k.whole k.ordered k.current (are k.whole) texts

  sources_are : sources_of now.items ≡ sources_of w.judged.items
  sources_are = same_sources w.judged.items now.items news is

  templates_are : templates_of now.items ≡ templates_of w.judged.items
  templates_are = same_templates w.judged.items now.items news is

  -- what is given by the documents is what was
  pub read_still : AreRead settled
  read_still = record {
    sources = read.sources;
    are = read.are;
    templates = read.templates;
    read = read.read;
    definitions = λ n.
        ap (λ ss. definition_by w.encoding ss (templates_of now.items) n) sources_are
        ∙ ap (λ ts. definition_by w.encoding (sources_of w.judged.items) ts n) templates_are
        ∙ read.definitions n;
    texts = sources_are ∙ read.texts;
    components = ap components_by templates_are ∙ read.components;
    parameters = λ n. ap (λ ts. parameters_by ts n) templates_are ∙ read.parameters n;
    there =
        ap (files_by w.documents) (names_are now.items ∙ ap (map (λ (s : Source). s.name)) sources_are ∙ sym (names_are w.judged.items)) ∙ read.there;
    judgements = λ n j is. read.judgements n j
        (subst (λ ss. IsJudgementIfAny ss (templates_of w.judged.items) n j) sources_are
        (subst (λ ts. IsJudgementIfAny (sources_of now.items) ts n j) templates_are is));
    unknown = λ r n.
        ap (λ ss. unknown_by w.encoding ss (templates_of now.items) r n) sources_are
        ∙ ap (λ ts. unknown_by w.encoding (sources_of w.judged.items) ts r n) templates_are
        ∙ read.unknown r n;
    named = λ s fits.
        subst (AreNamed w.encoding read.sources (templates_below s.root w.documents read.templates) s.root s.others)
        (λ i. named_by w.encoding (sym sources_are i) (sym templates_are i) s)
        (read.named s (subst (λ ts. FitsTemplates s w.documents ts) templates_are fits));
  }
