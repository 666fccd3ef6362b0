-- The documents of a site: they are those whose templates are in it, and they are in order.
use Rattle.std.proofs.Common.{◌≡◌, ◌∙◌, ◌∷◌, ◌||◌, ℕ, List, [], map, Bool, true, false, true≢false, cond, not, Option, None, Some, is_some, unwrap_or, refl, sym, ap, subst}
use Rattle.std.specs.Prelude.{◌&&◌}
use Rattle.std.specs.List.{AllByRecursion}
use Rattle.std.specs.Str.{bytes_eq}
use Rattle.text_edits.specs.Documents.{text_of}
use Rattle.text_edits.specs.Stored.{document_of}
use Rattle.text_edits.specs.declared.documents.Documents.{Documents}
use Rattle.tera_workspace.specs.Definitions.{AreRead}
use Rattle.tera_workspace.specs.Kept.{AllWhole, IsWhole, name_of, sources_of, templates_of}
use Rattle.tera_workspace.specs.KeptSites.{around_file, documents_below, is_below, is_empty, said_in, said_of}
use Rattle.tera_workspace.specs.SiteValues.{AroundFile}
use Rattle.tera_workspace.specs.Sites.{Said, is_of_site, name_below, said_by, templates_below}
use Rattle.tera_workspace.specs.Sources.{AreAscending, AreInOrder, Source, text_named}
use Rattle.tera_workspace.specs.Workspaces.{IsKept}
use Rattle.tera_workspace.specs.declared.judged.Judged.{Judged}
use Rattle.tera_workspace.specs.declared.sites.KeptDocument.{KeptDocument}
use Rattle.tera_workspace.specs.declared.workspace.Workspace.{Workspace}
use Rattle.tera_workspace.proofs.OrderLemmas.{IsBefore, in_order_filter, less_apart, same_text}
use Rattle.tera_workspace.proofs.PlaceLemmas.{false_true}

-- ---- the text of each document is under its own name

own_later : (n text : List ℕ) (ss : List Source) (ks : List Judged) → IsBefore n (map (λ (s : Source). s.name) (sources_of ks))
    → AllByRecursion (λ k. text_named (name_of k) ss ≡ k.text) ks → AllByRecursion (λ k. cond (bytes_eq n (name_of k)) text (text_named (name_of k) ss) ≡ k.text) ks
own_later n text ss [] before own = tt
own_later n text ss (k ∷ ks) before own =
    (ap (λ b. cond b text (text_named (name_of k) ss)) (less_apart n (name_of k) before.0) ∙ own.0, own_later n text ss ks before.1 own.1)

own_texts : (js : List Judged) → AreAscending (sources_of js) → AllByRecursion (λ j. text_named (name_of j) (sources_of js) ≡ j.text) js
own_texts [] ordered = tt
own_texts (j ∷ js) ordered = (
  ap (λ b. cond b j.text (text_named (name_of j) (sources_of js))) (same_text (name_of j)),
  own_later (name_of j) j.text (sources_of js) js ordered.0 (own_texts js ordered.1),
)

-- and is the one that counts
abbrev IsTextIn : Documents → Judged → Type 0
IsTextIn ds j = j.text ≡ unwrap_or (text_of (document_of ds (name_of j))) []

texts_in : (ds : Documents) (ss : List Source) → ((n : List ℕ) → text_named n ss ≡ unwrap_or (text_of (document_of ds n)) [])
    → (js : List Judged) → AllByRecursion (λ j. text_named (name_of j) ss ≡ j.text) js → AllByRecursion (IsTextIn ds) js
texts_in ds ss texts [] own = tt
texts_in ds ss texts (j ∷ js) own = (sym own.0 ∙ texts (name_of j), texts_in ds ss texts js own.1)

-- ---- the documents of a site are those whose templates are in it

or_true : (b : Bool) → (b || true) ≡ true
or_true true = refl
or_true false = refl

there_by : (o : Option (List ℕ)) (text : List ℕ) → text ≡ unwrap_or o [] → (not (is_empty text) || is_some o) ≡ is_some o
there_by None text is = ap (λ t. not (is_empty t) || false) is
there_by (Some t) text is = or_true (not (is_empty text))

below_same : (root : List ℕ) (ds : Documents) (j : Judged) → IsTextIn ds j → is_below root ds j ≡ is_of_site root ds j.template
below_same root ds j is = ap (λ b. is_some (name_below root (name_of j)) && b) (there_by (text_of (document_of ds (name_of j))) j.text is)

said_same : (j : Judged) → IsWhole j → said_in j ≡ said_by j.template
said_same j whole = λ i. record { file = name_of j; page = whole.page i }

saids_same : (root : List ℕ) (ds : Documents) (js : List Judged) → AllByRecursion (IsTextIn ds) js → AllWhole js
    → map said_in (documents_below root ds js) ≡ map said_by (templates_below root ds (templates_of js))
saids_same root ds [] texts whole = refl
saids_same root ds (j ∷ js) texts whole = by (is_below root ds j) (is_of_site root ds j.template) (below_same root ds j texts.0) (saids_same root ds js texts.1 whole.1)
  where
    by : (a b : Bool) → a ≡ b → map said_in (documents_below root ds js) ≡ map said_by (templates_below root ds (templates_of js))
        → map said_in (cond a (j ∷ documents_below root ds js) (documents_below root ds js)) ≡ map said_by (cond b (j.template ∷ templates_below root ds (templates_of js)) (templates_below root ds (templates_of js)))
    by true true e rest = λ i. said_same j whole.0 i ∷ rest i
    by false false e rest = rest
    by true false e rest = absurd (true≢false e)
    by false true e rest = absurd (false_true e)

pub said_below : (w : Workspace) (root : List ℕ) → IsKept w → AreRead w
    → map said_in (documents_below root w.documents w.judged.items) ≡ map said_by (templates_below root w.documents (templates_of w.judged.items))
said_below w root kept read =
    let js = w.judged.items in
    let texts : (n : List ℕ) → text_named n (sources_of js) ≡ unwrap_or (text_of (document_of w.documents n)) [] =
    λ n. ap (text_named n) read.texts ∙ read.are.texts n in
    saids_same root w.documents js (texts_in w.documents (sources_of js) texts js (own_texts js kept.ordered)) kept.whole

-- ---- they are in order

pub names_are : (js : List Judged) → map name_of js ≡ map (λ (s : Source). s.name) (sources_of js)
names_are [] = refl
names_are (j ∷ js) = ap (λ ns. name_of j ∷ ns) (names_are js)

pub kept_files : (kept : List KeptDocument) → map (λ (d : AroundFile). d.file) (map around_file kept) ≡ map (λ (x : Said). x.file) (map said_of kept)
kept_files [] = refl
kept_files (d ∷ kept) = ap (λ ns. (around_file d).file ∷ ns) (kept_files kept)

pub said_files : (js : List Judged) → map (λ (x : Said). x.file) (map said_in js) ≡ map name_of js
said_files [] = refl
said_files (j ∷ js) = ap (λ ns. name_of j ∷ ns) (said_files js)

pub kept_ordered : (root : List ℕ) (ds : Documents) (js below : List Judged) (kept : List KeptDocument) → AreAscending (sources_of js) → below ≡ documents_below root ds js → map said_of kept ≡ map said_in below
    → AreInOrder (map (λ (d : AroundFile). d.file) (map around_file kept))
kept_ordered root ds js below kept ordered is said =
    let files : map (λ (d : AroundFile). d.file) (map around_file kept) ≡ map name_of (documents_below root ds js) =
    kept_files kept ∙ ap (map (λ (x : Said). x.file)) said ∙ said_files below ∙ ap (map name_of) is in
    subst AreInOrder (sym files) (in_order_filter name_of (is_below root ds) js (subst AreInOrder (sym (names_are js)) ordered))
