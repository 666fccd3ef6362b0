-- What is found of names in a document, by what is kept of its site.
use Rattle.std.proofs.Common.{◌≡◌, ◌∙◌, ◌∷◌, ℕ, zero, suc, List, [], length, get_or, map, false, cond, Option, None, Some, option_map, inl, inr, refl, sym, ap, subst, arith}
use Rattle.std.specs.Prelude.{slice_get}
use Rattle.std.specs.Cmp.Lexicographic.{slice_cmp}
use Rattle.std.specs.List.{Contains, find, list_any}
use Rattle.std.specs.Option.{option_map_or}
use Rattle.std.specs.Ordering.{nat_cmp}
use Rattle.std.specs.Str.{bytes_eq}
use Rattle.std.specs.declared.cmp.Ordering.TheVariants.{Less}
use Rattle.std.proofs.lemmas.Option.{get_or_from_slice_get, slice_get-map, slice_get_within}
use Rattle.tera_templates.specs.declared.templates.Template.{Template}
use Rattle.tera_site.specs.Kept.{KeptVal, around_by, is_one_of, on_page}
use Rattle.tera_site.specs.Pages.{page_of}
use Rattle.tera_site.specs.Sites.{AroundVal, IsSiteOf}
use Rattle.tera_site.proofs.PageAgreement.{due_on_page}
use Rattle.text_edits.specs.declared.documents.Documents.{Documents}
use Rattle.text_edits.specs.declared.positions.Encoding.{Encoding}
use Rattle.tera_workspace.specs.Diagnostics.{diagnostic_of}
use Rattle.tera_workspace.specs.Kept.{IsNumbered, NoneBefore, sources_of, templates_of}
use Rattle.tera_workspace.specs.SiteValues.{AroundFile, KeptSiteVal}
use Rattle.tera_workspace.specs.Sites.{AreNamed, FitsTemplates, Said, around_named, file_of, is_in, is_of_site, name_below, named_at, named_by, named_in, names_below, names_said, said_by, templates_below}
use Rattle.tera_workspace.specs.Sources.{AreAscending, AreInOrder, Source, text_named}
use Rattle.tera_workspace.specs.Unregistered.{is_of_file}
use Rattle.tera_workspace.specs.declared.judged.Judged.{Judged}
use Rattle.tera_workspace.proofs.ContainLemmas.{in_turn, in_filter}
use Rattle.tera_workspace.proofs.NumberLemmas.{text_numbered}
use Rattle.tera_workspace.proofs.OrderLemmas.{IsBefore, in_order_filter, less_apart, same_text}
use Rattle.tera_workspace.proofs.PlaceLemmas.{first_false, second_false}
use Rattle.tera_workspace.proofs.UnregisteredLemmas.{template_numbered, template_nowhere}

-- ---- in the document of a name

pub named_nowhere : (e : Encoding) (ss : List Source) (ts : List Template) (s : KeptSiteVal) (name : List ℕ) → around_named name s.documents ≡ None → named_by e ss ts s name ≡ []
named_nowhere e ss ts s name none = ap (named_at e ss ts name) none

pub named_unread : (e : Encoding) (s : KeptSiteVal) (name : List ℕ) (js : List Judged) (k : KeptVal) → around_named name s.documents ≡ Some k → NoneBefore name js (length js)
    → named_by e (sources_of js) (templates_of js) s name ≡ []
named_unread e s name js k around none =
    ap (named_at e (sources_of js) (templates_of js) name) around
    ∙ ap (λ (o : Option Template). option_map_or (named_in e (sources_of js) (around_by k) (text_named name (sources_of js))) o []) (template_nowhere name js none)

pub named_numbered : (e : Encoding) (s : KeptSiteVal) (name : List ℕ) (js : List Judged) (k : KeptVal) (number : ℕ) (d : Judged) → around_named name s.documents ≡ Some k → IsNumbered name js number
    → named_by e (sources_of js) (templates_of js) s name ≡ named_in e (sources_of js) (around_by k) (get_or js number d).text (get_or js number d).template
named_numbered e s name js k number d around h =
    ap (named_at e (sources_of js) (templates_of js) name) around
    ∙ ap (λ (o : Option Template). option_map_or (named_in e (sources_of js) (around_by k) (text_named name (sources_of js))) o []) (template_numbered name js number d h)
    ∙ ap (λ text. named_in e (sources_of js) (around_by k) text (get_or js number d).template) (text_numbered name js number d h)

-- ---- templates in the order of their files

abbrev files_of : List Template → List (List ℕ)
files_of ts = map file_of ts

template_files : (js : List Judged) → files_of (templates_of js) ≡ map (λ (s : Source). s.name) (sources_of js)
template_files [] = refl
template_files (j ∷ js) = ap (λ ns. file_of j.template ∷ ns) (template_files js)

none_some : (t : Template) → None ≡ Some t → ⊥
none_some t e = cc

same_some : (t u : Template) → Some t ≡ Some u → t ≡ u
same_some t u e = cc

later_get : (n : List ℕ) (ts : List Template) (k : ℕ) (t : Template) → IsBefore n (files_of ts) → slice_get ts k ≡ Some t → slice_cmp nat_cmp n (file_of t) ≡ Less
later_get n [] k t before is = absurd (none_some t is)
later_get n (x ∷ ts) zero t before is = subst (λ y. slice_cmp nat_cmp n (file_of y) ≡ Less) (same_some x t is) before.0
later_get n (x ∷ ts) (suc k) t before is = later_get n ts k t before.1 is

later_in : (n : List ℕ) (ts : List Template) (t : Template) → IsBefore n (files_of ts) → Contains ts t → slice_cmp nat_cmp n (file_of t) ≡ Less
later_in n [] t before (k, within, is) = absurd (omega (arith, within))
later_in n (x ∷ ts) t before has = elim (in_turn x ts t has) [
  | inl same ↦ subst (λ y. slice_cmp nat_cmp n (file_of y) ≡ Less) same before.0
  | inr more ↦ later_in n ts t before.1 more
]

-- the first in the file of one is this one
found_there : (ts : List Template) (t : Template) → AreInOrder (files_of ts) → Contains ts t → find (is_of_file (file_of t)) ts ≡ Some t
found_there [] t ordered (k, within, is) = absurd (omega (arith, within))
found_there (x ∷ ts) t ordered has = elim (in_turn x ts t has) [
  | inl same ↦
      ap (λ b. cond b (Some x) (find (is_of_file (file_of t)) ts)) (ap (λ y. bytes_eq (file_of x) (file_of y)) (sym same) ∙ same_text (file_of x)) ∙ ap Some same
  | inr more ↦
      ap (λ b. cond b (Some x) (find (is_of_file (file_of t)) ts)) (less_apart (file_of x) (file_of t) (later_in (file_of x) ts t ordered.0 more))
      ∙ found_there ts t ordered.1 more
]

-- ---- what is kept under the files of templates

abbrev kept_names : List AroundFile → List (List ℕ)
kept_names ds = map (λ d. d.file) ds

heads : (a b : List ℕ) (more rest : List (List ℕ)) → a ∷ more ≡ b ∷ rest → a ≡ b
heads a b more rest e = cc

tails : (a b : List ℕ) (more rest : List (List ℕ)) → a ∷ more ≡ b ∷ rest → more ≡ rest
tails a b more rest e = cc

no_file : (a : List ℕ) (more : List (List ℕ)) → [] ≡ a ∷ more → ⊥
no_file a more e = cc

record IsKeptAt (t : Template) (number : ℕ) (ds : List AroundFile) : Type 0 where
  kept : AroundFile
  here : slice_get ds number ≡ Some kept
  named : around_named (file_of t) ds ≡ Some kept.around

kept_at : (ts : List Template) (ds : List AroundFile) (number : ℕ) (t : Template) → kept_names ds ≡ files_of ts → AreInOrder (files_of ts) → slice_get ts number ≡ Some t → IsKeptAt t number ds
kept_at [] ds number t same ordered is = absurd (none_some t is)
kept_at (x ∷ ts) [] number t same ordered is = absurd (no_file (file_of x) (files_of ts) same)
kept_at (x ∷ ts) (d ∷ ds) zero t same ordered is =
    let file : d.file ≡ file_of t = heads d.file (file_of x) (kept_names ds) (files_of ts) same ∙ ap file_of (same_some x t is) in
    record {
      kept = d;
      here = refl;
      named = ap (λ b. option_map (λ (y : AroundFile). y.around) (cond b (Some d) (find (is_in (file_of t)) ds)))
          (ap (λ n. bytes_eq n (file_of t)) file ∙ same_text (file_of t));
    }
kept_at (x ∷ ts) (d ∷ ds) (suc number) t same ordered is =
    let rest = kept_at ts ds number t (tails d.file (file_of x) (kept_names ds) (files_of ts) same) ordered.1 is in
    let apart : bytes_eq d.file (file_of t) ≡ false =
    ap (λ n. bytes_eq n (file_of t)) (heads d.file (file_of x) (kept_names ds) (files_of ts) same) ∙ less_apart (file_of x) (file_of t) (later_get (file_of x) ts number t ordered.0 is) in
    record {
      kept = rest.kept;
      here = rest.here;
      named = ap (λ b. option_map (λ (y : AroundFile). y.around) (cond b (Some d) (find (is_in (file_of t)) ds))) apart ∙ rest.named;
    }

none_kept : (n : List ℕ) (ts : List Template) (ds : List AroundFile) → kept_names ds ≡ files_of ts → list_any (is_of_file n) ts ≡ false → around_named n ds ≡ None
none_kept n ts [] same none = refl
none_kept n [] (d ∷ ds) same none = absurd (no_file d.file (kept_names ds) (sym same))
none_kept n (x ∷ ts) (d ∷ ds) same none =
    ap (λ b. option_map (λ (y : AroundFile). y.around) (cond b (Some d) (find (is_in n) ds)))
    (ap (λ m. bytes_eq m n) (heads d.file (file_of x) (kept_names ds) (files_of ts) same) ∙ first_false (is_of_file n x) (list_any (is_of_file n) ts) none)
    ∙ none_kept n ts ds (tails d.file (file_of x) (kept_names ds) (files_of ts) same) (second_false (is_of_file n x) (list_any (is_of_file n) ts) none)

-- ---- what templates say

said_names : (root : List ℕ) (ts : List Template) → names_said root (map said_by ts) ≡ names_below root ts
said_names root [] = refl
said_names root (t ∷ ts) = ap (λ ns. name_below root (file_of t) ∷ ns) (said_names root ts)

said_pages : (ts : List Template) → map (λ (x : Said). x.page) (map said_by ts) ≡ map page_of ts
said_pages [] = refl
said_pages (t ∷ ts) = ap (λ ps. page_of t ∷ ps) (said_pages ts)

said_files : (ts : List Template) → map (λ (x : Said). x.file) (map said_by ts) ≡ files_of ts
said_files [] = refl
said_files (t ∷ ts) = ap (λ ns. file_of t ∷ ns) (said_files ts)

-- ---- what is found by a site that fits the documents

in_list : (ts : List Template) (number : ℕ) (t : Template) → slice_get ts number ≡ Some t → Contains ts t
in_list ts number t is = (number, slice_get_within ts number t is, get_or_from_slice_get ts number t t is)

pub named_by_fits : (e : Encoding) (ss : List Source) (ds : Documents) (js : List Judged) (s : KeptSiteVal) → AreAscending (sources_of js) → FitsTemplates s ds (templates_of js)
    → AreNamed e ss (templates_below s.root ds (templates_of js)) s.root s.others (named_by e ss (templates_of js) s)
named_by_fits e ss ds js s ordered fits =
    let all = templates_of js in
    let ts = templates_below s.root ds all in
    let all_ordered : AreInOrder (files_of all) = subst AreInOrder (sym (template_files js)) ordered in
    let ts_ordered : AreInOrder (files_of ts) = in_order_filter file_of (is_of_site s.root ds) all all_ordered in
    let files : kept_names s.documents ≡ files_of ts = fits.files ∙ said_files ts in
    record {
      around = fits.around;
      site =
          subst (λ ns. IsSiteOf ns (is_one_of s.others) (map page_of ts) fits.around) (said_names s.root ts)
          (subst (λ ps. IsSiteOf (names_said s.root (map said_by ts)) (is_one_of s.others) ps fits.around) (said_pages ts) fits.site);
      each = λ number t is.
          let at = kept_at ts s.documents number t files ts_ordered is in
          let there = in_filter (is_of_site s.root ds) all t (in_list ts number t is) in
          let text = text_named (file_of t) ss in
          let by : around_by at.kept.around ≡ on_page (page_of t) (fits.around number) =
          fits.each number (said_by t) at.kept (slice_get-map said_by ts number ∙ ap (option_map said_by) is) at.here in
          ap (named_at e ss all (file_of t)) at.named
          ∙ ap (λ (o : Option Template). option_map_or (named_in e ss (around_by at.kept.around) text) o []) (found_there all t all_ordered there.0)
          ∙ ap (λ (a : AroundVal). named_in e ss a text t) by
          ∙ ap (map (diagnostic_of e ss text)) (due_on_page (fits.around number) t);
      rest = λ n none. named_nowhere e ss all s n (none_kept n ts s.documents files none);
    }
