-- What is kept of a site: what is around its documents, and the names that are lacking.
use Rattle.std.proofs.Common.{◌≡◌, ◌∙◌, ◌∷◌, ◌++◌, ◌+◌, ◌<◌, ◌≤◌, ◌⊎◌, inl, inr, ℕ, zero, suc, List, [], length, get_or, take, map, Bool, true, false, true≢false, cond, not, Option, None, Some, Bor, String, Global, string_bytes, option_map, append_assoc, refl, sym, ap, subst, arith}
use Rattle.std.specs.Prelude.{slice_get}
use Rattle.std.specs.BTreeSet.{BTreeSet, contains_text}
use Rattle.std.specs.List.{filter, find, flat_map}
use Rattle.std.specs.Cmp.Lexicographic.{pointwise}
use Rattle.std.specs.Prelude.{◌&&◌}
use Rattle.std.specs.Str.{bytes_eq}
use Rattle.std.proofs.lemmas.List.{append-nil, get_or-map, length-map, length_push, map_push, take_all, take_more}
use Rattle.std.proofs.lemmas.List.Concat.{flat_map-append}
use Rattle.std.proofs.lemmas.List.Elements.{filter-append}
use Rattle.std.proofs.lemmas.Option.{slice_get-map}
use Rattle.std.proofs.lemmas.Slice.Eq.{bytes_eq-Decides}
use Rattle.tera_ast.specs.View.{name_view}
use Rattle.tera_site.specs.Kept.{around_by, is_one_of, kept_around, kept_page, kept_view, names_in, on_page}
use Rattle.tera_site.specs.Pages.{PageVal}
use Rattle.tera_site.specs.Sites.{IsSiteOf, used_names}
use Rattle.tera_site.specs.Views.{around_in, names_of, page_view}
use Rattle.tera_site.specs.declared.pages.Page.{Page}
use Rattle.tera_site.specs.declared.site.Site.{Site}
use Rattle.tera_site.proofs.CountLemmas.{names_more}
use Rattle.tera_site.proofs.KeptLemmas.{one_of}
use Rattle.tera_workspace.specs.Definitions.{AreRead}
use Rattle.tera_workspace.specs.Kept.{name_of}
use Rattle.tera_workspace.specs.KeptSites.{IsKeptSite, around_file, documents_below, lacks_name, names_before, said_in, said_of, site_view}
use Rattle.tera_workspace.specs.Near.{UseSame}
use Rattle.tera_workspace.specs.SiteValues.{AroundFile, KeptSiteVal}
use Rattle.tera_workspace.specs.Sites.{FitsWorkspace, IsKeptOf, Said, around_named, is_in, is_lacking, name_below, names_said}
use Rattle.tera_workspace.specs.Sources.{AreInOrder}
use Rattle.tera_workspace.specs.Workspaces.{IsKept}
use Rattle.tera_workspace.specs.declared.judged.Judged.{Judged}
use Rattle.tera_workspace.specs.declared.sites.KeptDocument.{KeptDocument}
use Rattle.tera_workspace.specs.declared.sites.KeptSite.TheInside.{Inside}
use Rattle.tera_workspace.specs.declared.workspace.Workspace.{Workspace}
use Rattle.tera_workspace.proofs.BelowLemmas.{kept_files, said_below}
use Rattle.tera_workspace.proofs.OtherNames.{others_kept}

-- ---- what the documents say

abbrev pub now_of : List (Bor Judged) → List Judged
now_of below = map (λ j. j.now) below

abbrev pub pages_said : List Said → List PageVal
pages_said saids = map (λ x. x.page) saids

names_now : (root : List ℕ) (below : List (Bor Judged)) → names_said root (map said_in (now_of below)) ≡ map (λ j. name_below root (name_of j.now)) below
names_now root [] = refl
names_now root (j ∷ below) = ap (λ ns. name_below root (name_of j.now) ∷ ns) (names_now root below)

pages_now : (below : List (Bor Judged)) → pages_said (map said_in (now_of below)) ≡ map (λ j. kept_page j.now.page) below
pages_now [] = refl
pages_now (j ∷ below) = ap (λ ps. kept_page j.now.page ∷ ps) (pages_now below)

-- ---- the names that are lacking

same_lacking : (names : List (Option (List ℕ))) (others : List (List ℕ)) (pages : List PageVal) (site : Site) → IsSiteOf names (is_one_of others) pages (around_in site)
    → filter (lacks_name site) (flat_map used_names pages) ≡ filter (is_lacking names others) (flat_map used_names pages)
same_lacking names others [] site is = refl
same_lacking names others (p ∷ pages) site is =
    ap (λ (test : List ℕ → Bool). filter test (flat_map used_names (p ∷ pages))) (λ i. λ n. not ((is 0 p refl).has n i))

-- ---- what is around each document

none_some : {X : Type 0} (x : X) → None ≡ Some x → ⊥
none_some x e = cc

same_some : {X : Type 0} (x y : X) → Some x ≡ Some y → x ≡ y
same_some x y e = cc

module _ (site : Site) (kept : List KeptDocument) (saids : List Said) (said : map said_of kept ≡ saids)
    (around : (number : ℕ) (d : KeptDocument) → slice_get kept number ≡ Some d → kept_around d.around ≡ on_page (kept_page d.page) (around_in site number)) where
  each_around : (number : ℕ) (x : Said) (d : AroundFile) → slice_get saids number ≡ Some x → slice_get (map around_file kept) number ≡ Some d
      → around_by d.around ≡ on_page x.page (around_in site number)
  each_around number x d here there = by (slice_get kept number) refl
    where
      by : (o : Option KeptDocument) → slice_get kept number ≡ o → around_by d.around ≡ on_page x.page (around_in site number)
      by None is = absurd (none_some d (sym (slice_get-map around_file kept number ∙ ap (option_map around_file) is) ∙ there))
      by (Some k) is =
          let this : around_file k ≡ d = same_some (around_file k) d (sym (slice_get-map around_file kept number ∙ ap (option_map around_file) is) ∙ there) in
          let that : said_of k ≡ x = same_some (said_of k) x (sym (slice_get-map said_of kept number ∙ ap (option_map said_of) is) ∙ (ap (λ xs. slice_get xs number) said ∙ here)) in
          ap (λ (y : AroundFile). around_by y.around) (sym this) ∙ around number k is ∙ ap (λ (y : Said). on_page y.page (around_in site number)) that

-- ---- all of it

pub kept_by_site : (root : List ℕ) (others : BTreeSet (String Global)) (below : List (Bor Judged)) (names : List (Option (String Global))) (pages : List Page) (site : Site) (kept : List KeptDocument) (lacking : List (String Global))
    → map name_view names ≡ map (λ j. name_below root (name_of j.now)) below
    → map page_view pages ≡ map (λ j. kept_page j.now.page) below
    → IsSiteOf (map name_view names) (contains_text others) (map page_view pages) (around_in site)
    → map said_of kept ≡ map said_in (now_of below)
    → ((number : ℕ) (d : KeptDocument) → slice_get kept number ≡ Some d → kept_around d.around ≡ on_page (kept_page d.page) (around_in site number))
    → map string_bytes lacking ≡ filter (lacks_name site) (flat_map used_names (map page_view pages))
    → IsKeptOf (record { root = root; others = names_in others; lacking = map string_bytes lacking; documents = map around_file kept }) (map said_in (now_of below))
kept_by_site root others below names pages site kept lacking named paged is said around lacks =
    let saids = map said_in (now_of below) in
    let same_names : map name_view names ≡ names_said root saids = named ∙ sym (names_now root below) in
    let same_pages : map page_view pages ≡ pages_said saids = paged ∙ sym (pages_now below) in
    let same_others : contains_text others ≡ is_one_of (names_in others) = λ i. λ n. one_of others n i in
    let is_site : IsSiteOf (names_said root saids) (is_one_of (names_in others)) (pages_said saids) (around_in site) =
    subst (λ ns. IsSiteOf ns (is_one_of (names_in others)) (pages_said saids) (around_in site)) same_names
    (subst (λ ps. IsSiteOf (map name_view names) (is_one_of (names_in others)) ps (around_in site)) same_pages
    (subst (λ test. IsSiteOf (map name_view names) test (map page_view pages) (around_in site)) same_others is)) in
    record {
      around = around_in site;
      site = is_site;
      files = kept_files kept ∙ ap (map (λ (x : Said). x.file)) said;
      each = each_around site kept saids said around;
      lacking =
          lacks ∙ ap (λ ps. filter (lacks_name site) (flat_map used_names ps)) same_pages
          ∙ same_lacking (names_said root saids) (names_in others) (pages_said saids) site is_site;
    }

-- the same with a root that is this one
pub at_root : (root here : List ℕ) (others lacking : List (List ℕ)) (documents : List AroundFile) (saids : List Said) → root ≡ here
    → IsKeptOf (record { root = root; others = others; lacking = lacking; documents = documents }) saids
    → IsKeptOf (record { root = here; others = others; lacking = lacking; documents = documents }) saids
at_root root here others lacking documents saids same kept = subst (λ r. IsKeptOf (record { root = r; others = others; lacking = lacking; documents = documents }) saids) same kept

-- what is kept by these documents fits the workspace that has them
pub now_fits : (s : KeptSiteVal) (w : Workspace) (below : List Judged) → below ≡ documents_below s.root w.documents w.judged.items → IsKeptOf s (map said_in below) → IsKept w → AreRead w → FitsWorkspace s w
now_fits s w below is of_these kept read = subst (IsKeptOf s) (ap (map said_in) is ∙ said_below w s.root kept read) of_these

pub still_fits : (s : KeptSiteVal) (w : Workspace) (kept : List KeptDocument) (below : List Judged) → below ≡ documents_below s.root w.documents w.judged.items → map said_of kept ≡ map said_in below
    → IsKeptOf s (map said_of kept) → IsKept w → AreRead w → FitsWorkspace s w
still_fits s w kept below is said of_these = now_fits s w below is (subst (IsKeptOf s) said of_these)

-- ---- documents so far

pub record AreKeptSoFar (site : Site) (below : List (Bor Judged)) (number : ℕ) (kept : List KeptDocument) : Type 0 where
  pub as_many : length kept ≡ number
  pub said : map said_of kept ≡ map said_in (now_of (take number below))
  pub around : (n : ℕ) (d : KeptDocument) → slice_get kept n ≡ Some d → kept_around d.around ≡ on_page (kept_page d.page) (around_in site n)

get_before : {X : Type 0} (xs : List X) (x : X) (n : ℕ) (y : X) → slice_get (xs ++ x ∷ []) n ≡ Some y → (slice_get xs n ≡ Some y) ⊎ ((n ≡ length xs) × (x ≡ y))
get_before [] x zero y is = inr (refl, same_some x y is)
get_before [] x (suc n) y is = absurd (none_some y is)
get_before (z ∷ xs) x zero y is = inl is
get_before (z ∷ xs) x (suc n) y is = elim (get_before xs x n y is) [
  | inl here ↦ inl here
  | inr last ↦ inr (ap suc last.0, last.1)
]

pub none_kept_yet : (site : Site) (below : List (Bor Judged)) (kept : List KeptDocument) → kept ≡ [] → AreKeptSoFar site below 0 kept
none_kept_yet site below kept none = subst (AreKeptSoFar site below 0) (sym none) (record {
  as_many = refl;
  said = refl;
  around = λ n d is. absurd (none_some d is);
})

pub one_more_kept : (site : Site) (below : List (Bor Judged)) (number : ℕ) (kept now : List KeptDocument) (d : KeptDocument) (b : Bor Judged)
    → number < length below → get_or below number b ≡ b → now ≡ kept ++ d ∷ []
    → string_bytes d.file ≡ name_of b.now → kept_page d.page ≡ kept_page b.now.page → kept_around d.around ≡ on_page (kept_page d.page) (around_in site number)
    → AreKeptSoFar site below number kept → AreKeptSoFar site below (number + 1) now
one_more_kept site below number kept now d b within is put file page around so_far = subst (AreKeptSoFar site below (number + 1)) (sym put) (record {
  as_many = length_push kept d ∙ ap (λ n. n + 1) so_far.as_many;
  said =
      let this : said_of d ≡ said_in b.now = λ i. record { file = file i; page = page i } in
      map_push said_of kept d ∙ (λ i. so_far.said i ++ this i ∷ [])
      ∙ sym (ap (λ (bs : List (Bor Judged)). map said_in (now_of bs)) (take_more below number b within ∙ ap (λ x. take number below ++ x ∷ []) is)
      ∙ ap (map said_in) (map_push (λ (x : Bor Judged). x.now) (take number below) b) ∙ map_push said_in (now_of (take number below)) b.now);
  around = λ n e here. elim (get_before kept d n e here) [
    | inl before ↦ so_far.around n e before
    | inr last ↦
        subst (λ (x : KeptDocument). kept_around x.around ≡ on_page (kept_page x.page) (around_in site n)) last.1
        (around ∙ ap (λ k. on_page (kept_page d.page) (around_in site k)) (sym (last.0 ∙ so_far.as_many)))
  ];
})

-- ---- pages of documents

pub pages_as_many : (pages : List Page) (below : List (Bor Judged)) → map page_view pages ≡ map (λ j. kept_page j.now.page) below → length pages ≡ length below
pages_as_many pages below same = sym (length-map pages page_view) ∙ ap length same ∙ length-map below (λ j. kept_page j.now.page)

pub page_at : (pages : List Page) (below : List (Bor Judged)) (at : ℕ) (p : Page) (b : Bor Judged) → at < length below → p ≡ get_or pages at p → b ≡ get_or below at b
    → map page_view pages ≡ map (λ j. kept_page j.now.page) below → page_view p ≡ kept_page b.now.page
page_at pages below at p b within page_is judged_is same =
    let in_pages : at < length pages = omega (arith, within, pages_as_many pages below same) in
    ap page_view page_is ∙ sym (get_or-map page_view pages at p (page_view p) in_pages)
    ∙ ap (λ ps. get_or ps at (page_view p)) same
    ∙ get_or-map (λ (j : Bor Judged). kept_page j.now.page) below at b (page_view p) within
    ∙ ap (λ (j : Bor Judged). kept_page j.now.page) (sym judged_is)

-- ---- the names that are lacking, one page and one name on

pub lacking_next : (site : Site) (pages : List Page) (at : ℕ) (p : Page) (before after used : List (List ℕ)) → at < length pages → p ≡ get_or pages at p → used ≡ used_names (page_view p)
    → after ≡ before ++ filter (lacks_name site) used → before ≡ filter (lacks_name site) (flat_map used_names (map page_view (take at pages)))
    → after ≡ filter (lacks_name site) (flat_map used_names (map page_view (take (at + 1) pages)))
lacking_next site pages at p before after used within page_is used_is put so_far =
    let done = map page_view (take at pages) in
    let more : map page_view (take (at + 1) pages) ≡ done ++ page_view p ∷ [] =
    ap (map page_view) (take_more pages at p within ∙ ap (λ x. take at pages ++ x ∷ []) (sym page_is)) ∙ map_push page_view (take at pages) p in
    put ∙ (λ i. so_far i ++ filter (lacks_name site) (used_is i))
    ∙ sym (filter-append (lacks_name site) (flat_map used_names done) (used_names (page_view p)))
    ∙ ap (filter (lacks_name site)) (ap (λ ns. flat_map used_names done ++ ns) (sym (append-nil (used_names (page_view p)))) ∙ sym (flat_map-append used_names done (page_view p ∷ [])))
    ∙ sym (ap (λ ps. filter (lacks_name site) (flat_map used_names ps)) more)

pub name_lacking : (site : Site) (start before after : List (List ℕ)) (bs : List (Bor (List ℕ))) (at : ℕ) (b : Bor (List ℕ)) → at < length bs → get_or bs at b ≡ b
    → after ≡ before ++ cond (lacks_name site b.now) (b.now ∷ []) [] → before ≡ start ++ filter (lacks_name site) (names_of (take at bs))
    → after ≡ start ++ filter (lacks_name site) (names_of (take (at + 1) bs))
name_lacking site start before after bs at b within is put so_far =
    let one = cond (lacks_name site b.now) (b.now ∷ []) [] in
    put ∙ ap (λ ns. ns ++ one) so_far ∙ append_assoc start (filter (lacks_name site) (names_of (take at bs))) one
    ∙ ap (λ ns. start ++ ns) (sym (filter-append (lacks_name site) (names_of (take at bs)) (b.now ∷ [])) ∙ ap (filter (lacks_name site)) (sym (names_more bs at b within is)))

-- ---- what is kept under the name of a file

abbrev pub file_of_kept : KeptDocument → List ℕ
file_of_kept d = string_bytes d.file

pub kept_in_order : (kept : List KeptDocument) → map (λ (d : AroundFile). d.file) (map around_file kept) ≡ map file_of_kept kept
kept_in_order [] = refl
kept_in_order (d ∷ kept) = ap (λ ns. file_of_kept d ∷ ns) (kept_in_order kept)

around_first : (name : List ℕ) (kept : List KeptDocument) → around_named name (map around_file kept) ≡ option_map (λ (d : KeptDocument). kept_view d.around) (find (λ d. bytes_eq (file_of_kept d) name) kept)
around_first name [] = refl
around_first name (d ∷ kept) = by (bytes_eq (file_of_kept d) name) (around_first name kept)
  where
    by : (b : Bool) → around_named name (map around_file kept) ≡ option_map (λ (x : KeptDocument). kept_view x.around) (find (λ x. bytes_eq (file_of_kept x) name) kept)
        → option_map (λ (x : AroundFile). x.around) (cond b (Some (around_file d)) (find (is_in name) (map around_file kept)))
        ≡ option_map (λ (x : KeptDocument). kept_view x.around) (cond b (Some d) (find (λ x. bytes_eq (file_of_kept x) name) kept))
    by true rest = refl
    by false rest = rest

pub around_found : (name : List ℕ) (kept : List KeptDocument) (o : Option KeptDocument) → find (λ d. bytes_eq (file_of_kept d) name) kept ≡ o
    → around_named name (map around_file kept) ≡ option_map (λ (d : KeptDocument). kept_view d.around) o
around_found name kept o is = around_first name kept ∙ ap (option_map (λ (d : KeptDocument). kept_view d.around)) is

-- ---- a site as it is kept

-- one that was looked at with other names that its templates do not use
pub same_kept : (s : Inside) → UseSame (names_before s.before s.others) (names_in s.others) (map said_of s.documents.items)
    → IsKeptOf (record (site_view s) { others = names_before s.before s.others }) (map said_of s.documents.items) → IsKeptOf (site_view s) (map said_of s.documents.items)
same_kept s = others_kept (string_bytes s.root) (names_before s.before s.others) (names_in s.others) (map string_bytes s.lacking.items) (map around_file s.documents.items) (map said_of s.documents.items)

-- equal sets have the same names
pub same_names : (xs ys : List (String Global)) → pointwise (λ x y. bytes_eq (string_bytes x) (string_bytes y)) xs ys ≡ true → map string_bytes xs ≡ map string_bytes ys
same_names [] [] h = refl
same_names [] (y ∷ ys) h = absurd (cc)
same_names (x ∷ xs) [] h = absurd (cc)
same_names (x ∷ xs) (y ∷ ys) h = by (bytes_eq (string_bytes x) (string_bytes y)) (bytes_eq-Decides (string_bytes x) (string_bytes y)).0 h (same_names xs ys)
  where
    by : (b : Bool) → (b ≡ true → string_bytes x ≡ string_bytes y) → (b && pointwise (λ x y. bytes_eq (string_bytes x) (string_bytes y)) xs ys) ≡ true
        → (pointwise (λ x y. bytes_eq (string_bytes x) (string_bytes y)) xs ys ≡ true → map string_bytes xs ≡ map string_bytes ys) → map string_bytes (x ∷ xs) ≡ map string_bytes (y ∷ ys)
    by true is e f = λ i. is refl i ∷ f e i
    by false is e f = absurd (true≢false (sym e))
