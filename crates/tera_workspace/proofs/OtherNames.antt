-- What is around the templates of a site where templates of other names are.
use Rattle.std.proofs.Common.{◌≡◌, ◌∙◌, ◌∷◌, ◌++◌, ℕ, suc, List, [], map, Bool, true, false, cond, not, Option, Some, option_map, refl, sym, ap}
use Rattle.std.specs.Prelude.{◌&&◌, ◌||◌, slice_get, is_some}
use Rattle.std.specs.List.{Contains, filter, flat_map}
use Rattle.std.proofs.lemmas.List.Elements.{filter-append}
use Rattle.std.proofs.lemmas.Option.{slice_get-map}
use Rattle.tera_site.specs.Kept.{is_one_of, on_page}
use Rattle.tera_site.specs.Named.{lacks}
use Rattle.tera_site.specs.Pages.{PageVal}
use Rattle.tera_site.specs.Sites.{AroundVal, IsSiteOf, number_from, used_names}
use Rattle.tera_site.proofs.NearLemmas.{one_of_in}
use Rattle.tera_site.proofs.TourLemmas.{first_in, later_in}
use Rattle.tera_workspace.specs.Near.{UseSame, UsesSame}
use Rattle.tera_workspace.specs.SiteValues.{AroundFile}
use Rattle.tera_workspace.specs.Sites.{IsKeptOf, Said, is_lacking, names_lacking, names_said}

-- this, with these other names
abbrev pub with_others : List (Option (List ℕ)) → List (List ℕ) → AroundVal → AroundVal
with_others names others a = record a { has = λ n. is_some (number_from 0 names n) || is_one_of others n }

pub others_site : (names : List (Option (List ℕ))) (was others : List (List ℕ)) (pages : List PageVal) (around : ℕ → AroundVal) → IsSiteOf names (is_one_of was) pages around
    → IsSiteOf names (is_one_of others) pages (λ q. with_others names others (around q))
others_site names was others pages around site q p here =
    let a = site q p here in
    record { has = λ n. refl; extends_itself = a.extends_itself; comes_back = a.comes_back; inherited = a.inherited }

only_so : (b x y : Bool) → (b ≡ true → x ≡ y) → (b && x) ≡ (b && y)
only_so true x y same = same refl
only_so false x y same = refl

-- that is the same under the names of a page that uses the same of them
pub others_page : (names : List (Option (List ℕ))) (was others : List (List ℕ)) (p : PageVal) (a : AroundVal) → ((n : List ℕ) → a.has n ≡ (is_some (number_from 0 names n) || is_one_of was n))
    → UsesSame was others p → on_page p a ≡ on_page p (with_others names others a)
others_page names was others p a has same = λ i. record {
  has = λ n.
      only_so (is_one_of (used_names p) n) (a.has n) (is_some (number_from 0 names n) || is_one_of others n)
      (λ used. has n ∙ ap (λ b. is_some (number_from 0 names n) || b) (same n (one_of_in n (used_names p) used))) i;
  extends_itself = a.extends_itself;
  comes_back = λ n. is_one_of p.includes n && a.comes_back n;
  inherited = Some (λ n. not (is_one_of p.blocks n && lacks a n));
}

-- ---- names that are lacking

pub filter_same : (test same : List ℕ → Bool) (ns : List (List ℕ)) → ((n : List ℕ) → Contains ns n → test n ≡ same n) → filter test ns ≡ filter same ns
filter_same test same [] h = refl
filter_same test same (n ∷ ns) h =
    let first : test n ≡ same n = h n (first_in n ns) in
    let rest : filter test ns ≡ filter same ns = filter_same test same ns (λ m has. h m (later_in n ns m has)) in
    λ i. cond (first i) (n ∷ rest i) (rest i)

lacking_same : (names : List (Option (List ℕ))) (was others : List (List ℕ)) (saids : List Said) → UseSame was others saids
    → names_lacking names was (map (λ x. x.page) saids) ≡ names_lacking names others (map (λ x. x.page) saids)
lacking_same names was others [] same = refl
lacking_same names was others (x ∷ saids) same =
    let used = used_names x.page in
    let later = flat_map used_names (map (λ (y : Said). y.page) saids) in
    let first : filter (is_lacking names was) used ≡ filter (is_lacking names others) used =
    filter_same (is_lacking names was) (is_lacking names others) used (λ n has. ap (λ b. not (is_some (number_from 0 names n) || b)) (same 0 x refl n has)) in
    let rest : filter (is_lacking names was) later ≡ filter (is_lacking names others) later = lacking_same names was others saids (λ k. same (suc k)) in
    filter-append (is_lacking names was) used later ∙ (λ i. first i ++ rest i) ∙ sym (filter-append (is_lacking names others) used later)

-- ---- what is kept

pub others_kept : (root : List ℕ) (was others lacking : List (List ℕ)) (documents : List AroundFile) (saids : List Said) → UseSame was others saids
    → IsKeptOf (record { root = root; others = was; lacking = lacking; documents = documents }) saids
    → IsKeptOf (record { root = root; others = others; lacking = lacking; documents = documents }) saids
others_kept root was others lacking documents saids same kept =
    let names = names_said root saids in
    record {
      around = λ q. with_others names others (kept.around q);
      site = others_site names was others (map (λ x. x.page) saids) kept.around kept.site;
      files = kept.files;
      each = λ q x d here there.
          kept.each q x d here there ∙ others_page names was others x.page (kept.around q) (kept.site q x.page (slice_get-map (λ (y : Said). y.page) saids q ∙ ap (option_map (λ (y : Said). y.page)) here)).has (same q x here);
      lacking = kept.lacking ∙ lacking_same names was others saids same;
    }
