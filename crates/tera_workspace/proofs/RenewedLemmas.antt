-- What is kept of a site when one document says something else than before.
use Rattle.std.proofs.Common.{if◌then◌else◌}
use Rattle.std.proofs.Common.{◌≡◌, ◌∙◌, ◌∷◌, ◌++◌, ◌+◌, ◌<◌, ◌≤◌, ◌⊎◌, inl, inr, ℕ, zero, suc, List, [], length, get_or, map, set, Bool, true, false, cond, codes, nat_eq, not, Option, None, Some, string_bytes, option_map, refl, sym, ap, subst, arith}
use Rattle.std.specs.Prelude.{◌&&◌, ◌||◌, slice_get, is_some, unwrap_or}
use Rattle.std.specs.Cmp.Lexicographic.{slice_cmp}
use Rattle.std.specs.List.{Contains, filter, flat_map}
use Rattle.std.specs.Option.{option_and_then}
use Rattle.std.specs.Ordering.{nat_cmp}
use Rattle.std.specs.Str.{bytes_eq}
use Rattle.std.specs.declared.cmp.Ordering.TheVariants.{Less}
use Rattle.std.proofs.lemmas.Bool.Decides.{eqb_tells, leb_tells}
use Rattle.std.proofs.lemmas.List.Elements.{filter-append}
use Rattle.std.proofs.lemmas.List.{append-nil, get_or-set_same, get_or-set_other, length-append, length-map, length-set}
use Rattle.std.proofs.lemmas.Option.{slice_get-get_or, slice_get-map, slice_get_past, slice_get_within}
use Rattle.std.proofs.lemmas.Slice.Eq.{bytes_eq-Decides}
use Rattle.tera_site.specs.Kept.{AreAboveAlike, around_by, is_one_of, kept_around, kept_page, kept_view, on_page}
use Rattle.tera_site.specs.Pages.{PageVal}
use Rattle.tera_site.specs.Sites.{AroundVal, IsAround, IsSiteOf, is_name, number_from, site_with, used_names}
use Rattle.tera_site.proofs.ApartLemmas.{AreAllBelow, IsAlikeAt, IsClosed, alike_back, around_beside}
use Rattle.tera_site.proofs.NearLemmas.{IsPart, around_near, page_near}
use Rattle.tera_site.proofs.TourLemmas.{in_cases, none_in}
use Rattle.tera_workspace.specs.Kept.{name_of}
use Rattle.tera_workspace.specs.KeptSites.{around_file, said_in, said_of}
use Rattle.tera_workspace.specs.Near.{AreInSite, AreNear, AreRight, AreThose, ConcernsThese, HaveAllBelow, IsKeptBut, IsKeptBy, IsOneOf, IsOnlyOther, IsRenewed, kept_now, kept_with, number_in, own_lacking, own_name, set_each}
use Rattle.tera_workspace.specs.SiteValues.{AroundFile}
use Rattle.tera_workspace.specs.Sites.{AreRenewed, IsKeptOf, Said, following, is_lacking, name_below, names_lacking, names_said}
use Rattle.tera_workspace.specs.Sources.{AreInOrder}
use Rattle.tera_workspace.specs.declared.judged.Judged.{Judged}
use Rattle.tera_workspace.specs.declared.near.Renewed.{Renewed}
use Rattle.tera_workspace.specs.declared.sites.KeptDocument.{KeptDocument}
use Rattle.tera_workspace.proofs.BelowLemmas.{kept_files}
use Rattle.tera_workspace.proofs.OtherNames.{filter_same, others_page, others_site, with_others}
use Rattle.tera_workspace.proofs.OrderLemmas.{IsBefore, less_apart, same_text}

pub none_some : {X : Type 0} (x : X) → None ≡ Some x → ⊥
none_some x e = cc

pub same_some : {X : Type 0} (x y : X) → Some x ≡ Some y → x ≡ y
same_some x y e = cc

or_true : (b : Bool) → (b || true) ≡ true
or_true true = refl
or_true false = refl

-- ---- lists by their places

pub by_place : {X : Type 0} (xs ys : List X) → ((k : ℕ) → slice_get xs k ≡ slice_get ys k) → xs ≡ ys
by_place [] [] h = refl
by_place [] (y ∷ ys) h = absurd (none_some y (h 0))
by_place (x ∷ xs) [] h = absurd (none_some x (sym (h 0)))
by_place (x ∷ xs) (y ∷ ys) h =
    let first : x ≡ y = same_some x y (h 0) in
    let rest : xs ≡ ys = by_place xs ys (λ k. h (suc k)) in
    λ i. first i ∷ rest i

pub set_here : {X : Type 0} (xs : List X) (i : ℕ) (y : X) → i < length xs → slice_get (set xs i y) i ≡ Some y
set_here xs i y within =
    slice_get-get_or (set xs i y) i y (omega (arith, length-set xs i y, within)) ∙ ap Some (get_or-set_same xs i y y within)

pub set_there : {X : Type 0} (xs : List X) (i k : ℕ) (y : X) → (k ≡ i → ⊥) → slice_get (set xs i y) k ≡ slice_get xs k
set_there xs i k y other = elim (leb_tells (length xs) k) [
  | inl past ↦
      slice_get_past (set xs i y) k (let l = length-set xs i y in let p = past.1 in omega (arith, l, p))
      ∙ sym (slice_get_past xs k past.1)
  | inr inside ↦
      slice_get-get_or (set xs i y) k y (let l = length-set xs i y in let p = inside.1 in omega (arith, l, p))
      ∙ ap Some (get_or-set_other xs i k y y other) ∙ sym (slice_get-get_or xs k y inside.1)
]

-- what is under a number of things that are viewed
pub viewed : {X Y : Type 0} (f : X → Y) (xs : List X) (k : ℕ) (x : X) → slice_get xs k ≡ Some x → slice_get (map f xs) k ≡ Some (f x)
viewed f xs k x here = slice_get-map f xs k ∙ ap (option_map f) here

pub seen_at : {X Y : Type 0} (f : X → Y) (xs : List X) (k : ℕ) (y : Y) → slice_get (map f xs) k ≡ Some y → (x : X) × (slice_get xs k ≡ Some x) × (f x ≡ y)
seen_at {X = X} f xs k y here = by (slice_get xs k) refl
  where
    by : (o : Option X) → slice_get xs k ≡ o → (x : X) × (slice_get xs k ≡ Some x) × (f x ≡ y)
    by None is = absurd (none_some y (sym (slice_get-map f xs k ∙ ap (option_map f) is) ∙ here))
    by (Some x) is = (x, is, same_some (f x) y (sym (viewed f xs k x is) ∙ here))

-- ---- a number is among some, or not

neither : (m n : ℕ) (ms : List ℕ) → (m ≡ n → ⊥) → (IsOneOf ms n → ⊥) → IsOneOf (m ∷ ms) n → ⊥
neither m n ms other none (zero, is) = other (same_some m n is)
neither m n ms other none (suc k, is) = none (k, is)

abbrev pub Row : List ℕ → ℕ → Type 0
Row ms n = ((k : ℕ) × (slice_get ms k ≡ Some n)) ⊎ (IsOneOf ms n → ⊥)

pub row : (ms : List ℕ) (n : ℕ) → Row ms n
row [] n = inr (λ there. none_some n there.1)
row (m ∷ ms) n = elim (eqb_tells m n) [
  | inl same ↦ inl (0, ap Some same.1)
  | inr other ↦ elim (row ms n) [ inl here ↦ inl (suc here.0, here.1) | inr none ↦ inr (neither m n ms other.1 none) ]
]

-- ---- numbers of names

no_way : false ≡ true → ⊥
no_way e = cc

is_named : (o : Option (List ℕ)) (n : List ℕ) → is_name o n ≡ true → o ≡ Some n
is_named None n e = absurd (no_way e)
is_named (Some m) n e = ap Some ((bytes_eq-Decides m n).0 e)

pub own_name_is : (n : List ℕ) → is_name (Some n) n ≡ true
own_name_is n = (bytes_eq-Decides n n).1 refl

number_is : (ms : List (Option (List ℕ))) (n : List ℕ) (from k : ℕ) → number_from from ms n ≡ Some k → (i : ℕ) × (k ≡ from + i) × (slice_get ms i ≡ Some (Some n))
number_is [] n from k is = absurd (none_some k is)
number_is (m ∷ ms) n from k is = by (is_name m n) refl (number_is ms n (suc from) k) is
  where
    by : (b : Bool) → is_name m n ≡ b → (number_from (suc from) ms n ≡ Some k → (i : ℕ) × (k ≡ suc from + i) × (slice_get ms i ≡ Some (Some n)))
        → cond b (Some from) (number_from (suc from) ms n) ≡ Some k → (i : ℕ) × (k ≡ from + i) × (slice_get (m ∷ ms) i ≡ Some (Some n))
    by true named rest found = (0, let e = same_some from k found in omega (arith, e), ap Some (is_named m n named))
    by false named rest found = let (i, plus, here) = rest found in (suc i, omega (arith, plus), here)

number_there : (ms : List (Option (List ℕ))) (n : List ℕ) (from i : ℕ) → slice_get ms i ≡ Some (Some n) → (k : ℕ) × (number_from from ms n ≡ Some k)
number_there [] n from i here = absurd (none_some (Some n) here)
number_there (m ∷ ms) n from zero here =
    (from, ap (λ b. cond b (Some from) (number_from (suc from) ms n)) (ap (λ o. is_name o n) (same_some m (Some n) here) ∙ own_name_is n))
number_there (m ∷ ms) n from (suc i) here = by (is_name m n) (number_there ms n (suc from) i here)
  where
    by : (b : Bool) → (k : ℕ) × (number_from (suc from) ms n ≡ Some k) → (k : ℕ) × (cond b (Some from) (number_from (suc from) ms n) ≡ Some k)
    by true rest = (from, refl)
    by false rest = rest

-- each name once: its number is that of its place
abbrev pub AreOnce : List (Option (List ℕ)) → Type 0
AreOnce names = (i j : ℕ) (n : List ℕ) → slice_get names i ≡ Some (Some n) → slice_get names j ≡ Some (Some n) → i ≡ j

pub number_at : (names : List (Option (List ℕ))) → AreOnce names → (n : List ℕ) (i : ℕ) → slice_get names i ≡ Some (Some n) → number_from 0 names n ≡ Some i
number_at names once n i here =
    let (k, found) = number_there names n 0 i here in
    let (j, is, there) = number_is names n 0 k found in
    found ∙ ap Some (omega (arith, is, once j i n there here))

pub name_at : (names : List (Option (List ℕ))) (n : List ℕ) (i : ℕ) → number_from 0 names n ≡ Some i → slice_get names i ≡ Some (Some n)
name_at names n i found =
    let (j, is, there) = number_is names n 0 i found in
    let same : i ≡ j = omega (arith, is) in
    ap (slice_get names) same ∙ there

-- ---- names below a root, each once

front_of : (front text rest : List ℕ) → following front text ≡ Some rest → text ≡ front ++ rest
front_of [] text rest is = same_some text rest is
front_of (f ∷ fs) [] rest is = absurd (none_some rest is)
front_of (f ∷ fs) (b ∷ bs) rest is = by (nat_eq f b) refl (front_of fs bs rest) is
  where
    by : (t : Bool) → nat_eq f b ≡ t → (following fs bs ≡ Some rest → bs ≡ fs ++ rest) → (if t then following fs bs else None) ≡ Some rest → b ∷ bs ≡ f ∷ (fs ++ rest)
    by true e more found =
        let first : f ≡ b = grind (arith, e) in
        let later = more found in
        λ i. sym first i ∷ later i
    by false e more found = absurd (none_some rest found)

pub file_below : (root file n : List ℕ) → name_below root file ≡ Some n → file ≡ root ++ (codes "/" ++ n)
file_below root file n is = by (following root file) refl is
  where
    by : (o : Option (List ℕ)) → following root file ≡ o → option_and_then (following (codes "/")) o ≡ Some n → file ≡ root ++ (codes "/" ++ n)
    by None e found = absurd (none_some n found)
    by (Some path) e found = front_of root file path e ∙ ap (λ p. root ++ p) (front_of (codes "/") path n found)

pub before_all : (a b : List ℕ) (ns : List (List ℕ)) (j : ℕ) → IsBefore a ns → slice_get ns j ≡ Some b → slice_cmp nat_cmp a b ≡ Less
before_all a b [] j before there = absurd (none_some b there)
before_all a b (n ∷ ns) zero before there = subst (λ m. slice_cmp nat_cmp a m ≡ Less) (same_some n b there) before.0
before_all a b (n ∷ ns) (suc j) before there = before_all a b ns j before.1 there

not_before : (a : List ℕ) → slice_cmp nat_cmp a a ≡ Less → ⊥
not_before a less = no_way (sym (less_apart a a less) ∙ same_text a)

once_in_order : (ns : List (List ℕ)) (i j : ℕ) (a : List ℕ) → AreInOrder ns → slice_get ns i ≡ Some a → slice_get ns j ≡ Some a → i ≡ j
once_in_order [] i j a ordered here there = absurd (none_some a here)
once_in_order (n ∷ ns) zero zero a ordered here there = refl
once_in_order (n ∷ ns) zero (suc j) a ordered here there =
    absurd (not_before a (subst (λ m. slice_cmp nat_cmp m a ≡ Less) (same_some n a here) (before_all n a ns j ordered.0 there)))
once_in_order (n ∷ ns) (suc i) zero a ordered here there =
    absurd (not_before a (subst (λ m. slice_cmp nat_cmp m a ≡ Less) (same_some n a there) (before_all n a ns i ordered.0 here)))
once_in_order (n ∷ ns) (suc i) (suc j) a ordered here there = ap suc (once_in_order ns i j a ordered.1 here there)

name_of_file : (root : List ℕ) (js : List Judged) (i : ℕ) (n : List ℕ) → slice_get (names_said root (map said_in js)) i ≡ Some (Some n)
    → slice_get (map name_of js) i ≡ Some (root ++ (codes "/" ++ n))
name_of_file root js i n here =
    let (x, at, is) = seen_at (λ (s : Said). name_below root s.file) (map said_in js) i (Some n) here in
    let (j, there, this) = seen_at said_in js i x at in
    viewed name_of js i j there ∙ ap Some (ap (λ (s : Said). s.file) this ∙ file_below root x.file n is)

pub names_once : (root : List ℕ) (js : List Judged) → AreInOrder (map name_of js) → AreOnce (names_said root (map said_in js))
names_once root js ordered i j n here there = once_in_order (map name_of js) i j (root ++ (codes "/" ++ n)) ordered (name_of_file root js i n here) (name_of_file root js j n there)

-- ---- the documents near one, as a site

abbrev pages : List Said → List PageVal
pages saids = map (λ x. x.page) saids

said_same : {Y : Type 0} (f : Said → Y) (near : List ℕ) (js those : List Judged) → AreThose near js those → (k r : ℕ) → slice_get near k ≡ Some r
    → slice_get (map f (map said_in those)) k ≡ slice_get (map f (map said_in js)) r
said_same f near js those are k r is =
    slice_get-map f (map said_in those) k ∙ ap (option_map f) (slice_get-map said_in those k ∙ ap (option_map said_in) (are.are k r is) ∙ sym (slice_get-map said_in js r))
    ∙ sym (slice_get-map f (map said_in js) r)

page_closed : (root : List ℕ) (js : List Judged) (at : ℕ) (names : List (List ℕ)) (has : List ℕ → Bool) (near : List ℕ) → AreNear root (map said_in js) at names has near
    → IsClosed (number_in root (map said_in js)) near (pages (map said_in js))
page_closed root js at names listed near h r p n j among here has is =
    let (x, there, this) = seen_at (λ (s : Said). s.page) (map said_in js) r p here in
    h.closed r x n j among there (subst (λ q. Contains (used_names q) n) (sym this) has) is

part : (root : List ℕ) (js those : List Judged) (at : ℕ) (names : List (List ℕ)) (has : List ℕ → Bool) (near : List ℕ) → AreInSite root js → AreNear root (map said_in js) at names has near → AreThose near js those
    → IsPart (names_said root (map said_in js)) (names_said root (map said_in those)) (pages (map said_in js)) (pages (map said_in those)) near
part root js those at names listed near site h are =
    let all = names_said root (map said_in js) in
    let own = names_said root (map said_in those) in
    let once : AreOnce all = names_once root js site.ordered in
    let same = said_same (λ (s : Said). name_below root s.file) near js those are in
    record {
      same = said_same (λ (s : Said). s.page) near js those are;
      named = λ n k found.
          let here = name_at own n k found in
          let (r, is) = at_near own k n here in
          (r, is, number_at all once n r (sym (same k r is) ∙ here));
      back = λ n r found among.
          let (k, is) = among in
          let there = name_at all n r found in
          let (m, is_m) = number_there own n 0 k (same k r is ∙ there) in
          let own_m = name_at own n m is_m in
          let (q, is_q) = at_near own m n own_m in
          let equal : q ≡ r = once q r n (sym (same m q is_q) ∙ own_m) there in
          (m, is_q ∙ ap Some equal, is_m);
      once = h.right.once;
      closed = page_closed root js at names listed near h;
    }
  where
    at_near : (own : List (Option (List ℕ))) (k : ℕ) (n : List ℕ) → slice_get (names_said root (map said_in those)) k ≡ Some (Some n) → (r : ℕ) × (slice_get near k ≡ Some r)
    at_near own k n here =
        let (x, there, this) = seen_at (λ (s : Said). name_below root s.file) (map said_in those) k (Some n) here in
        let (j, judged, said) = seen_at said_in those k x there in
        let within : k < length near = (let w = slice_get_within those k j judged in let e = are.each in omega (arith, w, e)) in
        (get_or near k 0, slice_get-get_or near k 0 within)

-- ---- what is around each template then

in_one_of : (n : List ℕ) (ns : List (List ℕ)) → Contains ns n → is_one_of ns n ≡ true
in_one_of n [] has = absurd (none_in n has)
in_one_of n (m ∷ ns) has = elim (in_cases m ns n has) [
  | inl same ↦ ap (λ b. b || is_one_of ns n) (ap (bytes_eq n) same ∙ same_text n)
  | inr later ↦ ap (λ b. bytes_eq n m || b) (in_one_of n ns later) ∙ or_true (bytes_eq n m)
]

lacking_all : (f : List ℕ → Bool) (ds : List KeptDocument) → ((k : ℕ) (d : KeptDocument) → slice_get ds k ≡ Some d → (n : List ℕ) → Contains (used_names (kept_page d.page)) n → not ((kept_around d.around).has n) ≡ f n)
    → flat_map own_lacking ds ≡ filter f (flat_map used_names (pages (map said_of ds)))
lacking_all f [] h = refl
lacking_all f (d ∷ ds) h =
    let used = used_names (kept_page d.page) in
    let first : own_lacking d ≡ filter f used = filter_same (λ n. not ((kept_around d.around).has n)) f used (h 0 d refl) in
    let rest : flat_map own_lacking ds ≡ filter f (flat_map used_names (pages (map said_of ds))) = lacking_all f ds (λ k. h (suc k)) in
    (λ i. first i ++ rest i) ∙ sym (filter-append f used (flat_map used_names (pages (map said_of ds))))

-- the same with this in the place of one
replaced : (kept : List KeptDocument) (js : List Judged) (at : ℕ) (e : KeptDocument) → at < length kept → IsOnlyOther at (map said_of kept) (map said_in js) → slice_get (map said_in js) at ≡ Some (said_of e)
    → map said_of (set kept at e) ≡ map said_in js
replaced kept js at e within other is = by_place (map said_of (set kept at e)) (map said_in js) (λ k. elim (eqb_tells k at) [
  | inl same ↦ ap (slice_get (map said_of (set kept at e))) same.1 ∙ viewed said_of (set kept at e) at e (set_here kept at e within) ∙ sym (ap (slice_get (map said_in js)) same.1 ∙ is)
  | inr apart ↦
      slice_get-map said_of (set kept at e) k ∙ ap (option_map said_of) (set_there kept at k e apart.1) ∙ sym (slice_get-map said_of kept k)
      ∙ other.rest k apart.1
])

same_names : (root : List ℕ) (at : ℕ) (before now : List Said) → IsOnlyOther at before now → names_said root before ≡ names_said root now
same_names root at before now other = by_place (names_said root before) (names_said root now) (λ k.
    slice_get-map (λ (s : Said). name_below root s.file) before k ∙ by_file (slice_get before k) (slice_get now k) (other.files k)
    ∙ sym (slice_get-map (λ (s : Said). name_below root s.file) now k))
  where
    by_file : (a b : Option Said) → option_map (λ (s : Said). s.file) a ≡ option_map (λ (s : Said). s.file) b
        → option_map (λ (s : Said). name_below root s.file) a ≡ option_map (λ (s : Said). name_below root s.file) b
    by_file None None e = refl
    by_file (Some x) None e = absurd (none_some x.file (sym e))
    by_file None (Some y) e = absurd (none_some y.file e)
    by_file (Some x) (Some y) e = ap (λ f. Some (name_below root f)) (same_some x.file y.file e)

-- the names that are lacking, by what is kept of each
lacking_by : (root : List ℕ) (others : List (List ℕ)) (ds : List KeptDocument) (saids : List Said) (around : ℕ → AroundVal) → IsSiteOf (names_said root saids) (is_one_of others) (pages saids) around
    → ((k : ℕ) (x : Said) (f : AroundFile) → slice_get saids k ≡ Some x → slice_get (map around_file ds) k ≡ Some f → around_by f.around ≡ on_page x.page (around k)) → map said_of ds ≡ saids
    → flat_map own_lacking ds ≡ names_lacking (names_said root saids) others (pages saids)
lacking_by root others ds saids around site each said =
    lacking_all (is_lacking (names_said root saids) others) ds (λ k d is n has.
    let says_d : slice_get saids k ≡ Some (said_of d) = ap (λ xs. slice_get xs k) (sym said) ∙ viewed said_of ds k d is in
    let here : slice_get (pages saids) k ≡ Some (kept_page d.page) = viewed (λ (s : Said). s.page) saids k (said_of d) says_d in
    ap not (ap (λ (a : AroundVal). a.has n) (each k (said_of d) (around_file d) says_d (viewed around_file ds k d is))
    ∙ ap (λ b. b && (around k).has n) (in_one_of n (used_names (kept_page d.page)) has)
    ∙ (site k (kept_page d.page) here).has n))
    ∙ ap (λ xs. filter (is_lacking (names_said root saids) others) (flat_map used_names (pages xs))) said

pub lacking_kept : (root : List ℕ) (others lacking : List (List ℕ)) (kept : List KeptDocument) → IsKeptBy root others lacking kept → lacking ≡ flat_map own_lacking kept
lacking_kept root others lacking kept h =
    h.fits.lacking ∙ sym (lacking_by root others kept (map said_of kept) h.fits.around h.fits.site h.fits.each refl)

-- if one lacks as many as all, no other lacks any
none_left : (xs : List (List ℕ)) → length xs ≤ 0 → xs ≡ []
none_left [] short = refl
none_left (x ∷ xs) short = absurd (omega (arith, short))

all_by_one : (ds : List KeptDocument) (at : ℕ) (d e : KeptDocument) → slice_get ds at ≡ Some d → length (flat_map own_lacking ds) ≤ length (own_lacking d) → flat_map own_lacking (set ds at e) ≡ own_lacking e
all_by_one [] at d e here many = absurd (none_some d here)
all_by_one (x ∷ ds) zero d e here many =
    let rest : flat_map own_lacking ds ≡ [] = none_left (flat_map own_lacking ds)
    (let l = length-append (own_lacking x) (flat_map own_lacking ds) in let s = ap (λ (y : KeptDocument). length (own_lacking y)) (same_some x d here) in omega (arith, many, l, s)) in
    ap (λ ns. own_lacking e ++ ns) rest ∙ append-nil (own_lacking e)
all_by_one (x ∷ ds) (suc at) d e here many =
    let l = length-append (own_lacking x) (flat_map own_lacking ds) in
    let first : own_lacking x ≡ [] = none_left (own_lacking x) (let s = some_length ds at here in omega (arith, many, l, s)) in
    let f = ap length first in
    ap (λ ns. ns ++ flat_map own_lacking (set ds at e)) first ∙ all_by_one ds at d e here (omega (arith, many, l, f))
  where
    some_length : (ys : List KeptDocument) (k : ℕ) → slice_get ys k ≡ Some d → length (own_lacking d) ≤ length (flat_map own_lacking ys)
    some_length [] k there = absurd (none_some d there)
    some_length (y ∷ ys) zero there = (let m = length-append (own_lacking y) (flat_map own_lacking ys) in let s = ap (λ (z : KeptDocument). length (own_lacking z)) (same_some y d there) in omega (arith, m, s))
    some_length (y ∷ ys) (suc k) there = (let m = length-append (own_lacking y) (flat_map own_lacking ys) in let r = some_length ys k there in omega (arith, m, r))

pub own_all : (ds : List KeptDocument) (at : ℕ) (d e : KeptDocument) (before : List (List ℕ)) → slice_get ds at ≡ Some d → before ≡ flat_map own_lacking ds → length before ≡ length (own_lacking d) → flat_map own_lacking (set ds at e) ≡ own_lacking e
own_all ds at d e before here all many = all_by_one ds at d e here (let l = ap length all in omega (arith, l, many))

-- ---- documents in the places of others

right_rest : (bound n : ℕ) (near : List ℕ) → AreRight bound (n ∷ near) → AreRight bound near
right_rest bound n near h = record {
  within = λ k. h.within (suc k);
  once = λ k m r one other. (let e = h.once (suc k) (suc m) r one other in omega (arith, e));
}

not_again : (bound n : ℕ) (near : List ℕ) → AreRight bound (n ∷ near) → IsOneOf near n → ⊥
not_again bound n near h (k, is) = (let e = h.once 0 (suc k) n refl is in omega (arith, e))

pub each_length : (kept : List KeptDocument) (near : List ℕ) (documents : List KeptDocument) → length (set_each kept near documents) ≡ length kept
each_length kept [] documents = refl
each_length kept (n ∷ near) [] = refl
each_length kept (n ∷ near) (d ∷ documents) = each_length (set kept n d) near documents ∙ length-set kept n d

pub each_rest : (kept : List KeptDocument) (near : List ℕ) (documents : List KeptDocument) (q : ℕ) → (IsOneOf near q → ⊥) → slice_get (set_each kept near documents) q ≡ slice_get kept q
each_rest kept [] documents q none = refl
each_rest kept (n ∷ near) [] q none = refl
each_rest kept (n ∷ near) (d ∷ documents) q none =
    each_rest (set kept n d) near documents q (λ there. none (suc there.0, there.1)) ∙ set_there kept n q d (λ same. none (0, ap Some (sym same)))

pub each_there : (kept : List KeptDocument) (near : List ℕ) (documents : List KeptDocument) (k q : ℕ) (g : KeptDocument) → AreRight (length kept) near → slice_get near k ≡ Some q → slice_get documents k ≡ Some g
    → slice_get (set_each kept near documents) q ≡ Some g
each_there kept [] documents k q g right is here = absurd (none_some q is)
each_there kept (n ∷ near) [] k q g right is here = absurd (none_some g here)
each_there kept (n ∷ near) (d ∷ documents) zero q g right is here =
    let same : n ≡ q = same_some n q is in
    each_rest (set kept n d) near documents q (λ there. not_again (length kept) n near right (subst (IsOneOf near) (sym same) there))
    ∙ ap (slice_get (set kept n d)) (sym same) ∙ set_here kept n d (right.within 0 n refl) ∙ here
each_there kept (n ∷ near) (d ∷ documents) (suc k) q g right is here =
    each_there (set kept n d) near documents k q g (subst (λ b. AreRight b near) (sym (length-set kept n d)) (right_rest (length kept) n near right)) is here

pub each_more : (kept : List KeptDocument) (near : List ℕ) (documents : List KeptDocument) (n : ℕ) (d : KeptDocument) → length near ≡ length documents
    → set_each kept (near ++ n ∷ []) (documents ++ d ∷ []) ≡ set (set_each kept near documents) n d
each_more kept [] [] n d same = refl
each_more kept [] (e ∷ documents) n d same = absurd (omega (arith, same))
each_more kept (m ∷ near) [] n d same = absurd (omega (arith, same))
each_more kept (m ∷ near) (e ∷ documents) n d same = each_more (set kept m e) near documents n d (omega (arith, same))

-- ---- names of templates

own_there : (root : List ℕ) (js : List Judged) (q : ℕ) (j : Judged) → AreInSite root js → slice_get js q ≡ Some j → slice_get (names_said root (map said_in js)) q ≡ Some (Some (own_name root j))
own_there root js q j site here =
    viewed (λ (s : Said). name_below root s.file) (map said_in js) q (said_in j) (viewed said_in js q j here) ∙ ap Some (by (name_below root (name_of j)) (site.below q j here))
  where
    by : (o : Option (List ℕ)) → is_some o ≡ true → o ≡ Some (unwrap_or o [])
    by None e = absurd (no_way e)
    by (Some n) e = refl

same_files : (before now : List Said) → ((k : ℕ) → option_map (λ (x : Said). x.file) (slice_get before k) ≡ option_map (λ (x : Said). x.file) (slice_get now k)) → map (λ (x : Said). x.file) before ≡ map (λ (x : Said). x.file) now
same_files before now files = by_place (map (λ (x : Said). x.file) before) (map (λ (x : Said). x.file) now) (λ k.
    slice_get-map (λ (x : Said). x.file) before k ∙ files k ∙ sym (slice_get-map (λ (x : Said). x.file) now k))

module _ (root : List ℕ) (others : List (List ℕ)) (kept : List KeptDocument) (js those : List Judged) (at : ℕ) (near : List ℕ) (documents : List KeptDocument) (d e : KeptDocument) (lacking lacked : List (List ℕ))
    (listed : List ℕ → Bool)
    (site : AreInSite root js) (other : IsOnlyOther at (map said_of kept) (map said_in js)) (by_kept : IsKeptBut at root others lacking kept) (concerns : ConcernsThese root at (map said_of kept) js listed)
    (was : slice_get kept at ≡ Some d) (are_near : AreNear root (map said_in js) at (used_names (kept_page d.page)) listed near) (are : AreThose near js those)
    (small : IsKeptOf (kept_with root others lacked documents) (map said_in those)) (said : map said_of documents ≡ map said_in those)
    (made : slice_get documents 0 ≡ Some e) where
  abbrev now : List Said
  now = map said_in js

  abbrev before : List Said
  before = map said_of kept

  abbrev names : List (Option (List ℕ))
  names = names_said root now

  abbrev named : List ℕ → Option ℕ
  named = number_from 0 names

  abbrev both_has : List ℕ → Bool
  both_has n = is_some (named n) || is_one_of others n

  within : at < length kept
  within = slice_get_within kept at d was

  -- what the document says
  says : slice_get now at ≡ Some (said_of e)
  says =
      slice_get-map said_in js at ∙ ap (option_map said_in) (sym (are.are 0 at are_near.first)) ∙ sym (slice_get-map said_in those 0)
      ∙ ap (λ xs. slice_get xs 0) (sym said) ∙ viewed said_of documents 0 e made

  with_one : map said_of (set kept at e) ≡ now
  with_one = replaced kept js at e within other says

  pub as_many : length documents ≡ length near
  as_many = sym (length-map documents said_of) ∙ ap length said ∙ length-map those said_in ∙ are.each

  pub right : AreRight (length kept) near
  right = subst (λ n. AreRight n near) (sym other.each ∙ length-map kept said_of) are_near.right

  abbrev news : List KeptDocument
  news = set_each kept near documents

  not_near : (q : ℕ) → (IsOneOf near q → ⊥) → q ≡ at → ⊥
  not_near q none is = none (subst (IsOneOf near) (sym is) (0, are_near.first))

  -- of each near one there is something new
  new_of : (q k : ℕ) → slice_get near k ≡ Some q → (h : KeptDocument) × (slice_get documents k ≡ Some h) × (slice_get news q ≡ Some h)
  new_of q k is =
      let within_k : k < length documents = (let w = slice_get_within near k q is in omega (arith, w, as_many)) in
      let h = get_or documents k e in
      let here : slice_get documents k ≡ Some h = slice_get-get_or documents k e within_k in
      (h, here, each_there kept near documents k q h right is here)

  pub all_said : map said_of news ≡ now
  all_said = by_place (map said_of news) now (λ q. by q (row near q))
    where
      by : (q : ℕ) → Row near q → slice_get (map said_of news) q ≡ slice_get now q
      by q (inl (k, is)) =
          let (h, here, there) = new_of q k is in
          viewed said_of news q h there ∙ sym (viewed said_of documents k h here) ∙ ap (λ xs. slice_get xs k) said
          ∙ slice_get-map said_in those k ∙ ap (option_map said_in) (are.are k q is) ∙ sym (slice_get-map said_in js q)
      by q (inr none) =
          slice_get-map said_of news q ∙ ap (option_map said_of) (each_rest kept near documents q none) ∙ sym (slice_get-map said_of kept q)
          ∙ other.rest q (not_near q none)

  rest : (q : ℕ) → (q ≡ at → ⊥) → slice_get (pages before) q ≡ slice_get (pages now) q
  rest q apart =
      slice_get-map (λ (s : Said). s.page) before q ∙ ap (option_map (λ (s : Said). s.page)) (other.rest q apart) ∙ sym (slice_get-map (λ (s : Said). s.page) now q)

  -- the page that it had
  had : (p : PageVal) → slice_get (pages before) at ≡ Some p → kept_page d.page ≡ p
  had p here = same_some (kept_page d.page) p (sym (viewed (λ (s : Said). s.page) before at (said_of d) (viewed said_of kept at d was)) ∙ here)

  still : IsClosed named near (pages now)
  still = page_closed root js at (used_names (kept_page d.page)) listed near are_near

  closed : IsClosed named near (pages before)
  closed r p n j among here has is = elim (eqb_tells r at) [
    | inl equal ↦ are_near.old n j (subst (λ q. Contains (used_names q) n) (sym (had p (ap (slice_get (pages before)) (sym equal.1) ∙ here))) has) is
    | inr apart ↦ still r p n j among (sym (rest r apart.1) ∙ here) has is
  ]

  page_now : slice_get (pages now) at ≡ Some (kept_page e.page)
  page_now = viewed (λ (s : Said). s.page) now at (said_of e) says

  page_was : slice_get (pages before) at ≡ Some (kept_page d.page)
  page_was = viewed (λ (s : Said). s.page) before at (said_of d) (viewed said_of kept at d was)

  alike_there : AreAboveAlike (kept_page d.page) (kept_page e.page) → IsAlikeAt at (pages before) (pages now)
  alike_there alike p here = (kept_page e.page, page_now, subst (λ q. AreAboveAlike q (kept_page e.page)) (had p here) alike)

  alike_before : AreAboveAlike (kept_page d.page) (kept_page e.page) → IsAlikeAt at (pages now) (pages before)
  alike_before alike p here = (
    kept_page d.page,
    page_was,
    subst (λ q. AreAboveAlike q (kept_page d.page)) (same_some (kept_page e.page) p (sym page_now ∙ here)) (alike_back (kept_page d.page) (kept_page e.page) alike),
  )

  -- those that extend it
  abbrev under : ℕ → Type 0
  under q = (j : Judged) × (slice_get js q ≡ Some j) × (listed (own_name root j) ≡ true)

  inside : (q : ℕ) → under q → IsOneOf near q
  inside q (j, here, is) = are_near.named (own_name root j) q is (number_at names (names_once root js site.ordered) (own_name root j) q (own_there root js q j site here))

  all_under : HaveAllBelow root at js listed → AreAllBelow named at (pages now) under
  all_under below = record {
    own = let (j, here, this) = seen_at said_in js at (said_of e) says in (j, here, below.own j here);
    all = λ q i p n here extends is has.
        let (x, there, this) = seen_at (λ (s : Said). s.page) now q p here in
        let (j, at_j, says_x) = seen_at said_in js q x there in
        let (g, at_g, listed_g) = has in
        let same : n ≡ own_name root g = same_some n (own_name root g) (same_some (Some n) (Some (own_name root g)) (sym (name_at names n i is) ∙ own_there root js i g site at_g)) in
        (j, at_j, below.all q j at_j n (ap (λ (s : Said). s.page.parent) says_x ∙ ap (λ (y : PageVal). y.parent) this ∙ extends) (subst (λ m. listed m ≡ true) (sym same) listed_g));
  }

  all_before : AreAllBelow named at (pages now) under → AreAllBelow named at (pages before) under
  all_before h = record {
    own = h.own;
    all = λ q i p n here extends is has. elim (eqb_tells q at) [
      | inl equal ↦ subst under (sym equal.1) h.own
      | inr apart ↦ h.all q i p n (sym (rest q apart.1) ∙ here) extends is has
    ];
  }

  changes_there : IsAlikeAt at (pages before) (pages now) ⊎ AreAllBelow named at (pages before) under
  changes_there = elim concerns [
    | inl alike ↦ inl (alike_there (alike (said_of d) (said_of e) (viewed said_of kept at d was) says))
    | inr below ↦ inr (all_before (all_under below))
  ]

  changes_back : IsAlikeAt at (pages now) (pages before) ⊎ AreAllBelow named at (pages now) under
  changes_back = elim concerns [
    | inl alike ↦ inl (alike_before (alike (said_of d) (said_of e) (viewed said_of kept at d was) says))
    | inr below ↦ inr (all_under below)
  ]

  -- around each
  abbrev old : ℕ → AroundVal
  old q = with_others names others (by_kept.kept_by.fits.around q)

  abbrev chosen : (q : ℕ) → Row near q → AroundVal
  chosen q (inl here) = record (small.around here.0) { has = both_has }
  chosen q (inr none) = old q

  abbrev around : ℕ → AroundVal
  around q = chosen q (row near q)

  was_site : IsSiteOf names (is_one_of by_kept.was) (pages before) by_kept.kept_by.fits.around
  was_site = subst (λ ns. IsSiteOf ns (is_one_of by_kept.was) (pages before) by_kept.kept_by.fits.around) (same_names root at before now other) by_kept.kept_by.fits.site

  old_site : IsSiteOf names (is_one_of others) (pages before) old
  old_site = others_site names by_kept.was others (pages before) by_kept.kept_by.fits.around was_site

  old_each : (q : ℕ) (x : Said) (f : AroundFile) → (q ≡ at → ⊥) → slice_get before q ≡ Some x → slice_get (map around_file kept) q ≡ Some f → around_by f.around ≡ on_page x.page (old q)
  old_each q x f apart here there =
      by_kept.kept_by.fits.each q x f here there
      ∙ others_page names by_kept.was others x.page (by_kept.kept_by.fits.around q) (was_site q x.page (viewed (λ (s : Said). s.page) before q x here)).has (by_kept.rest q x apart here)

  is_part : IsPart names (names_said root (map said_in those)) (pages now) (pages (map said_in those)) near
  is_part = part root js those at (used_names (kept_page d.page)) listed near site are_near are

  site_by : (q : ℕ) (p : PageVal) (r : Row near q) → slice_get (pages now) q ≡ Some p → IsAround (site_with names (pages now)) (is_one_of others) q p (chosen q r)
  site_by q p (inl here) there =
      around_near names (names_said root (map said_in those)) (pages now) (pages (map said_in those)) near is_part (is_one_of others) here.0 q p (small.around here.0) here.1 there
      (small.site here.0 p (is_part.same here.0 q here.1 ∙ there))
  site_by q p (inr none) there =
      let here : slice_get (pages before) q ≡ Some p = rest q (not_near q none) ∙ there in
      around_beside names (is_one_of others) at near (pages before) (pages now) (0, are_near.first) rest closed still under inside changes_there changes_back q p (old q) none here (old_site q p here)

  is_site : IsSiteOf names (is_one_of others) (pages now) around
  is_site q p there = site_by q p (row near q) there

  -- what is kept of each is by that
  fresh : (k : ℕ) (x : Said) (g : KeptDocument) → slice_get documents k ≡ Some g → slice_get (map said_in those) k ≡ Some x → around_by (kept_view g.around) ≡ on_page x.page (small.around k)
  fresh k x g is here = small.each k x (around_file g) here (viewed around_file documents k g is)

  near_each : (q k : ℕ) (x : Said) (g : KeptDocument) → slice_get near k ≡ Some q → slice_get now q ≡ Some x → slice_get documents k ≡ Some g
      → around_by (kept_view g.around) ≡ on_page x.page (record (small.around k) { has = both_has })
  near_each q k x g is says_x here =
      fresh k x g here (slice_get-map said_in those k ∙ ap (option_map said_in) (are.are k q is) ∙ sym (slice_get-map said_in js q) ∙ says_x)
      ∙ page_near names (names_said root (map said_in those)) (pages now) (pages (map said_in those)) near is_part (is_one_of others) k q x.page (small.around k) is
      (viewed (λ (s : Said). s.page) now q x says_x)
      (λ n. (small.site k x.page (is_part.same k q is ∙ viewed (λ (s : Said). s.page) now q x says_x)).has n)

  each_by : (q : ℕ) (x : Said) (g : KeptDocument) (r : Row near q) → slice_get now q ≡ Some x → slice_get news q ≡ Some g → around_by (kept_view g.around) ≡ on_page x.page (chosen q r)
  each_by q x g (inl here) says_x there =
      let (h, is_h, new) = new_of q here.0 here.1 in
      near_each q here.0 x g here.1 says_x (is_h ∙ sym new ∙ there)
  each_by q x g (inr none) says_x there =
      old_each q x (around_file g) (not_near q none) (other.rest q (not_near q none) ∙ says_x) (viewed around_file kept q g (sym (each_rest kept near documents q none) ∙ there))

  each : (q : ℕ) (x : Said) (f : AroundFile) → slice_get now q ≡ Some x → slice_get (map around_file news) q ≡ Some f → around_by f.around ≡ on_page x.page (around q)
  each q x f here there =
      let (g, is, this) = seen_at around_file news q f there in
      ap (λ (y : AroundFile). around_by y.around) (sym this) ∙ each_by q x g (row near q) here is

  -- what each lacks
  lacks_by : (p : PageVal) (b a : AroundVal) → b ≡ on_page p a → ((n : List ℕ) → a.has n ≡ both_has n) → (n : List ℕ) → Contains (used_names p) n → not (b.has n) ≡ is_lacking names others n
  lacks_by p b a is has n used = ap not (ap (λ (x : AroundVal). x.has n) is ∙ ap (λ t. t && a.has n) (in_one_of n (used_names p) used) ∙ has n)

  lacks_each : (q : ℕ) (g : KeptDocument) → slice_get (set kept at e) q ≡ Some g → (n : List ℕ) → Contains (used_names (kept_page g.page)) n → not ((kept_around g.around).has n) ≡ is_lacking names others n
  lacks_each q g there = elim (eqb_tells q at) [
    | inl equal ↦
        let g_is : e ≡ g = same_some e g (sym (set_here kept at e within) ∙ sym (ap (slice_get (set kept at e)) equal.1) ∙ there) in
        subst (λ (y : KeptDocument). (n : List ℕ) → Contains (used_names (kept_page y.page)) n → not ((kept_around y.around).has n) ≡ is_lacking names others n) g_is
        (lacks_by (kept_page e.page) (kept_around e.around) (record (small.around 0) { has = both_has }) (near_each at 0 (said_of e) e are_near.first says made) (λ n. refl))
    | inr apart ↦
        let old_g : slice_get kept q ≡ Some g = sym (set_there kept at q e apart.1) ∙ there in
        let says_g : slice_get before q ≡ Some (said_of g) = viewed said_of kept q g old_g in
        lacks_by (kept_page g.page) (kept_around g.around) (old q) (old_each q (said_of g) (around_file g) apart.1 says_g (viewed around_file kept q g old_g))
        (old_site q (kept_page g.page) (viewed (λ (s : Said). s.page) before q (said_of g) says_g)).has
  ]

  pub all_fits : (lack : List (List ℕ)) → lack ≡ flat_map own_lacking (set kept at e) → IsKeptOf (kept_with root others lack news) now
  all_fits lack is = record {
    around = around;
    site = is_site;
    files = kept_files news ∙ ap (map (λ (s : Said). s.file)) all_said;
    each = each;
    lacking = is ∙ lacking_all (is_lacking names others) (set kept at e) lacks_each ∙ ap (λ xs. filter (is_lacking names others) (flat_map used_names (pages xs))) with_one;
  }

  pub files_same : map (λ (x : AroundFile). x.file) (map around_file news) ≡ map (λ (x : AroundFile). x.file) (map around_file kept)
  files_same = kept_files news ∙ ap (map (λ (s : Said). s.file)) all_said ∙ sym (same_files before now other.files) ∙ sym (kept_files kept)

  pub renewed_is : (r : Renewed) → r.near.items ≡ near → r.documents.items ≡ documents → map string_bytes r.lacking.items ≡ flat_map own_lacking (set kept at e)
      → AreRenewed (map string_bytes r.names.items) (map around_file kept) (map around_file news) → IsRenewed root others kept js r
  renewed_is r near_is documents_is lacks renewed =
      let all : kept_now kept r ≡ news = (λ i. set_each kept (near_is i) (documents_is i)) in
      record {
        near = subst (AreRight (length kept)) (sym near_is) right;
        each = ap length documents_is ∙ as_many ∙ sym (ap length near_is);
        said = ap (map said_of) all ∙ all_said;
        fits = subst (λ ds. IsKeptOf (kept_with root others (map string_bytes r.lacking.items) ds) (map said_in js)) (sym all) (all_fits (map string_bytes r.lacking.items) lacks);
        names = subst (λ ds. AreRenewed (map string_bytes r.names.items) (map around_file kept) (map around_file ds)) (sym all) renewed;
      }

-- ---- bounds

pub at_kept : (at : ℕ) (kept : List KeptDocument) (js : List Judged) → IsOnlyOther at (map said_of kept) (map said_in js) → at < length kept
at_kept at kept js other = (let w = other.within in let e = other.each in let l = length-map kept said_of in omega (arith, w, e, l))

pub as_many_near : (documents : List KeptDocument) (near : List ℕ) (js those : List Judged) → AreThose near js those → map said_of documents ≡ map said_in those → length documents ≡ length near
as_many_near documents near js those are said = sym (length-map documents said_of) ∙ ap length said ∙ length-map those said_in ∙ are.each
