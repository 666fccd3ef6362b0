-- What the loops that find the documents near one have found so far.
use Rattle.std.proofs.Common.{◌≡◌, ◌∙◌, ◌∷◌, ◌++◌, ◌+◌, ◌<◌, ◌≤◌, ◌⊎◌, inl, inr, ℕ, zero, suc, List, [], Bor, length, get_or, set, take, map, Bool, true, false, cond, Option, None, Some, option_map, refl, sym, ap, subst, arith}
use Rattle.std.specs.Prelude.{◌||◌, nat_eq, slice_get, is_some}
use Rattle.std.specs.BTreeSet.{BTreeSet, UpdatesBy, keys}
use Rattle.std.specs.Cmp.Lexicographic.{slice_cmp}
use Rattle.std.specs.List.{Contains, flat_map, list_any}
use Rattle.std.specs.Ordering.{is_eq, nat_cmp}
use Rattle.std.specs.Str.{bytes_eq}
use Rattle.std.proofs.lemmas.Bool.Decides.{eqb_tells, leb_tells}
use Rattle.std.proofs.lemmas.List.{append-nil, length-map, length-set, length-take-le, length_push, take_all, take_more}
use Rattle.std.proofs.lemmas.List.Concat.{flat_map-append}
use Rattle.std.proofs.lemmas.List.Elements.{Contains-append_cases}
use Rattle.std.proofs.lemmas.Map.Text.{is_eq-slice_cmp}
use Rattle.std.proofs.lemmas.Slice.Eq.{bytes_eq-Decides}
use Rattle.std.proofs.lemmas.Option.{get_or_from_slice_get, slice_get-get_or, slice_get_past, slice_get_within}
use Rattle.tera_site.specs.Sites.{used_names}
use Rattle.tera_site.proofs.TourLemmas.{first_in, in_cases, later_in, none_in}
use Rattle.tera_workspace.specs.KeptSites.{said_in}
use Rattle.tera_workspace.specs.Names.{contains_name}
use Rattle.tera_workspace.specs.Near.{Adds, AreNear, AreRight, AreThose, HasOwnBelow, IsOneOf, IsOnlyOther, RestUseSame, UseSame, UsesSame, number_in, numbers_in, own_lacking, own_name, set_each}
use Rattle.tera_workspace.specs.Sites.{Said, name_below, names_said}
use Rattle.tera_workspace.specs.declared.judged.Judged.{Judged}
use Rattle.tera_workspace.specs.declared.sites.KeptDocument.{KeptDocument}
use Rattle.tera_workspace.proofs.RenewedLemmas.{by_place, each_more, name_at, none_some, same_some, set_there}

-- ---- what an index gives

pub at_index : {X : Type 0} (xs : List X) (k : ℕ) (x : X) → k < length xs → x ≡ get_or xs k x → slice_get xs k ≡ Some x
at_index xs k x within is = slice_get-get_or xs k x within ∙ ap Some (sym is)

pub not_some : {X : Type 0} (o : Option X) → is_some o ≡ false → o ≡ None
not_some None e = refl
not_some (Some x) e = cc

-- a number is among some
pub among : (ns : List ℕ) (n : ℕ) → list_any (λ m. nat_eq m n) ns ≡ true → IsOneOf ns n
among [] n e = cc
among (m ∷ ns) n e = by (nat_eq m n) refl (among ns n) e
  where
    by : (b : Bool) → nat_eq m n ≡ b → (list_any (λ k. nat_eq k n) ns ≡ true → IsOneOf ns n) → (b || list_any (λ k. nat_eq k n) ns) ≡ true → IsOneOf (m ∷ ns) n
    by true is rest h = (0, ap Some (grind (arith, is)))
    by false is rest h = let (k, there) = rest h in (suc k, there)

pub not_among : (ns : List ℕ) (n : ℕ) → list_any (λ m. nat_eq m n) ns ≡ false → IsOneOf ns n → ⊥
not_among [] n e (k, is) = none_some n is
not_among (m ∷ ns) n e there = by (nat_eq m n) refl (not_among ns n) e there
  where
    by : (b : Bool) → nat_eq m n ≡ b → (list_any (λ k. nat_eq k n) ns ≡ false → IsOneOf ns n → ⊥) → (b || list_any (λ k. nat_eq k n) ns) ≡ false → IsOneOf (m ∷ ns) n → ⊥
    by true is rest h has = true_false h
      where
        true_false : true ≡ false → ⊥
        true_false e = cc
    by false is rest h (zero, here) =
        let same : m ≡ n = same_some m n here in
        let equal : nat_eq m n ≡ true = grind (arith, same) in
        cc
    by false is rest h (suc k, here) = rest h (k, here)

-- ---- which document alone is another

abbrev file_at : List Said → ℕ → Option (List ℕ)
file_at saids k = option_map (λ x. x.file) (slice_get saids k)

pub record OtherSoFar (before now : List Said) (number : ℕ) (other : Option ℕ) : Type 0 where
  pub within : (at : ℕ) → other ≡ Some at → at < length now
  pub rest : (k : ℕ) → k < number → (other ≡ Some k → ⊥) → slice_get before k ≡ slice_get now k
  pub files : (k : ℕ) → k < number → option_map (λ (x : Said). x.file) (slice_get before k) ≡ option_map (λ (x : Said). x.file) (slice_get now k)

pub other_same : (before now : List Said) (number : ℕ) (other : Option ℕ) → slice_get before number ≡ slice_get now number → OtherSoFar before now number other → OtherSoFar before now (number + 1) other
other_same before now number other same h = record {
  within = h.within;
  rest = λ k below apart. elim (eqb_tells k number) [
    | inl equal ↦ ap (slice_get before) equal.1 ∙ same ∙ sym (ap (slice_get now) equal.1)
    | inr less ↦ h.rest k (let ne = less.1 in omega (arith, below, ne)) apart
  ];
  files = λ k below. elim (eqb_tells k number) [
    | inl equal ↦ ap (option_map (λ (x : Said). x.file)) (ap (slice_get before) equal.1 ∙ same ∙ sym (ap (slice_get now) equal.1))
    | inr less ↦ h.files k (let ne = less.1 in omega (arith, below, ne))
  ];
}

pub other_found : (before now : List Said) (number : ℕ) → number < length now → file_at before number ≡ file_at now number → OtherSoFar before now number None → OtherSoFar before now (number + 1) (Some number)
other_found before now number inside file h = record {
  within = λ at is. subst (λ n. n < length now) (same_some number at is) inside;
  rest = λ k below apart. elim (eqb_tells k number) [
    | inl equal ↦ absurd (apart (ap Some (sym equal.1)))
    | inr less ↦ h.rest k (let ne = less.1 in omega (arith, below, ne)) (λ is. none_some k is)
  ];
  files = λ k below. elim (eqb_tells k number) [
    | inl equal ↦ ap (file_at before) equal.1 ∙ file ∙ sym (ap (file_at now) equal.1)
    | inr less ↦ h.files k (let ne = less.1 in omega (arith, below, ne))
  ];
}

pub other_is : (before now : List Said) (number at : ℕ) (other : Option ℕ) → other ≡ Some at → length before ≡ length now → length now ≤ number → OtherSoFar before now number other → IsOnlyOther at before now
other_is before now number at other is as_many over h = record {
  each = as_many;
  within = h.within at is;
  files = λ k. elim (leb_tells (length now) k) [
    | inl past ↦ ap (option_map (λ (x : Said). x.file)) (slice_get_past before k (let p = past.1 in omega (arith, p, as_many)) ∙ sym (slice_get_past now k past.1))
    | inr inside ↦ h.files k (let p = inside.1 in omega (arith, p, over))
  ];
  rest = λ k apart. elim (leb_tells (length now) k) [
    | inl past ↦ slice_get_past before k (let p = past.1 in omega (arith, p, as_many)) ∙ sym (slice_get_past now k past.1)
    | inr inside ↦ h.rest k (let p = inside.1 in omega (arith, p, over)) (λ e. apart (same_some k at (sym e ∙ is)))
  ];
}

pub none_is : (before now : List Said) (number : ℕ) (other : Option ℕ) → other ≡ None → length before ≡ length now → length now ≤ number → OtherSoFar before now number other → before ≡ now
none_is before now number other is as_many over h = by_place before now (λ k. elim (leb_tells (length now) k) [
  | inl past ↦ slice_get_past before k (let p = past.1 in omega (arith, p, as_many)) ∙ sym (slice_get_past now k past.1)
  | inr inside ↦ h.rest k (let p = inside.1 in omega (arith, p, over)) (λ e. none_some k (sym is ∙ e))
])

-- ---- which of them alone uses other names

abbrev pub UseSoFar : List (List ℕ) → List (List ℕ) → List Said → ℕ → Option ℕ → Type 0
UseSoFar was others before number other = (k : ℕ) (x : Said) → k < number → (other ≡ Some k → ⊥) → slice_get before k ≡ Some x → UsesSame was others x.page

pub use_same : (was others : List (List ℕ)) (before : List Said) (number : ℕ) (other : Option ℕ) (d : Said) → slice_get before number ≡ Some d → UsesSame was others d.page
    → UseSoFar was others before number other → UseSoFar was others before (number + 1) other
use_same was others before number other d here same h k x below apart there = elim (eqb_tells k number) [
  | inl equal ↦ subst (λ (y : Said). UsesSame was others y.page) (same_some d x (sym here ∙ ap (slice_get before) (sym equal.1) ∙ there)) same
  | inr less ↦ h k x (let ne = less.1 in omega (arith, below, ne)) apart there
]

pub use_found : (was others : List (List ℕ)) (before : List Said) (number : ℕ) → UseSoFar was others before number None → UseSoFar was others before (number + 1) (Some number)
use_found was others before number h k x below apart there = elim (eqb_tells k number) [
  | inl equal ↦ absurd (apart (ap Some (sym equal.1)))
  | inr less ↦ h k x (let ne = less.1 in omega (arith, below, ne)) (λ is. none_some k is) there
]

pub use_rest : (was others : List (List ℕ)) (before : List Said) (number at : ℕ) (other : Option ℕ) → other ≡ Some at → length before ≤ number → UseSoFar was others before number other → RestUseSame at was others before
use_rest was others before number at other is over h k x apart there =
    h k x (let w = slice_get_within before k x there in omega (arith, w, over)) (λ e. apart (same_some k at (sym e ∙ is))) there

pub use_all : (was others : List (List ℕ)) (before : List Said) (number : ℕ) (other : Option ℕ) → other ≡ None → length before ≤ number → UseSoFar was others before number other → UseSame was others before
use_all was others before number other is over h k x there =
    h k x (let w = slice_get_within before k x there in omega (arith, w, over)) (λ e. none_some k (sym is ∙ e)) there

-- ---- numbers that are added

pub adds_next : (numbered : List ℕ → Option ℕ) (bound : ℕ) (done : List (List ℕ)) (name : List ℕ) (before mid now : List ℕ)
    → Adds numbered bound done before mid → Adds numbered bound (name ∷ []) mid now → Adds numbered bound (done ++ name ∷ []) before now
adds_next numbered bound done name before mid now h g = record {
  same = λ k n is. g.same k n (h.same k n is);
  right = λ r. g.right (h.right r);
  all = λ m n has is. elim (Contains-append_cases done (name ∷ []) m has) [
    | inl first ↦ let (k, there) = h.all m n first is in (k, g.same k n there)
    | inr last ↦ g.all m n last is
  ];
}

pub only_one : (name m : List ℕ) → Contains (name ∷ []) m → name ≡ m
only_one name m has = elim (in_cases name [] m has) [ inl same ↦ same | inr none ↦ absurd (none_in m none) ]

pub adds_nothing : (numbered : List ℕ → Option ℕ) (bound : ℕ) (name : List ℕ) (near : List ℕ) → ((n : ℕ) → numbered name ≡ Some n → IsOneOf near n) → Adds numbered bound (name ∷ []) near near
adds_nothing numbered bound name near there = record {
  same = λ k n is. is;
  right = λ h. h;
  all = λ m n has is. there n (ap numbered (only_one name m has) ∙ is);
}

-- one more number after these
pub pushed_same : {X : Type 0} (xs : List X) (x : X) (k : ℕ) (y : X) → slice_get xs k ≡ Some y → slice_get (xs ++ x ∷ []) k ≡ Some y
pushed_same [] x k y is = absurd (none_some y is)
pushed_same (z ∷ xs) x zero y is = is
pushed_same (z ∷ xs) x (suc k) y is = pushed_same xs x k y is

pub pushed_cases : {X : Type 0} (xs : List X) (x : X) (k : ℕ) (y : X) → slice_get (xs ++ x ∷ []) k ≡ Some y → (slice_get xs k ≡ Some y) ⊎ ((k ≡ length xs) × (x ≡ y))
pushed_cases [] x zero y is = inr (refl, same_some x y is)
pushed_cases [] x (suc k) y is = absurd (none_some y is)
pushed_cases (z ∷ xs) x zero y is = inl is
pushed_cases (z ∷ xs) x (suc k) y is = elim (pushed_cases xs x k y is) [ inl here ↦ inl here | inr last ↦ inr (ap suc last.0, last.1) ]

pub pushed_last : {X : Type 0} (xs : List X) (x : X) → slice_get (xs ++ x ∷ []) (length xs) ≡ Some x
pushed_last [] x = refl
pushed_last (z ∷ xs) x = pushed_last xs x

pub adds_one : (numbered : List ℕ → Option ℕ) (bound : ℕ) (name : List ℕ) (near : List ℕ) (number : ℕ) → numbered name ≡ Some number → number < bound → (IsOneOf near number → ⊥)
    → Adds numbered bound (name ∷ []) near (near ++ number ∷ [])
adds_one numbered bound name near number numbered_is within new = record {
  same = pushed_same near number;
  right = λ h. record {
    within = λ k n is. elim (pushed_cases near number k n is) [ inl here ↦ h.within k n here | inr last ↦ subst (λ m. m < bound) last.1 within ];
    once = λ k m n one other. elim (pushed_cases near number k n one) [
      | inl here ↦ elim (pushed_cases near number m n other) [
        | inl there ↦ h.once k m n here there
        | inr last ↦ absurd (new (k, here ∙ ap Some (sym last.1)))
      ]
      | inr first ↦ elim (pushed_cases near number m n other) [
        | inl there ↦ absurd (new (m, there ∙ ap Some (sym first.1)))
        | inr last ↦ first.0 ∙ sym last.0
      ]
    ];
  };
  all = λ m n has is.
      let same : number ≡ n = same_some number n (sym numbered_is ∙ ap numbered (only_one name m has) ∙ is) in
      (length near, pushed_last near number ∙ ap Some same);
}

-- as many say something
pub as_many_said : (below : List (Bor Judged)) → length (map said_in (map (λ (b : Bor Judged). b.now) below)) ≡ length below
as_many_said below = length-map (map (λ (b : Bor Judged). b.now) below) said_in ∙ length-map below (λ (b : Bor Judged). b.now)

-- a number of a name is that of a document
pub number_within : (root : List ℕ) (below : List (Bor Judged)) (name : List ℕ) (number : ℕ) → numbers_in root (map (λ (b : Bor Judged). b.now) below) name ≡ Some number → number < length below
number_within root below name number is =
    let js = map (λ (b : Bor Judged). b.now) below in
    let w = slice_get_within (names_said root (map said_in js)) number (Some name) (name_at (names_said root (map said_in js)) name number is) in
    let l = length-map (map said_in js) (λ (s : Said). name_below root s.file) in
    let m = as_many_said below in
    omega (arith, w, l, m)

-- ---- those to which a way leads

pub record NearSoFar (root : List ℕ) (saids : List Said) (at : ℕ) (names : List (List ℕ)) (has : List ℕ → Bool) (number : ℕ) (near : List ℕ) : Type 0 where
  pub first : slice_get near 0 ≡ Some at
  pub right : AreRight (length saids) near
  pub closed : (k r : ℕ) (x : Said) (n : List ℕ) (j : ℕ) → k < number → slice_get near k ≡ Some r → slice_get saids r ≡ Some x → Contains (used_names x.page) n → number_in root saids n ≡ Some j → IsOneOf near j
  pub old : (n : List ℕ) (j : ℕ) → Contains names n → number_in root saids n ≡ Some j → IsOneOf near j
  pub named : (n : List ℕ) (j : ℕ) → has n ≡ true → number_in root saids n ≡ Some j → IsOneOf near j

pub one_right : (bound at : ℕ) → at < bound → AreRight bound (at ∷ [])
one_right bound at within = record { within = only; once = twice }
  where
    only : (k n : ℕ) → slice_get (at ∷ []) k ≡ Some n → n < bound
    only zero n is = subst (λ m. m < bound) (same_some at n is) within
    only (suc k) n is = absurd (none_some n is)

    twice : (k m n : ℕ) → slice_get (at ∷ []) k ≡ Some n → slice_get (at ∷ []) m ≡ Some n → k ≡ m
    twice zero zero n one other = refl
    twice (suc k) m n one other = absurd (none_some n one)
    twice zero (suc m) n one other = absurd (none_some n other)

pub near_begun : (root : List ℕ) (saids : List Said) (at bound : ℕ) (names : List (List ℕ)) (listed : List (List ℕ)) (has : List ℕ → Bool) (start mid near : List ℕ) → bound ≡ length saids → at < bound → start ≡ at ∷ []
    → Adds (number_in root saids) bound names start mid → Adds (number_in root saids) bound listed mid near → ((n : List ℕ) → has n ≡ true → Contains listed n) → NearSoFar root saids at names has 0 near
near_begun root saids at bound names listed has start mid near same within is h g there =
    let begun : Adds (number_in root saids) bound names (at ∷ []) mid = subst (λ s. Adds (number_in root saids) bound names s mid) is h in
    record {
      first = g.same 0 at (begun.same 0 at refl);
      right = subst (λ b. AreRight b near) same (g.right (begun.right (one_right bound at within)));
      closed = λ k r x n j below. absurd (omega (arith, below));
      old = λ n j has_n to. let (k, found) = begun.all n j has_n to in (k, g.same k j found);
      named = λ n j is_n to. g.all n j (there n is_n) to;
    }

pub near_more : (root : List ℕ) (saids : List Said) (at bound : ℕ) (names : List (List ℕ)) (has : List ℕ → Bool) (number next : ℕ) (x : Said) (before now : List ℕ) → bound ≡ length saids → slice_get before number ≡ Some next
    → slice_get saids next ≡ Some x → NearSoFar root saids at names has number before → Adds (number_in root saids) bound (used_names x.page) before now → NearSoFar root saids at names has (number + 1) now
near_more root saids at bound names listed number next x before now same here says h g = record {
  first = g.same 0 at h.first;
  right = subst (λ b. AreRight b now) same (g.right (subst (λ b. AreRight b before) (sym same) h.right));
  closed = λ k r y n j below is says_y has to.
      elim (eqb_tells k number) [
        | inl equal ↦
            let r_is : next ≡ r = same_some next r (sym (g.same number next here) ∙ sym (ap (slice_get now) equal.1) ∙ is) in
            let y_is : x ≡ y = same_some x y (sym says ∙ ap (slice_get saids) r_is ∙ says_y) in
            g.all n j (subst (λ (z : Said). Contains (used_names z.page) n) (sym y_is) has) to
        | inr less ↦
            let k_below : k < number = (let ne = less.1 in omega (arith, below, ne)) in
            let within : k < length before = (let w = slice_get_within before number next here in omega (arith, w, k_below)) in
            let there : slice_get before k ≡ Some (get_or before k 0) = slice_get-get_or before k 0 within in
            let was : slice_get before k ≡ Some r = there ∙ ap Some (same_some (get_or before k 0) r (sym (g.same k (get_or before k 0) there) ∙ is)) in
            let (m, found) = h.closed k r y n j k_below was says_y has to in
            (m, g.same m j found)
      ];
  old = λ n j has to. let (m, there) = h.old n j has to in (m, g.same m j there);
  named = λ n j is_n to. let (m, there) = h.named n j is_n to in (m, g.same m j there);
}

pub near_ended : (root : List ℕ) (saids : List Said) (at : ℕ) (names : List (List ℕ)) (has : List ℕ → Bool) (number : ℕ) (near : List ℕ) → length near ≤ number → NearSoFar root saids at names has number near → AreNear root saids at names has near
near_ended root saids at names listed number near over h = record {
  first = h.first;
  right = h.right;
  closed = λ r x n j among here has to.
      let (k, is) = among in
      h.closed k r x n j (let w = slice_get_within near k r is in omega (arith, w, over)) is here has to;
  old = h.old;
  named = h.named;
}

-- ---- things of these numbers

pub record ThoseSoFar (near : List ℕ) (js : List Judged) (number : ℕ) (those : List Judged) : Type 0 where
  pub each : length those ≡ length (take number near)
  pub are : (k n : ℕ) → k < number → slice_get near k ≡ Some n → slice_get those k ≡ slice_get js n

pub those_next : (near : List ℕ) (js those now : List Judged) (number n : ℕ) (j : Judged) → slice_get near number ≡ Some n → slice_get js n ≡ Some j → now ≡ those ++ j ∷ []
    → ThoseSoFar near js number those → ThoseSoFar near js (number + 1) now
those_next near js those now number n j here judged put h = subst (ThoseSoFar near js (number + 1)) (sym put) (record {
  each = length_push those j ∙ ap (λ m. m + 1) h.each ∙ sym (ap length more ∙ length_push (take number near) (get_or near number 0));
  are = λ k m below is. elim (eqb_tells k number) [
    | inl equal ↦
        let last : length those ≡ k = h.each ∙ length-take-le number near (omega (arith, within)) ∙ sym equal.1 in
        let same : n ≡ m = same_some n m (sym here ∙ sym (ap (slice_get near) equal.1) ∙ is) in
        ap (slice_get (those ++ j ∷ [])) (sym last) ∙ pushed_last those j ∙ sym judged ∙ ap (slice_get js) same
    | inr less ↦
        let k_below : k < number = (let ne = less.1 in omega (arith, below, ne)) in
        let inside : k < length those = (let e = h.each in let t = length-take-le number near (omega (arith, within)) in omega (arith, e, t, k_below)) in
        let there : slice_get those k ≡ Some (get_or those k j) = slice_get-get_or those k j inside in
        pushed_same those j k (get_or those k j) there ∙ sym there ∙ h.are k m k_below is
  ];
})
  where
    within : number < length near
    within = slice_get_within near number n here

    more : take (number + 1) near ≡ take number near ++ get_or near number 0 ∷ []
    more = take_more near number 0 within

pub those_all : (near : List ℕ) (js those : List Judged) (number : ℕ) → length near ≤ number → ThoseSoFar near js number those → AreThose near js those
those_all near js those number over h = record {
  each = h.each ∙ ap length (take_all number near over);
  are = λ k n is. h.are k n (let w = slice_get_within near k n is in omega (arith, w, over)) is;
}

-- ---- the names that are lacking

pub lacking_more : (ds : List KeptDocument) (number : ℕ) (d : KeptDocument) (before after : List (List ℕ)) → slice_get ds number ≡ Some d → after ≡ before ++ own_lacking d
    → before ≡ flat_map own_lacking (take number ds) → after ≡ flat_map own_lacking (take (number + 1) ds)
lacking_more ds number d before after here put so_far =
    let within : number < length ds = slice_get_within ds number d here in
    let is : get_or ds number d ≡ d = get_or_from_slice_get ds number d d here in
    put ∙ (λ i. so_far i ++ own_lacking d) ∙ ap (λ ns. flat_map own_lacking (take number ds) ++ ns) (sym (append-nil (own_lacking d)))
    ∙ sym (flat_map-append own_lacking (take number ds) (d ∷ []))
    ∙ sym (ap (flat_map own_lacking) (take_more ds number d within ∙ ap (λ x. take number ds ++ x ∷ []) is))

-- ---- a set has only its keys

key_next : (n k : List ℕ) (ks : List (List ℕ)) (b rest : Bool) → is_eq (slice_cmp nat_cmp n k) ≡ b → (rest ≡ true → Contains ks n) → (b || rest) ≡ true → Contains (k ∷ ks) n
key_next n k ks true rest same later h = subst (Contains (k ∷ ks)) (sym ((bytes_eq-Decides n k).0 (sym (is_eq-slice_cmp n k) ∙ same))) (first_in k ks)
key_next n k ks false rest other later h = later_in k ks n (later h)

among_keys : (n : List ℕ) (ks : List (Bor (List ℕ))) → list_any (λ (k : Bor (List ℕ)). is_eq (slice_cmp nat_cmp n k.now)) ks ≡ true → Contains (map (λ (b : Bor (List ℕ)). b.now) ks) n
among_keys n [] e = cc
among_keys n (k ∷ ks) e =
    key_next n k.now (map (λ (b : Bor (List ℕ)). b.now) ks) (is_eq (slice_cmp nat_cmp n k.now)) (list_any (λ (m : Bor (List ℕ)). is_eq (slice_cmp nat_cmp n m.now)) ks) refl (among_keys n ks) e

pub name_key : (names : BTreeSet (Bor (List ℕ))) (n : List ℕ) → contains_name names n ≡ true → Contains (map (λ (b : Bor (List ℕ)). b.now) (keys names)) n
name_key names n is = among_keys n (keys names) is

-- a set after a name was put
pub name_put : (key : Bor (List ℕ)) (s t : BTreeSet (Bor (List ℕ))) → UpdatesBy (λ x y. slice_cmp nat_cmp x.now y.now) (λ k. slice_cmp nat_cmp key.now k.now) s t true
    → (n : List ℕ) → contains_name t n ≡ cond (bytes_eq key.now n) true (contains_name s n)
name_put key s t h n = h.0 (record { ref_ptr = (0, 0); now = n }) ∙ ap (λ b. cond b true (contains_name s n)) (is_eq-slice_cmp key.now n)

pub put_more : (key : Bor (List ℕ)) (s t : BTreeSet (Bor (List ℕ))) → UpdatesBy (λ x y. slice_cmp nat_cmp x.now y.now) (λ k. slice_cmp nat_cmp key.now k.now) s t true
    → (n : List ℕ) → contains_name s n ≡ true → contains_name t n ≡ true
put_more key s t h n is = name_put key s t h n ∙ ap (cond (bytes_eq key.now n) true) is ∙ both (bytes_eq key.now n)
  where
    both : (b : Bool) → cond b true true ≡ true
    both true = refl
    both false = refl

-- a pass that puts none
pub pass_next : (root : List ℕ) (js : List Judged) (number : ℕ) (j : Judged) (before now : List ℕ → Bool) → slice_get js number ≡ Some j → ((n : List ℕ) → now n ≡ before n) → HasOwnBelow root now j
    → ((k : ℕ) (i : Judged) → k < number → slice_get js k ≡ Some i → HasOwnBelow root before i)
    → (k : ℕ) (i : Judged) → k < number + 1 → slice_get js k ≡ Some i → HasOwnBelow root now i
pass_next root js number j before now here same own so_far k i below is = elim (eqb_tells k number) [
  | inl equal ↦ subst (HasOwnBelow root now) (same_some j i (sym here ∙ sym (ap (slice_get js) equal.1) ∙ is)) own
  | inr less ↦ λ n extends listed.
      same (own_name root i) ∙ so_far k i (let ne = less.1 in omega (arith, below, ne)) is n extends (sym (same n) ∙ listed)
]

-- ---- documents that are put in their places

pub record PutSoFar (kept : List KeptDocument) (near : List ℕ) (those : List KeptDocument) (at : ℕ) (documents left : List KeptDocument) : Type 0 where
  pub put : documents ≡ set_each kept (take at near) (take at those)
  pub each : length left ≡ length those
  pub rest : (k : ℕ) → at ≤ k → slice_get left k ≡ slice_get those k

pub put_next : (kept : List KeptDocument) (near : List ℕ) (those : List KeptDocument) (at n : ℕ) (g old : KeptDocument) (documents left now more : List KeptDocument) → length those ≡ length near
    → slice_get near at ≡ Some n → slice_get left at ≡ Some g → now ≡ set documents n g → more ≡ set left at old → PutSoFar kept near those at documents left → PutSoFar kept near those (at + 1) now more
put_next kept near those at n g old documents left now more as_many here is put_is more_is h =
    let in_near : at < length near = slice_get_within near at n here in
    let in_those : at < length those = omega (arith, in_near, as_many) in
    let there : slice_get those at ≡ Some g = sym (h.rest at (omega arith)) ∙ is in
    let more_near : take (at + 1) near ≡ take at near ++ n ∷ [] = take_more near at n in_near ∙ ap (λ x. take at near ++ x ∷ []) (get_or_from_slice_get near at n n here) in
    let more_those : take (at + 1) those ≡ take at those ++ g ∷ [] = take_more those at g in_those ∙ ap (λ x. take at those ++ x ∷ []) (get_or_from_slice_get those at g g there) in
    let as_long : length (take at near) ≡ length (take at those) =
    (let l = length-take-le at near (omega (arith, in_near)) in let m = length-take-le at those (omega (arith, in_those)) in omega (arith, l, m)) in
    record {
      put = put_is ∙ ap (λ ds. set ds n g) h.put ∙ sym (each_more kept (take at near) (take at those) n g as_long) ∙ (λ i. set_each kept (sym more_near i) (sym more_those i));
      each = ap length more_is ∙ length-set left at old ∙ h.each;
      rest = λ k over. ap (λ ds. slice_get ds k) more_is ∙ set_there left at k old (λ e. omega (arith, over, e)) ∙ h.rest k (omega (arith, over));
    }

pub put_ended : (kept : List KeptDocument) (near : List ℕ) (those : List KeptDocument) (at : ℕ) (documents left : List KeptDocument) → length those ≡ length near → length near ≤ at → PutSoFar kept near those at documents left
    → documents ≡ set_each kept near those
put_ended kept near those at documents left as_many over h = h.put ∙ (λ i. set_each kept (take_all at near over i) (take_all at those (omega (arith, over, as_many)) i))
