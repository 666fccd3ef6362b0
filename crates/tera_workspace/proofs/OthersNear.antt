-- Which of the documents of a site have something else around their templates, and the names of their files.
use Rattle.std.proofs.Common.{◌≡◌, ◌≢◌, ◌∙◌, ◌∷◌, ◌++◌, ◌+◌, ◌<◌, ◌≤◌, ◌⊎◌, inl, inr, ℕ, zero, suc, List, [], length, get_or, map, Bool, true, false, cond, None, Some, string_bytes, option_map, refl, sym, ap, subst, arith}
use Rattle.std.proofs.Common.{if◌then◌else◌}
use Rattle.std.specs.Prelude.{slice_get}
use Rattle.std.specs.Cmp.Lexicographic.{slice_cmp}
use Rattle.std.specs.List.{AllByRecursion, find}
use Rattle.std.specs.Ordering.{nat_cmp}
use Rattle.std.specs.Str.{bytes_eq}
use Rattle.std.specs.declared.cmp.Ordering.TheVariants.{Less}
use Rattle.std.proofs.lemmas.Bool.Decides.{eqb_tells}
use Rattle.std.proofs.lemmas.Option.{slice_get-get_or, slice_get_within}
use Rattle.std.proofs.lemmas.Slice.Eq.{bytes_eq-Decides}
use Rattle.tera_site.specs.Kept.{kept_view}
use Rattle.tera_workspace.specs.KeptSites.{around_file}
use Rattle.tera_workspace.specs.Names.{is_among}
use Rattle.tera_workspace.specs.Near.{AreOthersNear, AreRight, IsOneOf, IsOtherNear, set_each}
use Rattle.tera_workspace.specs.SiteValues.{AroundFile}
use Rattle.tera_workspace.specs.Sites.{AreRenewed, around_named, is_in}
use Rattle.tera_workspace.specs.Sources.{AreInOrder}
use Rattle.tera_workspace.specs.declared.sites.KeptDocument.{KeptDocument}
use Rattle.tera_workspace.proofs.NameSets.{all_among}
use Rattle.tera_workspace.proofs.NearSteps.{pushed_cases, pushed_last, pushed_same}
use Rattle.tera_workspace.proofs.OrderLemmas.{less_apart, same_text}
use Rattle.tera_workspace.proofs.RenewedLemmas.{Row, before_all, each_rest, each_there, none_some, row, same_some, seen_at, viewed}

abbrev files : List KeptDocument → List (List ℕ)
files ds = map (λ (x : AroundFile). x.file) (map around_file ds)

file_at : (ds : List KeptDocument) (q : ℕ) (d : KeptDocument) → slice_get ds q ≡ Some d → slice_get (files ds) q ≡ Some (string_bytes d.file)
file_at ds q d here = viewed (λ (x : AroundFile). x.file) (map around_file ds) q (around_file d) (viewed around_file ds q d here)

-- ---- what is kept under the name of a file

around_by_test : (n : List ℕ) (d : KeptDocument) (ds : List KeptDocument) (b : Bool) → bytes_eq (string_bytes d.file) n ≡ b
    → around_named n (map around_file (d ∷ ds)) ≡ cond b (Some (kept_view d.around)) (around_named n (map around_file ds))
around_by_test n d ds b is = ap (λ t. option_map (λ (x : AroundFile). x.around) (cond t (Some (around_file d)) (find (is_in n) (map around_file ds)))) is ∙ chosen b
  where
    chosen : (t : Bool) → option_map (λ (x : AroundFile). x.around) (cond t (Some (around_file d)) (find (is_in n) (map around_file ds))) ≡ cond t (Some (kept_view d.around)) (around_named n (map around_file ds))
    chosen true = refl
    chosen false = refl

around_at : (ds : List KeptDocument) (q : ℕ) (d : KeptDocument) (n : List ℕ) → AreInOrder (files ds) → slice_get ds q ≡ Some d → string_bytes d.file ≡ n → around_named n (map around_file ds) ≡ Some (kept_view d.around)
around_at [] q d n ordered here file = absurd (none_some d here)
around_at (x ∷ ds) zero d n ordered here file =
    let same : x ≡ d = same_some x d here in
    around_by_test n x ds true (ap (λ (y : KeptDocument). bytes_eq (string_bytes y.file) n) same ∙ ap (λ m. bytes_eq m n) file ∙ same_text n) ∙ ap (λ (y : KeptDocument). Some (kept_view y.around)) same
around_at (x ∷ ds) (suc q) d n ordered here file =
    around_by_test n x ds false (ap (bytes_eq (string_bytes x.file)) (sym file) ∙ less_apart (string_bytes x.file) (string_bytes d.file) (before_all (string_bytes x.file) (string_bytes d.file) (files ds) q ordered.0 (file_at ds q d here)))
    ∙ around_at ds q d n ordered.1 here file

none_next : (n : List ℕ) (x : KeptDocument) (ds : List KeptDocument) (b : Bool) → bytes_eq (string_bytes x.file) n ≡ b → (string_bytes x.file ≡ n → ⊥) → around_named n (map around_file ds) ≡ None → around_named n (map around_file (x ∷ ds)) ≡ None
none_next n x ds true is apart rest = absurd (apart ((bytes_eq-Decides (string_bytes x.file) n).0 is))
none_next n x ds false is apart rest = around_by_test n x ds false is ∙ rest

around_none : (ds : List KeptDocument) (n : List ℕ) → ((q : ℕ) (d : KeptDocument) → slice_get ds q ≡ Some d → string_bytes d.file ≡ n → ⊥) → around_named n (map around_file ds) ≡ None
around_none [] n none = refl
around_none (x ∷ ds) n none = none_next n x ds (bytes_eq (string_bytes x.file) n) refl (none 0 x refl) (around_none ds n (λ q. none (suc q)))

-- the place of a file, if it is there
abbrev Placed : List KeptDocument → List ℕ → Type 0
Placed ds n = ((q : ℕ) × (d : KeptDocument) × (slice_get ds q ≡ Some d) × (string_bytes d.file ≡ n)) ⊎ ((q : ℕ) (d : KeptDocument) → slice_get ds q ≡ Some d → string_bytes d.file ≡ n → ⊥)

placed : (ds : List KeptDocument) (n : List ℕ) → Placed ds n
placed [] n = inr (λ q d here file. none_some d here)
placed (x ∷ ds) n = by (bytes_eq (string_bytes x.file) n) refl (placed ds n)
  where
    by : (b : Bool) → bytes_eq (string_bytes x.file) n ≡ b → Placed ds n → Placed (x ∷ ds) n
    by true is rest = inl (0, x, refl, (bytes_eq-Decides (string_bytes x.file) n).0 is)
    by false is (inl (q, d, here, file)) = inl (suc q, d, here, file)
    by false is (inr none) = inr other
      where
        other : (q : ℕ) (d : KeptDocument) → slice_get (x ∷ ds) q ≡ Some d → string_bytes d.file ≡ n → ⊥
        other zero d here file =
            let e : bytes_eq (string_bytes x.file) n ≡ true = ap (λ (y : KeptDocument). bytes_eq (string_bytes y.file) n) (same_some x d here) ∙ ap (λ m. bytes_eq m n) file ∙ same_text n in
            false_true (sym is ∙ e)
          where
            false_true : false ≡ true → ⊥
            false_true e = cc
        other (suc q) d here file = none q d here file

-- ---- the names of the files of some documents, in order

pub record FilesSoFar (kept : List KeptDocument) (numbers : List ℕ) (number : ℕ) (names : List (List ℕ)) : Type 0 where
  pub ordered : AreInOrder names
  pub each : (n : List ℕ) → is_among n names ≡ true → (q : ℕ) × (d : KeptDocument) × (q < number) × IsOneOf numbers q × (slice_get kept q ≡ Some d) × (string_bytes d.file ≡ n)
  pub all : (q : ℕ) (d : KeptDocument) → q < number → IsOneOf numbers q → slice_get kept q ≡ Some d → is_among (string_bytes d.file) names ≡ true

before_at : (ns : List (List ℕ)) (i j : ℕ) (a b : List ℕ) → AreInOrder ns → i < j → slice_get ns i ≡ Some a → slice_get ns j ≡ Some b → slice_cmp nat_cmp a b ≡ Less
before_at [] i j a b ordered less here there = absurd (none_some a here)
before_at (n ∷ ns) i zero a b ordered less here there = absurd (omega (arith, less))
before_at (n ∷ ns) zero (suc j) a b ordered less here there = subst (λ m. slice_cmp nat_cmp m b ≡ Less) (same_some n a here) (before_all n b ns j ordered.0 there)
before_at (n ∷ ns) (suc i) (suc j) a b ordered less here there = before_at ns i j a b ordered.1 (omega (arith, less)) here there

all_push : (Q : List ℕ → Type 0) (ns : List (List ℕ)) (f : List ℕ) → AllByRecursion Q ns → Q f → AllByRecursion Q (ns ++ f ∷ [])
all_push Q [] f h last = (last, tt)
all_push Q (n ∷ ns) f h last = (h.0, all_push Q ns f h.1 last)

in_order_push : (ns : List (List ℕ)) (f : List ℕ) → AreInOrder ns → AllByRecursion (λ m. slice_cmp nat_cmp m f ≡ Less) ns → AreInOrder (ns ++ f ∷ [])
in_order_push [] f ordered before = (tt, tt)
in_order_push (n ∷ ns) f ordered before = (all_push (λ m. slice_cmp nat_cmp n m ≡ Less) ns f ordered.0 before.0, in_order_push ns f ordered.1 before.1)

last_among : (n : List ℕ) (ns : List (List ℕ)) → is_among n (ns ++ n ∷ []) ≡ true
last_among n [] = ap (λ (b : Bool). if b then true else false) (same_text n)
last_among n (m ∷ ns) = by (bytes_eq m n) (last_among n ns)
  where
    by : (b : Bool) → is_among n (ns ++ n ∷ []) ≡ true → (if b then true else is_among n (ns ++ n ∷ [])) ≡ true
    by true h = refl
    by false h = h

still_among : (n f : List ℕ) (ns : List (List ℕ)) → is_among n ns ≡ true → is_among n (ns ++ f ∷ []) ≡ true
still_among n f [] h = cc
still_among n f (m ∷ ns) h = by (bytes_eq m n) h (still_among n f ns)
  where
    by : (b : Bool) → (if b then true else is_among n ns) ≡ true → (is_among n ns ≡ true → is_among n (ns ++ f ∷ []) ≡ true) → (if b then true else is_among n (ns ++ f ∷ [])) ≡ true
    by true e rest = refl
    by false e rest = rest e

among_cases : (n f : List ℕ) (ns : List (List ℕ)) → is_among n (ns ++ f ∷ []) ≡ true → (is_among n ns ≡ true) ⊎ (f ≡ n)
among_cases n f [] h = by (bytes_eq f n) refl h
  where
    by : (b : Bool) → bytes_eq f n ≡ b → (if b then true else false) ≡ true → (false ≡ true) ⊎ (f ≡ n)
    by true is e = inr ((bytes_eq-Decides f n).0 is)
    by false is e = inl e
among_cases n f (m ∷ ns) h = by (bytes_eq m n) h (among_cases n f ns)
  where
    by : (b : Bool) → (if b then true else is_among n (ns ++ f ∷ [])) ≡ true → (is_among n (ns ++ f ∷ []) ≡ true → (is_among n ns ≡ true) ⊎ (f ≡ n)) → ((if b then true else is_among n ns) ≡ true) ⊎ (f ≡ n)
    by true e rest = inl refl
    by false e rest = rest e

pub files_none : (kept : List KeptDocument) (numbers : List ℕ) → FilesSoFar kept numbers 0 []
files_none kept numbers = record {
  ordered = tt;
  each = λ n e. cc;
  all = λ q d below. absurd (omega (arith, below));
}

pub files_passed : (kept : List KeptDocument) (numbers : List ℕ) (number : ℕ) (names : List (List ℕ)) → (IsOneOf numbers number → ⊥) → FilesSoFar kept numbers number names → FilesSoFar kept numbers (number + 1) names
files_passed kept numbers number names none h = record {
  ordered = h.ordered;
  each = λ n among. let (q, d, below, is_one, here, file) = h.each n among in (q, d, omega (arith, below), is_one, here, file);
  all = λ q d below is_one here. elim (eqb_tells q number) [
    | inl equal ↦ absurd (none (subst (IsOneOf numbers) equal.1 is_one))
    | inr less ↦ h.all q d (let ne = less.1 in omega (arith, below, ne)) is_one here
  ];
}

pub files_more : (kept : List KeptDocument) (numbers : List ℕ) (number : ℕ) (e : KeptDocument) (names now : List (List ℕ)) → AreInOrder (files kept) → IsOneOf numbers number → slice_get kept number ≡ Some e → now ≡ names ++ string_bytes e.file ∷ []
    → FilesSoFar kept numbers number names → FilesSoFar kept numbers (number + 1) now
files_more kept numbers number e names now ordered is_one here put h = subst (FilesSoFar kept numbers (number + 1)) (sym put) (record {
  ordered = in_order_push names (string_bytes e.file) h.ordered (all_among (λ m. slice_cmp nat_cmp m (string_bytes e.file) ≡ Less) names (λ m among.
      let (q, d, below, is_m, there, file) = h.each m among in
      subst (λ a. slice_cmp nat_cmp a (string_bytes e.file) ≡ Less) file (before_at (files kept) q number (string_bytes d.file) (string_bytes e.file) ordered below (file_at kept q d there) (file_at kept number e here))));
  each = λ n among. elim (among_cases n (string_bytes e.file) names among) [
    | inl before ↦ let (q, d, below, is_q, there, file) = h.each n before in (q, d, omega (arith, below), is_q, there, file)
    | inr last ↦ (number, e, omega arith, is_one, here, last)
  ];
  all = λ q d below is_q there. elim (eqb_tells q number) [
    | inl equal ↦
        let same : e ≡ d = same_some e d (sym here ∙ sym (ap (slice_get kept) equal.1) ∙ there) in
        subst (λ (y : KeptDocument). is_among (string_bytes y.file) (names ++ string_bytes e.file ∷ []) ≡ true) same (last_among (string_bytes e.file) names)
    | inr less ↦ still_among (string_bytes d.file) (string_bytes e.file) names (h.all q d (let ne = less.1 in omega (arith, below, ne)) is_q there)
  ];
})

-- ---- they are those around whose templates something else is

module _ (kept : List KeptDocument) (near : List ℕ) (documents : List KeptDocument) (numbers : List ℕ) (names : List (List ℕ)) (number : ℕ)
    (ordered : AreInOrder (files kept)) (same_files : files (set_each kept near documents) ≡ files kept) (right : AreRight (length kept) near) (as_many : length documents ≡ length near)
    (others : AreOthersNear kept near documents numbers) (over : length kept ≤ number) (so_far : FilesSoFar kept numbers number names) where
  abbrev news : List KeptDocument
  news = set_each kept near documents

  new_ordered : AreInOrder (files news)
  new_ordered = subst AreInOrder (sym same_files) ordered

  inside : (q : ℕ) (d : KeptDocument) → slice_get kept q ≡ Some d → q < number
  inside q d here = (let w = slice_get_within kept q d here in omega (arith, w, over))

  -- the file in a place is what it was
  file_now : (q : ℕ) (d e : KeptDocument) → slice_get kept q ≡ Some d → slice_get news q ≡ Some e → string_bytes e.file ≡ string_bytes d.file
  file_now q d e was is = same_some (string_bytes e.file) (string_bytes d.file) (sym (file_at news q e is) ∙ ap (λ fs. slice_get fs q) same_files ∙ file_at kept q d was)

  is_other : (n : List ℕ) → is_among n names ≡ true → around_named n (map around_file news) ≢ around_named n (map around_file kept)
  is_other n among =
      let (q, d, below, is_one, here, file) = so_far.each n among in
      let o : IsOtherNear kept near documents q = others.others q is_one in
      let d_is : o.before ≡ d = same_some o.before d (sym o.was ∙ here) in
      let there : slice_get news q ≡ Some o.now = each_there kept near documents o.place q o.now right o.near_is o.is in
      λ same.
      o.other (ap (λ (y : KeptDocument). kept_view y.around) d_is
      ∙ same_some (kept_view d.around) (kept_view o.now.around)
      (sym (around_at kept q d n ordered here file) ∙ sym same ∙ around_at news q o.now n new_ordered there (file_now q d o.now here there ∙ file)))

  by_place : (n : List ℕ) (q : ℕ) (d : KeptDocument) → is_among n names ≡ false → slice_get kept q ≡ Some d → string_bytes d.file ≡ n → Row near q → around_named n (map around_file news) ≡ around_named n (map around_file kept)
  by_place n q d free here file (inr none) =
      let there : slice_get news q ≡ Some d = each_rest kept near documents q none ∙ here in
      around_at news q d n new_ordered there file ∙ sym (around_at kept q d n ordered here file)
  by_place n q d free here file (inl (k, is)) =
      let within_k : k < length documents = (let w = slice_get_within near k q is in omega (arith, w, as_many)) in
      let e = get_or documents k d in
      let is_e : slice_get documents k ≡ Some e = slice_get-get_or documents k d within_k in
      let there : slice_get news q ≡ Some e = each_there kept near documents k q e right is is_e in
      elim (others.same k q d e is here is_e) [
        | inl is_one ↦ absurd (false_true (sym free ∙ ap (λ m. is_among m names) (sym file) ∙ so_far.all q d (inside q d here) is_one here))
        | inr equal ↦ around_at news q e n new_ordered there (file_now q d e here there ∙ file) ∙ ap Some (sym equal) ∙ sym (around_at kept q d n ordered here file)
      ]
    where
      false_true : false ≡ true → ⊥
      false_true e = cc

  is_same : (n : List ℕ) → is_among n names ≡ false → around_named n (map around_file news) ≡ around_named n (map around_file kept)
  is_same n free = by (placed kept n)
    where
      by : Placed kept n → around_named n (map around_file news) ≡ around_named n (map around_file kept)
      by (inl (q, d, here, file)) = by_place n q d free here file (row near q)
      by (inr none) =
          around_none news n (λ q e is file.
          let at : slice_get (files kept) q ≡ Some (string_bytes e.file) = ap (λ fs. slice_get fs q) (sym same_files) ∙ file_at news q e is in
          let (f, here_f, this_f) = seen_at (λ (x : AroundFile). x.file) (map around_file kept) q (string_bytes e.file) at in
          let (d, here, this) = seen_at around_file kept q f here_f in
          none q d here (ap (λ (x : AroundFile). x.file) this ∙ this_f ∙ file))
          ∙ sym (around_none kept n none)

  pub names_renewed : AreRenewed names (map around_file kept) (map around_file news)
  names_renewed = record { ordered = so_far.ordered; others = is_other; same = is_same }

-- ---- the numbers of those

pub record OthersSoFar (kept : List KeptDocument) (near : List ℕ) (documents : List KeptDocument) (number : ℕ) (numbers : List ℕ) : Type 0 where
  pub others : (q : ℕ) → IsOneOf numbers q → IsOtherNear kept near documents q
  pub same : (k q : ℕ) (d e : KeptDocument) → k < number → slice_get near k ≡ Some q → slice_get kept q ≡ Some d → slice_get documents k ≡ Some e → IsOneOf numbers q ⊎ (kept_view d.around ≡ kept_view e.around)

pub others_passed : (kept : List KeptDocument) (near : List ℕ) (documents : List KeptDocument) (number m : ℕ) (f g : KeptDocument) (numbers : List ℕ) → slice_get near number ≡ Some m → slice_get kept m ≡ Some f → slice_get documents number ≡ Some g
    → kept_view f.around ≡ kept_view g.around → OthersSoFar kept near documents number numbers → OthersSoFar kept near documents (number + 1) numbers
others_passed kept near documents number m f g numbers here was made equal h = record {
  others = h.others;
  same = λ k q d e below is old new. elim (eqb_tells k number) [
    | inl same ↦
        let q_is : m ≡ q = same_some m q (sym here ∙ sym (ap (slice_get near) same.1) ∙ is) in
        let d_is : f ≡ d = same_some f d (sym was ∙ ap (slice_get kept) q_is ∙ old) in
        let e_is : g ≡ e = same_some g e (sym made ∙ sym (ap (slice_get documents) same.1) ∙ new) in
        inr (sym (ap (λ (x : KeptDocument). kept_view x.around) d_is) ∙ equal ∙ ap (λ (x : KeptDocument). kept_view x.around) e_is)
    | inr less ↦ h.same k q d e (let ne = less.1 in omega (arith, below, ne)) is old new
  ];
}

pub others_more : (kept : List KeptDocument) (near : List ℕ) (documents : List KeptDocument) (number m : ℕ) (f g : KeptDocument) (numbers now : List ℕ) → slice_get near number ≡ Some m → slice_get kept m ≡ Some f → slice_get documents number ≡ Some g
    → kept_view f.around ≢ kept_view g.around → now ≡ numbers ++ m ∷ [] → OthersSoFar kept near documents number numbers → OthersSoFar kept near documents (number + 1) now
others_more kept near documents number m f g numbers now here was made apart put h = subst (OthersSoFar kept near documents (number + 1)) (sym put) (record {
  others = λ q there. elim (pushed_cases numbers m there.0 q there.1) [
    | inl before ↦ h.others q (there.0, before)
    | inr last ↦ subst (IsOtherNear kept near documents) last.1 (record { place = number; before = f; now = g; near_is = here; was = was; is = made; other = apart })
  ];
  same = λ k q d e below is old new. elim (eqb_tells k number) [
    | inl equal ↦
        let q_is : m ≡ q = same_some m q (sym here ∙ sym (ap (slice_get near) equal.1) ∙ is) in
        inl (length numbers, pushed_last numbers m ∙ ap Some q_is)
    | inr less ↦ elim (h.same k q d e (let ne = less.1 in omega (arith, below, ne)) is old new) [
      | inl one ↦ inl (one.0, pushed_same numbers m one.0 q one.1)
      | inr equal ↦ inr equal
    ]
  ];
})
