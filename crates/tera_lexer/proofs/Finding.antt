-- The first marker in some bytes.
use Rattle.std.proofs.Common.{◌≡◌, ℕ, ◌+◌, ◌-◌, ◌<◌, ◌≤◌, true, false, List, [], ◌∷◌, ◌++◌, length, take, drop, Option, Some, None, ⊎_elim, sym, ap, ◌∙◌, refl, subst, arith}
use Rattle.std.proofs.lemmas.Bool.{cases_Bool, cases_lt, false≢true}
use Rattle.std.proofs.lemmas.List.{append-nil, drop_all, take_all, take_at, take-append-drop, drop-drop, length-append, length-drop, length-take-le}
use Rattle.memchr.specs.Find.{OccursAt, FindsNeedle, Nowhere}
use Rattle.memchr.proofs.lemmas.MatchLemmas.{OccursAt-from_part, OccursAt-split}
use Rattle.tera_lexer.specs.grammar.Marks.{begins, NowhereIn}
use Rattle.tera_lexer.specs.reading.Front.{more, find_marker}
use Rattle.tera_lexer.proofs.Texts.{nowhere_before}
use Rattle.tera_lexer.proofs.Markers.{begins_splits, splits_begins}

-- what is after a marker that comes after so many bytes
abbrev pub after_at : List ℕ → ℕ → List ℕ → List ℕ
after_at marker n bytes = drop (length marker) (drop n bytes)

-- what is found is there
abbrev pub IsMarkerAt : List ℕ → List ℕ → Option ℕ → Type 0
IsMarkerAt marker bytes None = NowhereIn (begins marker) bytes []
IsMarkerAt marker bytes (Some n) =
    (bytes ≡ take n bytes ++ (marker ++ after_at marker n bytes)) × NowhereIn (begins marker) (take n bytes) (marker ++ after_at marker n bytes)

marker_further : (marker : List ℕ) (b : ℕ) (bs : List ℕ) (o : Option ℕ) → begins marker (b ∷ bs) ≡ false → IsMarkerAt marker bs o → IsMarkerAt marker (b ∷ bs) (more o)
marker_further marker b bs None here is = (subst (λ l. begins marker (b ∷ l) ≡ false) (sym (append-nil bs)) here, is)
marker_further marker b bs (Some n) here is =
    (ap (λ l. b ∷ l) is.0, (subst (λ l. begins marker (b ∷ l) ≡ false) is.0 here, is.1))

pub find_sound : (marker bytes : List ℕ) → IsMarkerAt marker bytes (find_marker marker bytes)
find_sound marker [] = tt
find_sound marker (b ∷ bs) =
    ⊎_elim
    (λ here. rw here (begins_splits marker (b ∷ bs) here, tt))
    (λ other. rw other (marker_further marker b bs (find_marker marker bs) other (find_sound marker bs)))
    (cases_Bool (begins marker (b ∷ bs)))

find_begins : (marker rest bytes : List ℕ) → length marker ≡ 2 → bytes ≡ marker ++ rest → find_marker marker bytes ≡ Some 0
find_begins [] rest bytes two e = absurd (omega arith)
find_begins (x ∷ xs) rest [] two e = cc
find_begins (x ∷ xs) rest (b ∷ bs) two e = rw (splits_begins (x ∷ xs) (b ∷ bs) rest e) refl

pub find_found : (marker inside rest : List ℕ) → length marker ≡ 2 → NowhereIn (begins marker) inside (marker ++ rest) → find_marker marker (inside ++ (marker ++ rest)) ≡ Some (length inside)
find_found marker [] rest two none = find_begins marker rest (marker ++ rest) two refl
find_found marker (b ∷ bs) rest two none = rw none.0 (ap more (find_found marker bs rest two none.1))

pub find_none : (marker bytes : List ℕ) → NowhereIn (begins marker) bytes [] → find_marker marker bytes ≡ None
find_none marker [] none = refl
find_none marker (b ∷ bs) none =
    let here : begins marker (b ∷ bs) ≡ false = subst (λ l. begins marker (b ∷ l) ≡ false) (append-nil bs) none.0 in
    rw here (ap more (find_none marker bs none.1))

-- where the marker begins, a search of the bytes meets it, and the other way round
pub occurs_where_begins : (marker bytes : List ℕ) (k : ℕ) → length marker ≡ 2 → begins marker (drop k bytes) ≡ true → OccursAt bytes marker k
occurs_where_begins marker bytes k two here =
    let rest : List ℕ = drop (length marker) (drop k bytes) in
    let e = begins_splits marker (drop k bytes) here in
    let fits : k + length marker ≤ length bytes = omega (arith, ap length e, length-append marker rest, length-drop k bytes) in
    OccursAt-from_part bytes marker k fits (ap (take (length marker)) e ∙ take_at marker rest (length marker) refl)

pub begins_where_occurs : (marker bytes : List ℕ) (k : ℕ) → OccursAt bytes marker k → begins marker (drop k bytes) ≡ true
begins_where_occurs marker bytes k occurs = splits_begins marker (drop k bytes) (drop (k + length marker) bytes) (OccursAt-split bytes marker k occurs)

-- it begins at no place before the one that is found
pub begins_nowhere : (marker bytes : List ℕ) (n : ℕ) → length marker ≡ 2 → n ≤ length bytes + 1 → Nowhere (OccursAt bytes marker) 0 n → (k : ℕ) → k < n → begins marker (drop k bytes) ≡ false
begins_nowhere marker bytes n two le nowhere k lt =
    ⊎_elim (λ here. absurd (nowhere k (omega arith) lt (occurs_where_begins marker bytes k two here))) (λ none. none) (cases_Bool (begins marker (drop k bytes)))

-- what a search finds is the first marker
pub find_is : (marker bytes : List ℕ) (found : Option ℕ) → length marker ≡ 2 → FindsNeedle bytes marker 0 found → found ≡ find_marker marker bytes
find_is marker bytes None two nowhere =
    let n : ℕ = length bytes in
    let none = nowhere_before (begins marker) bytes n (omega arith) (λ k lt. begins_nowhere marker bytes (n + 1) two (omega arith) nowhere k (omega arith)) in
    let whole : take n bytes ≡ bytes = take_all n bytes (omega arith) in
    let rest : drop n bytes ≡ [] = drop_all n bytes (omega arith) in
    sym (find_none marker bytes (subst (λ l. NowhereIn (begins marker) l []) whole (subst (NowhereIn (begins marker) (take n bytes)) rest none)))
find_is marker bytes (Some n) two is =
    let rest : List ℕ = drop (n + length marker) bytes in
    let e : drop n bytes ≡ marker ++ rest = OccursAt-split bytes marker n is.1 in
    let fits : n ≤ length bytes = omega (arith, is.1.fits) in
    let none = nowhere_before (begins marker) bytes n fits (begins_nowhere marker bytes n two (omega arith) is.0.before) in
    let split : take n bytes ++ (marker ++ rest) ≡ bytes = ap (λ l. take n bytes ++ l) (sym e) ∙ take-append-drop n bytes in
    let found = find_found marker (take n bytes) rest two (subst (NowhereIn (begins marker) (take n bytes)) e none) in
    sym (sym (ap (find_marker marker) split) ∙ found ∙ ap Some (length-take-le n bytes fits))

-- the marker is at no place up to this one, and is looked for from here on
module _ (marker bytes : List ℕ) (n : ℕ) (nowhere : Nowhere (OccursAt bytes marker) 0 n) where
  pub nowhere_near : begins marker (drop n bytes) ≡ false → Nowhere (OccursAt bytes marker) 0 (n + 1)
  nowhere_near none k low lt occurs =
      ⊎_elim
      (λ less. nowhere k low less occurs)
      (λ le.
      let same : k ≡ n = omega arith in
      false≢true (sym none ∙ subst (λ i. begins marker (drop i bytes) ≡ true) same (begins_where_occurs marker bytes k occurs)))
      (cases_lt k n)

  nowhere_far : (m : ℕ) → length marker ≡ 2 → Nowhere (OccursAt (drop n bytes) marker) 0 m → Nowhere (OccursAt bytes marker) 0 (n + m)
  nowhere_far m two far k low lt occurs =
      ⊎_elim
      (λ less. nowhere k low less occurs)
      (λ le.
      let there : drop (k - n) (drop n bytes) ≡ drop k bytes = drop-drop (k - n) n bytes ∙ ap (λ i. drop i bytes) (omega arith) in
      far (k - n) (omega arith) (omega arith) (occurs_where_begins marker (drop n bytes) (k - n) two (ap (begins marker) there ∙ begins_where_occurs marker bytes k occurs)))
      (cases_lt k n)

  pub found_far : (at : ℕ) → n ≤ length bytes → length marker ≡ 2 → FindsNeedle (drop n bytes) marker 0 (Some at) → FindsNeedle bytes marker 0 (Some (n + at))
  found_far at le two is =
      let there : drop at (drop n bytes) ≡ drop (n + at) bytes = drop-drop at n bytes in
      let here : OccursAt bytes marker (n + at) = occurs_where_begins marker bytes (n + at) two (ap (begins marker) (sym there) ∙ begins_where_occurs marker (drop n bytes) at is.1) in
      (record { low = omega arith; high = omega (arith, here.fits); before = nowhere_far at two is.0.before }, here)

  pub found_nowhere : n ≤ length bytes → length marker ≡ 2 → FindsNeedle (drop n bytes) marker 0 None → FindsNeedle bytes marker 0 None
  found_nowhere le two is k low lt occurs = nowhere_far (length (drop n bytes) + 1) two is k low (omega (arith, length-drop n bytes)) occurs
