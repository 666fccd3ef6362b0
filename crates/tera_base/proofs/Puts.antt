-- A pair that is put into a map.
use Rattle.std.proofs.Common.{◌≡◌, ℕ, suc, ◌+◌, ◌<◌, ◌≤◌, Bool, true, false, cond, List, [], ◌∷◌, ◌++◌, length, slice_get, slice_set, get_or, Some, None, refl, sym, ap, subst, ◌∙◌, arith}
use Rattle.std.specs.List.{zip, position, position_or_len, list_any, IsDistinct}
use Rattle.indexmap.specs.IndexSet.{insert_key}
use Rattle.std.proofs.lemmas.Bool.Decides.{nat_tests}
use Rattle.std.proofs.lemmas.List.Recursion.{is_position_or_len}
use Rattle.std.proofs.lemmas.Option.{slice_get-get_or}
use Rattle.tera_base.specs.Pairs.{same_key, put, value_at}
use Rattle.tera_base.specs.declared.values.Key.{Key}
use Rattle.tera_base.specs.declared.values.Key.TheVariants.{String, I64, Bool as Truth}
use Rattle.tera_base.specs.contracts.values.KeyPartialEq.TheImpl as derived_eq

-- the derived comparison of keys
pub derived : (k l : Key) → (derived_eq.ghosts).eq k l ≡ same_key k l
derived (String s) (String t) = refl
derived (String s) (I64 n) = refl
derived (String s) (Truth b) = refl
derived (I64 n) (String t) = refl
derived (I64 n) (I64 m) = refl
derived (I64 n) (Truth b) = refl
derived (Truth a) (String t) = refl
derived (Truth a) (I64 n) = refl
derived (Truth a) (Truth b) = refl

-- so a test of the keys by the one finds what a test by the other finds
pub place_derived : (k : Key) (ls : List Key) → position ((derived_eq.ghosts).eq k) ls ≡ position (same_key k) ls
place_derived k ls i = position (λ l. derived k l i) ls

pub found_derived : (k : Key) (ls : List Key) → list_any ((derived_eq.ghosts).eq k) ls ≡ list_any (same_key k) ls
found_derived k ls i = list_any (λ l. derived k l i) ls

pub distinct_derived : (ks : List Key) → IsDistinct (derived_eq.ghosts).eq ks → IsDistinct same_key ks
distinct_derived ks h = subst (λ (E : Key → Key → Bool). IsDistinct E ks) (λ i k l. derived k l i) h

-- a key that is not there goes last
pub new_key : (k : Key) (ls : List Key) → list_any (same_key k) ls ≡ false → insert_key (derived_eq.ghosts).eq ls k ≡ ls ++ k ∷ []
new_key k ls new = ap (λ b. cond b ls (ls ++ k ∷ [])) (found_derived k ls ∙ new)

-- the place of the first key that stands for the same as k, or after the last
abbrev pub place : Key → List Key → ℕ
place k [] = 0
place k (l ∷ ls) = cond (same_key k l) 0 (suc (place k ls))

place_is : (k : Key) (ls : List Key) → place k ls ≡ position_or_len (same_key k) ls
place_is k = is_position_or_len (place k) (same_key k) refl (λ l ls. let e : suc (place k ls) ≡ 1 + place k ls = omega arith in ap (λ n. cond (same_key k l) 0 n) e)

place_some : (k : Key) (ls : List Key) (i : ℕ) → Some i ≡ position (same_key k) ls → (i ≡ place k ls) × (place k ls < length ls)
place_some k ls i e =
    let at : i ≡ position_or_len (same_key k) ls = grind (arith, nat_tests) in
    let within : position_or_len (same_key k) ls < length ls = grind (arith, nat_tests) in
    (at ∙ sym (place_is k ls), rw (place_is k ls) within)

place_none : (k : Key) (ls : List Key) → None ≡ position (same_key k) ls → length ls ≤ place k ls
place_none k ls e =
    let end : length ls ≤ position_or_len (same_key k) ls = grind (arith, nat_tests) in rw (place_is k ls) end

module _ {V : Type 0} (k : Key) (v : V) where
  put_at : (ls : List Key) (vs : List V) → length vs ≡ length ls → place k ls < length ls → put k v (zip ls vs) ≡ zip ls (slice_set vs (place k ls) v)
  put_at [] vs same h = absurd (omega arith)
  put_at (l ∷ ls) [] same h = absurd (omega arith)
  put_at (l ∷ ls) (w ∷ vs) same h = by (same_key k l) h (put_at ls vs (omega arith))
    where
      by : (b : Bool) → cond b 0 (suc (place k ls)) < suc (length ls) → (place k ls < length ls → put k v (zip ls vs) ≡ zip ls (slice_set vs (place k ls) v))
          → cond b ((l, v) ∷ zip ls vs) ((l, w) ∷ put k v (zip ls vs)) ≡ zip (l ∷ ls) (slice_set (w ∷ vs) (cond b 0 (suc (place k ls))) v)
      by true h e = refl
      by false h e = ap (λ ps. (l, w) ∷ ps) (e (omega arith))

  put_last : (ls : List Key) (vs : List V) → length vs ≡ length ls → length ls ≤ place k ls → put k v (zip ls vs) ≡ zip (ls ++ k ∷ []) (vs ++ v ∷ [])
  put_last [] [] same h = refl
  put_last [] (w ∷ vs) same h = absurd (omega arith)
  put_last (l ∷ ls) [] same h = absurd (omega arith)
  put_last (l ∷ ls) (w ∷ vs) same h = by (same_key k l) h (put_last ls vs (omega arith))
    where
      by : (b : Bool) → suc (length ls) ≤ cond b 0 (suc (place k ls)) → (length ls ≤ place k ls → put k v (zip ls vs) ≡ zip (ls ++ k ∷ []) (vs ++ v ∷ []))
          → cond b ((l, v) ∷ zip ls vs) ((l, w) ∷ put k v (zip ls vs)) ≡ (l, w) ∷ zip (ls ++ k ∷ []) (vs ++ v ∷ [])
      by true h e = absurd (omega arith)
      by false h e = ap (λ ps. (l, w) ∷ ps) (e (omega arith))

  pub put_found : (ls : List Key) (vs : List V) (i : ℕ) → length vs ≡ length ls → Some i ≡ position (same_key k) ls → zip ls (slice_set vs i v) ≡ put k v (zip ls vs)
  put_found ls vs i same e = let s = place_some k ls i e in rw (s.0) (sym (put_at ls vs same s.1))

  pub put_new : (ls : List Key) (vs : List V) → length vs ≡ length ls → None ≡ position (same_key k) ls → zip (ls ++ k ∷ []) (vs ++ v ∷ []) ≡ put k v (zip ls vs)
  put_new ls vs same e = sym (put_last ls vs same (place_none k ls e))

module _ {V : Type 0} (k : Key) where
  value_there : (ls : List Key) (vs : List V) → length vs ≡ length ls → place k ls < length ls → value_at k (zip ls vs) ≡ slice_get vs (place k ls)
  value_there [] vs same h = absurd (omega arith)
  value_there (l ∷ ls) [] same h = absurd (omega arith)
  value_there (l ∷ ls) (w ∷ vs) same h = by (same_key k l) h (value_there ls vs (omega arith))
    where
      by : (b : Bool) → cond b 0 (suc (place k ls)) < suc (length ls) → (place k ls < length ls → value_at k (zip ls vs) ≡ slice_get vs (place k ls))
          → cond b (Some w) (value_at k (zip ls vs)) ≡ slice_get (w ∷ vs) (cond b 0 (suc (place k ls)))
      by true h e = refl
      by false h e = e (omega arith)

  value_none : (ls : List Key) (vs : List V) → length ls ≤ place k ls → value_at k (zip ls vs) ≡ None
  value_none [] vs h = refl
  value_none (l ∷ ls) [] h = refl
  value_none (l ∷ ls) (w ∷ vs) h = by (same_key k l) h (value_none ls vs)
    where
      by : (b : Bool) → suc (length ls) ≤ cond b 0 (suc (place k ls)) → (length ls ≤ place k ls → value_at k (zip ls vs) ≡ None) → cond b (Some w) (value_at k (zip ls vs)) ≡ None
      by true h e = absurd (omega arith)
      by false h e = e (omega arith)

  pub value_found : (ls : List Key) (vs : List V) (i : ℕ) → length vs ≡ length ls → Some i ≡ position (same_key k) ls → value_at k (zip ls vs) ≡ slice_get vs i
  value_found ls vs i same e = let s = place_some k ls i e in rw (s.0) (value_there ls vs same s.1)

  pub value_new : (ls : List Key) (vs : List V) → None ≡ position (same_key k) ls → value_at k (zip ls vs) ≡ None
  value_new ls vs e = value_none ls vs (place_none k ls e)

-- what is read at the place of a key is what belongs to it
pub value_read : {V : Type 0} (k : Key) (ls : List Key) (vs : List V) (i : ℕ) (w : V) → length vs ≡ length ls → Some i ≡ position (same_key k) ls → w ≡ get_or vs i w
    → Some w ≡ value_at k (zip ls vs)
value_read k ls vs i w same e at =
    let within : i < length vs = let s = place_some k ls i e in rw (same, s.0) s.1 in
    ap Some at ∙ sym (value_found k ls vs i same e ∙ slice_get-get_or vs i w within)

pub place_within : (k : Key) (ls : List Key) (i : ℕ) → Some i ≡ position (same_key k) ls → i < length ls
place_within k ls i e = let s = place_some k ls i e in rw (s.0) s.1
