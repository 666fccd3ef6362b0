-- The tests of `Same` decide whether two meanings are one.
use Rattle.std.proofs.Common.{◌≡◌, Bool, true, false, true≢false, ◌&&◌, refl, sym, ap}
use Rattle.std.specs.Bool.{Decides}
use Rattle.std.specs.Cmp.{IsEquivalence, decided, booleans_Decides}
use Rattle.std.proofs.lemmas.Bool.Decides.{Decides-int_eq, Decides-eqb}
use Rattle.std.proofs.lemmas.Slice.Eq.{bytes_eq-Decides}
use Rattle.tera_base.specs.Values.{KeyVal, TextKey, I64Key, TruthKey, Val, Undefined, Nothing, Truth, I64, U64, I128, U128, Text, Bytes, Array, Map, Vals, NoVals, OneVal, Pairs, NoPairs, OnePair}
use Rattle.tera_base.specs.Same.{key_eq, value_eq, vals_eq, pairs_eq}

both : (a b : Bool) → (a && b) ≡ true → (a ≡ true) × (b ≡ true)
both true b e = (refl, e)
both false b e = absurd (true≢false (sym e))

no : {P : Type 0} → false ≡ true → P
no e = absurd (true≢false (sym e))

key_sound : (k l : KeyVal) → key_eq k l ≡ true → k ≡ l
key_sound (TextKey s) (TextKey t) e = ap TextKey ((bytes_eq-Decides s t).0 e)
key_sound (I64Key m) (I64Key n) e = ap I64Key ((Decides-int_eq m n).0 e)
key_sound (TruthKey a) (TruthKey b) e = ap TruthKey ((booleans_Decides a b).0 e)
key_sound _ _ e = no e

key_itself : (k : KeyVal) → key_eq k k ≡ true
key_itself (TextKey s) = (bytes_eq-Decides s s).1 refl
key_itself (I64Key n) = (Decides-int_eq n n).1 refl
key_itself (TruthKey b) = (booleans_Decides b b).1 refl

mutual
  value_sound : (v w : Val) → value_eq v w ≡ true → v ≡ w
  value_sound Undefined Undefined e = refl
  value_sound Nothing Nothing e = refl
  value_sound (Truth a) (Truth b) e = ap Truth ((booleans_Decides a b).0 e)
  value_sound (I64 m) (I64 n) e = ap I64 ((Decides-int_eq m n).0 e)
  value_sound (U64 m) (U64 n) e = ap U64 ((Decides-eqb m n).0 e)
  value_sound (I128 m) (I128 n) e = ap I128 ((Decides-int_eq m n).0 e)
  value_sound (U128 m) (U128 n) e = ap U128 ((Decides-eqb m n).0 e)
  value_sound (Text s) (Text t) e = ap Text ((bytes_eq-Decides s t).0 e)
  value_sound (Bytes s) (Bytes t) e = ap Bytes ((bytes_eq-Decides s t).0 e)
  value_sound (Array vs) (Array ws) e = ap Array (vals_sound vs ws e)
  value_sound (Map ps) (Map qs) e = ap Map (pairs_sound ps qs e)
  value_sound _ _ e = no e

  vals_sound : (vs ws : Vals) → vals_eq vs ws ≡ true → vs ≡ ws
  vals_sound NoVals NoVals e = refl
  vals_sound (OneVal v vs) (OneVal w ws) e = let p = both (value_eq v w) _ e in rw (value_sound v w p.0, vals_sound vs ws p.1)
  vals_sound _ _ e = no e

  pairs_sound : (ps qs : Pairs) → pairs_eq ps qs ≡ true → ps ≡ qs
  pairs_sound NoPairs NoPairs e = refl
  pairs_sound (OnePair k v ps) (OnePair l w qs) e =
      let p = both (key_eq k l) _ e in
      let q = both (value_eq v w) _ p.1 in
      rw (key_sound k l p.0, value_sound v w q.0, pairs_sound ps qs q.1)
  pairs_sound _ _ e = no e

mutual
  value_itself : (v : Val) → value_eq v v ≡ true
  value_itself Undefined = refl
  value_itself Nothing = refl
  value_itself (Truth b) = (booleans_Decides b b).1 refl
  value_itself (I64 n) = (Decides-int_eq n n).1 refl
  value_itself (U64 n) = (Decides-eqb n n).1 refl
  value_itself (I128 n) = (Decides-int_eq n n).1 refl
  value_itself (U128 n) = (Decides-eqb n n).1 refl
  value_itself (Text s) = (bytes_eq-Decides s s).1 refl
  value_itself (Bytes s) = (bytes_eq-Decides s s).1 refl
  value_itself (Array vs) = vals_itself vs
  value_itself (Map ps) = pairs_itself ps

  vals_itself : (vs : Vals) → vals_eq vs vs ≡ true
  vals_itself NoVals = refl
  vals_itself (OneVal v vs) = rw (value_itself v) (vals_itself vs)

  pairs_itself : (ps : Pairs) → pairs_eq ps ps ≡ true
  pairs_itself NoPairs = refl
  pairs_itself (OnePair k v ps) = rw (key_itself k, value_itself v) (pairs_itself ps)

pub key_decides : (k l : KeyVal) → Decides (key_eq k l) (k ≡ l)
key_decides k l = (key_sound k l, λ e. rw (← e) (key_itself k))

pub value_decides : (v w : Val) → Decides (value_eq v w) (v ≡ w)
value_decides v w = (value_sound v w, λ e. rw (← e) (value_itself v))

pub pairs_decide : (ps qs : Pairs) → Decides (pairs_eq ps qs) (ps ≡ qs)
pairs_decide ps qs = (pairs_sound ps qs, λ e. rw (← e) (pairs_itself ps))

pub value_equivalence : IsEquivalence value_eq
value_equivalence = decided value_eq value_decides

pub pairs_equivalence : IsEquivalence pairs_eq
pairs_equivalence = decided pairs_eq pairs_decide
