-- Bits of names.
use Rattle.std.proofs.Common.{◌≡◌, ◌∙◌, ◌<◌, ◌≤◌, ◌+◌, ◌*◌, ◌%◌, ◌^◌, ℕ, List, [], ◌∷◌, ◌||◌, length, take, take_all, get_or, map, Bool, true, false, String, string_bytes, refl, sym, ap, subst, arith}
use Rattle.std.proofs.Common.{if◌then◌else◌}
use Rattle.std.specs.Prelude.{bit_and, bit_or, min, max}
use Rattle.std.specs.Int.{bit_at, w128}
use Rattle.std.specs.List.{All, list_any}
use Rattle.std.specs.Str.{bytes_eq}
use Rattle.std.specs.declared.alloc.Global.{Global}
use Rattle.std.proofs.lemmas.List.Elements.{All-head, All-map, All-more, All-tail, All-weaker}
use Rattle.std.proofs.lemmas.Nat.Bits.{bit_at-lt, bit_at-zero, bit_at_and, bit_at_or, bit_at_set_same}
use Rattle.std.proofs.lemmas.Slice.Eq.{bytes_eq-Decides}
use Rattle.tera_workspace.specs.NameBits.{bit_of, HasBits}
use Rattle.tera_workspace.specs.Names.{is_among}

abbrev HasBit : ℕ → List ℕ → Type 0
HasBit bits n = bit_at bits (bit_of n) ≡ 1

-- ---- one more name

abbrev pub HasBitOf : ℕ → String Global → Type 0
HasBitOf bits s = HasBit bits (string_bytes s)

or_one : (a b c : ℕ) → a ≡ max b c → b ≡ 1 → c < 2 → a ≡ 1
or_one a b c is one small = omega arith

pub bits_more : (bits : ℕ) (items : List (String Global)) (i : ℕ) (s : String Global) (k : ℕ) → i < length items → s ≡ get_or items i s → k ≡ bit_of (string_bytes s) → k < 128
    → All (HasBitOf bits) (take i items) → All (HasBitOf (bit_or bits (1 * 2 ^ k % 2 ^ 128))) (take (i + 1) items)
bits_more bits items i s k within is bit small before =
    let one : ℕ = 1 * 2 ^ k % 2 ^ 128 in
    let more : ℕ = bit_or bits one in
    let stays : (j : ℕ) → bit_at bits j ≡ 1 → bit_at more j ≡ 1 = λ j had. or_one (bit_at more j) (bit_at bits j) (bit_at one j) (bit_at_or bits one j) had (bit_at-lt one j) in
    All-more (HasBitOf more) items i s within
    (All-weaker (HasBitOf bits) (HasBitOf more) (λ t had. stays (bit_of (string_bytes t)) had) (take i items) before)
    (subst (HasBitOf more) is (subst (λ j. bit_at more j ≡ 1) bit (bit_at_set_same w128 bits k small)))

pub bits_all : (bits : ℕ) (items names : List (String Global)) (i : ℕ) → length items ≤ i → items ≡ names → All (HasBitOf bits) (take i items) → HasBits bits (map string_bytes names)
bits_all bits items names i over is before =
    subst (λ ss. HasBits bits (map string_bytes ss)) (take_all i items over ∙ is) (All-map (HasBit bits) string_bytes (take i items) before)

-- ---- names without a common bit

bit_among : (bits : ℕ) (n : List ℕ) (ns : List (List ℕ)) → HasBits bits ns → is_among n ns ≡ true → HasBit bits n
bit_among bits n [] has among = cc
bit_among bits n (m ∷ ms) has among = by (bytes_eq m n) refl among (bit_among bits n ms (All-tail (HasBit bits) m ms has))
  where
    by : (b : Bool) → bytes_eq m n ≡ b → (if b then true else is_among n ms) ≡ true → (is_among n ms ≡ true → HasBit bits n) → HasBit bits n
    by true is e rest = subst (HasBit bits) ((bytes_eq-Decides m n).0 is) (All-head (HasBit bits) m ms has)
    by false is e rest = rest e

not_both : (a b : ℕ) → min a b ≡ 0 → a ≡ 1 → b ≡ 1 → ⊥
not_both a b none one other = omega arith

not_among : (x y : ℕ) (n : List ℕ) (ns : List (List ℕ)) → HasBits x ns → HasBit y n → bit_and x y ≡ 0 → is_among n ns ≡ false
not_among x y n ns has one none = by (is_among n ns) refl
  where
    by : (b : Bool) → is_among n ns ≡ b → b ≡ false
    by false is = refl
    by true is =
        absurd (not_both (bit_at x (bit_of n)) (bit_at y (bit_of n)) (sym (bit_at_and x y (bit_of n)) ∙ (ap (λ z. bit_at z (bit_of n)) none ∙ bit_at-zero (bit_of n))) (bit_among x n ns has is) one)

pub none_common : (x y : ℕ) (ns ms : List (List ℕ)) → HasBits x ns → HasBits y ms → bit_and x y ≡ 0 → list_any (λ n. is_among n ns) ms ≡ false
none_common x y ns [] has had none = refl
none_common x y ns (m ∷ ms) has had none =
    ap (λ b. b || list_any (λ n. is_among n ns) ms) (not_among x y m ns has (All-head (HasBit y) m ms had) none) ∙ none_common x y ns ms has (All-tail (HasBit y) m ms had) none
