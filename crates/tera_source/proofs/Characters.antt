-- What is written of a text character by character.
use Rattle.std.proofs.lemmas.Bool.Decides.{nat_tests}
use Rattle.tera_spelling.specs.Spelling.{is_special, with_escapes}
use Rattle.std.proofs.Common.{◌≡◌, ℕ, suc, ◌<◌, Bool, true, false, cond, ◌||◌, nat_eq, List, [], ◌∷◌, ◌++◌, length, get_or, codes, refl, sym, ap, ◌∙◌, arith, append-nil, append_assoc}
use Rattle.std.proofs.lemmas.Str.{inside_one}
use lib.Utf8.{encode}
use Rattle.tera_source.specs.Writing.{dotted}

-- a byte of a character is that character, or at least 128
byte_of : (c : ℕ) (k : ℕ) → k < length (encode c) → get_or (encode c) k 0 < 128 → c ≡ get_or (encode c) k 0
byte_of c k below low = inside_one c [] (encode c) k (sym (append-nil _)) below low

no_match : (m b c : ℕ) → m < 128 → (c ≡ m → ⊥) → (b < 128 → c ≡ b) → nat_eq b m ≡ false
no_match m b c small other is = grind (arith, nat_tests)

cond_append : (t : Bool) (a b c : List ℕ) (d e : List ℕ) → cond t (a ++ (d ++ e)) (b ++ (d ++ e)) ≡ cond t (a ++ d) (b ++ d) ++ e
cond_append true a b c d e = sym (append_assoc a d e)
cond_append false a b c d e = sym (append_assoc b d e)

pub with_escapes-append : (xs ys : List ℕ) → with_escapes (xs ++ ys) ≡ with_escapes xs ++ with_escapes ys
with_escapes-append [] ys = refl
with_escapes-append (x ∷ xs) ys =
    ap (λ l. cond (is_special x) (92 ∷ x ∷ l) (x ∷ l)) (with_escapes-append xs ys)
    ∙ cond_append (is_special x) (92 ∷ x ∷ []) (x ∷ []) [] (with_escapes xs) (with_escapes ys)

pub dotted-append : (xs ys : List ℕ) → dotted (xs ++ ys) ≡ dotted xs ++ dotted ys
dotted-append [] ys = refl
dotted-append (x ∷ xs) ys =
    ap (λ l. cond (nat_eq x 46) (codes " . " ++ l) (x ∷ l)) (dotted-append xs ys)
    ∙ cond_append (nat_eq x 46) (codes " . ") (x ∷ []) [] (dotted xs) (dotted ys)

escaped_same : (xs : List ℕ) → ((k : ℕ) → k < length xs → is_special (get_or xs k 0) ≡ false) → with_escapes xs ≡ xs
escaped_same [] h = refl
escaped_same (x ∷ xs) h = rw (h 0 (omega arith)) (ap (λ l. x ∷ l) (escaped_same xs (λ k below. h (suc k) (omega arith))))

dotted_same : (xs : List ℕ) → ((k : ℕ) → k < length xs → nat_eq (get_or xs k 0) 46 ≡ false) → dotted xs ≡ xs
dotted_same [] h = refl
dotted_same (x ∷ xs) h = rw (h 0 (omega arith)) (ap (λ l. x ∷ l) (dotted_same xs (λ k below. h (suc k) (omega arith))))

or_false : (a b : Bool) → a ≡ false → b ≡ false → (a || b) ≡ false
or_false a b p q = rw (p, q) refl

-- a character that is none of those is written as it is
pub escaped_kept : (c : ℕ) → (c ≡ 92 → ⊥) → (c ≡ 34 → ⊥) → with_escapes (encode c) ≡ encode c
escaped_kept c p q = escaped_same (encode c) (λ k below.
    or_false _ _ (no_match 34 (get_or (encode c) k 0) c (omega arith) q (byte_of c k below))
    (no_match 92 (get_or (encode c) k 0) c (omega arith) p (byte_of c k below)))

pub dotted_kept : (c : ℕ) → (c ≡ 46 → ⊥) → dotted (encode c) ≡ encode c
dotted_kept c p = dotted_same (encode c) (λ k below. no_match 46 (get_or (encode c) k 0) c (omega arith) p (byte_of c k below))
