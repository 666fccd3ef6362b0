-- What is shown of a text is safe, and what is safe is shown as it is.
use Rattle.std.proofs.Common.{◌≡◌, ℕ, ◌/◌, ◌%◌, ◌<◌, true, false, cond, ◌==◌, List, [], ◌∷◌, ◌++◌, codes, refl, arith}
use Rattle.std.specs.List.{All, flat_map}
use Rattle.std.proofs.lemmas.Bool.{cond_both, cond-false}
use Rattle.std.proofs.lemmas.Bool.Decides.{nat_tests}
use Rattle.std.proofs.lemmas.List.Elements.{All-nil, All-cons, All-head, All-tail, All-append}
use Rattle.line_text.specs.Line.{IsSafe, is_unsafe, hex_digit, number_escape, escape, safe_as, safe_line}

digit_safe : (n : ℕ) → n < 16 → IsSafe (hex_digit n)
digit_safe n small = grind (arith, nat_tests)

two_safe : (c d : ℕ) → IsSafe c → IsSafe d → All IsSafe (c ∷ d ∷ [])
two_safe c d one other = All-cons IsSafe c (d ∷ []) one (All-cons IsSafe d [] other (All-nil IsSafe))

number_safe : (c : ℕ) → All IsSafe (number_escape c)
number_safe c =
    let a = c / 4096 % 16 in
    let b = c / 256 % 16 in
    let d = c / 16 % 16 in
    let e = c % 16 in
    All-append IsSafe (codes "\\u") (hex_digit a ∷ hex_digit b ∷ hex_digit d ∷ hex_digit e ∷ []) (two_safe 92 117 refl refl)
    (All-cons IsSafe (hex_digit a) (hex_digit b ∷ hex_digit d ∷ hex_digit e ∷ []) (digit_safe a (omega arith))
    (All-cons IsSafe (hex_digit b) (hex_digit d ∷ hex_digit e ∷ []) (digit_safe b (omega arith))
    (two_safe (hex_digit d) (hex_digit e) (digit_safe d (omega arith)) (digit_safe e (omega arith)))))

escape_safe : (c : ℕ) → All IsSafe (escape c)
escape_safe c =
    cond_both (c == 9) (codes "\\t") _ (All IsSafe) (λ _. two_safe 92 116 refl refl) (λ _.
    cond_both (c == 10) (codes "\\n") _ (All IsSafe) (λ _. two_safe 92 110 refl refl) (λ _.
    cond_both (c == 13) (codes "\\r") (number_escape c) (All IsSafe) (λ _. two_safe 92 114 refl refl) (λ _. number_safe c)))

one_safe : (c : ℕ) → All IsSafe (safe_as c)
one_safe c =
    cond_both (is_unsafe c) (escape c) (c ∷ []) (All IsSafe) (λ _. escape_safe c) (λ safe. All-cons IsSafe c [] safe (All-nil IsSafe))

pub line_safe : (text : List ℕ) → All IsSafe (safe_line text)
line_safe [] = All-nil IsSafe
line_safe (c ∷ cs) = All-append IsSafe (safe_as c) (flat_map safe_as cs) (one_safe c) (line_safe cs)

pub line_same : (text : List ℕ) → All IsSafe text → safe_line text ≡ text
line_same [] all = refl
line_same (c ∷ cs) all =
    λ i. cond-false (is_unsafe c) (escape c) (c ∷ []) (All-head IsSafe c cs all) i ++ line_same cs (All-tail IsSafe c cs all) i
