-- The pieces of a line that are written one after another.
use Rattle.std.proofs.Common.{◌≡◌, ◌<◌, ℕ, List, [], ◌∷◌, ◌++◌, length, chars, encode_utf8_all, IsUtf8, refl, ap, ◌∙◌, arith, append_assoc}
use Rattle.std.proofs.lemmas.List.{nil_from_length}
use Rattle.std.proofs.lemmas.Str.{chars-nil, encodes-chars, encodes-append}
use Rattle.terminal_text.specs.Excerpt.{ellipsis}

pub none_left_out : (bs : List ℕ) → length bs ≡ 0 → ellipsis (chars bs) ≡ []
none_left_out bs none = ap (λ l. ellipsis (chars l)) (nil_from_length bs none) ∙ ap ellipsis chars-nil

some_of : (cs bs : List ℕ) → encode_utf8_all cs ≡ bs → 0 < length bs → ellipsis cs ≡ 0x2026 ∷ []
some_of [] bs same some = absurd (omega (arith, ap length same))
some_of (c ∷ cs) bs same some = refl

pub some_left_out : (bs : List ℕ) → IsUtf8 bs → 0 < length bs → ellipsis (chars bs) ≡ 0x2026 ∷ []
some_left_out bs utf8 some = some_of (chars bs) bs (encodes-chars bs utf8) some

pub five_pieces : (t a b c d e : List ℕ)
    → ((((t ++ encode_utf8_all a) ++ encode_utf8_all b) ++ encode_utf8_all c) ++ encode_utf8_all d) ++ encode_utf8_all e
    ≡ t ++ encode_utf8_all ((a ++ b) ++ (c ++ (d ++ e)))
five_pieces t a b c d e = simp (encodes-append, append_assoc)

pub four_pieces : (t a b c d : List ℕ) → (((t ++ a) ++ b) ++ c) ++ d ≡ t ++ (a ++ (b ++ (c ++ d)))
four_pieces t a b c d = simp append_assoc

pub three_pieces : (t a b c : List ℕ) → (((t ++ a) ++ b) ++ 10 ∷ []) ++ c ≡ t ++ (a ++ (b ++ (10 ∷ c)))
three_pieces t a b c = simp append_assoc
