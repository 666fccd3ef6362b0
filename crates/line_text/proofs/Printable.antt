-- Texts of ASCII, and those that are shown as they are.
use Rattle.std.proofs.Common.{◌≡◌, ◌<◌, ◌≤◌, ℕ, true, List, [], ◌∷◌, ◌++◌, chars, encode_utf8_all, IsUtf8, refl, sym, ap, ◌∙◌, arith}
use Rattle.std.specs.List.{All, flat_map, list_all}
use Rattle.std.proofs.lemmas.Bool.{and_parts}
use Rattle.std.proofs.lemmas.Bool.Decides.{nat_tests}
use Rattle.std.proofs.lemmas.List.Elements.{All-cons, All-nil, All-weaker}
use Rattle.std.proofs.lemmas.Str.{chars-IsAscii, encodes-chars}
use Rattle.std.proofs.lemmas.Str.Ascii.{IsAscii-from_all}
use Rattle.line_text.specs.Line.{is_printable, is_unsafe, safe_as, on_one_line}

-- a character of ASCII that is not a control character
pub record IsPlain (c : ℕ) : Type 0 where
  pub low : 32 ≤ c
  pub high : c < 127

pub one_plain : (c : ℕ) → is_printable c ≡ true → IsPlain c
one_plain c is = record { low = grind (arith, nat_tests); high = grind (arith, nat_tests) }

safe_one : (c : ℕ) → IsPlain c → safe_as c ≡ c ∷ []
safe_one c is = let low = is.low in let high = is.high in grind (arith, nat_tests)

pub all_plain : (text : List ℕ) → list_all is_printable text ≡ true → All IsPlain text
all_plain [] all = All-nil IsPlain
all_plain (c ∷ text) all =
    let parts = and_parts (is_printable c) (list_all is_printable text) all in
    All-cons IsPlain c text (one_plain c parts.0) (all_plain text parts.1)

-- each character is written by itself
pub each_one : (f : ℕ → List ℕ) → ((c : ℕ) → IsPlain c → f c ≡ c ∷ []) → (text : List ℕ) → list_all is_printable text ≡ true
    → flat_map f text ≡ text
each_one f one [] all = refl
each_one f one (c ∷ text) all =
    let parts = and_parts (is_printable c) (list_all is_printable text) all in
    (λ i. one c (one_plain c parts.0) i ++ each_one f one text parts.1 i)

-- its characters are its bytes
pub same_chars : (text : List ℕ) → list_all is_printable text ≡ true → chars text ≡ text
same_chars text all =
    chars-IsAscii text (IsAscii-from_all text (All-weaker IsPlain (λ c. c < 128) (λ c is. omega (arith, is.high)) text (all_plain text all)))

pub written : (f : ℕ → List ℕ) → ((c : ℕ) → IsPlain c → f c ≡ c ∷ []) → (text : List ℕ) → IsUtf8 text
    → list_all is_printable text ≡ true → encode_utf8_all (flat_map f (chars text)) ≡ text
written f one text utf8 all =
    ap (λ cs. encode_utf8_all (flat_map f cs)) (same_chars text all) ∙ ap encode_utf8_all (each_one f one text all)
    ∙ ap encode_utf8_all (sym (same_chars text all)) ∙ encodes-chars text utf8

pub line_as_it_is : (text : List ℕ) → IsUtf8 text → list_all is_printable text ≡ true → on_one_line text ≡ text
line_as_it_is text utf8 all = written safe_as safe_one text utf8 all
