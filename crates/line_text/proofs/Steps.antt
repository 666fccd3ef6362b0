-- A loop over the characters of a text that writes something for each of them.
use Rattle.std.proofs.Common.{◌≡◌, ℕ, List, ◌++◌, length, chars, encode_utf8, encode_utf8_all, IsUtf8, Result, Ok, Err, is_ok, OnOk, if◌then◌else◌, sym, ap, ◌∙◌, append_assoc, append-nil}
use Rattle.std.specs.List.{flat_map}
use Rattle.std.proofs.lemmas.List.{nil_from_length}
use Rattle.std.proofs.lemmas.Str.{chars-nil, chars_past_char, encodes-append}

-- what was written, and what is to be written for the characters that are left
abbrev pub text_and : (ℕ → List ℕ) → List ℕ → List ℕ → List ℕ
text_and f now left = now ++ encode_utf8_all (flat_map f (chars left))

pub text_step : (f : ℕ → List ℕ) (now new left rest : List ℕ) (c : ℕ) → IsUtf8 left → left ≡ encode_utf8 c ++ rest →
    new ≡ now ++ encode_utf8_all (f c) → text_and f new rest ≡ text_and f now left
text_step f now new left rest c utf8 parts written =
    let more = flat_map f (chars rest) in
    ap (λ l. l ++ encode_utf8_all more) written ∙ append_assoc now (encode_utf8_all (f c)) (encode_utf8_all more)
    ∙ ap (λ l. now ++ l) (sym (encodes-append (f c) more) ∙ ap (λ cs. encode_utf8_all (flat_map f cs)) (sym (chars_past_char left rest c utf8 parts)))

pub text_end : (f : ℕ → List ℕ) (now left : List ℕ) → length left ≡ 0 → text_and f now left ≡ now
text_end f now left none =
    ap (λ l. now ++ encode_utf8_all (flat_map f (chars l))) (nil_from_length left none)
    ∙ ap (λ cs. now ++ encode_utf8_all (flat_map f cs)) chars-nil ∙ append-nil now

-- a push at the end of a function
pub pushed : {T E : Type 0} (r : Result T E) (new old added whole : List ℕ) → new ≡ (if is_ok r then old ++ added else old)
    → old ++ added ≡ whole → OnOk r (new ≡ whole)
pushed (Ok x) new old added whole is same = is ∙ same
pushed (Err e) new old added whole is same = tt
