-- The units of characters.
use Rattle.std.proofs.Common.{◌≡◌, ◌∙◌, ◌+◌, ◌-◌, ◌/◌, ◌%◌, ◌<◌, ◌≤◌, inl, inr, zero, suc, ℕ, List, [], ◌∷◌, ◌++◌, length, take, refl, sym, ap, ap₂, arith, length-append}
use Rattle.std.specs.Prelude.{sum_by, flat_map, IsUtf8, encode_utf8_all, chars}
use Rattle.std.specs.Char.Escape.{encode_utf16}
use lib.Utf8.{encode}
use Rattle.std.proofs.lemmas.Bool.{lt-ltb, le-ltb, le-leb, lt-leb}
use Rattle.std.proofs.lemmas.Bool.Decides.{leb_tells}
use Rattle.std.proofs.lemmas.List.Sums.{sum_by-append, sum_by-cons, sum_by-take-le}
use Rattle.std.proofs.lemmas.List.{take-append-le}
use Rattle.std.proofs.Math.Seq.{take-append-add}
use Rattle.std.proofs.lemmas.Str.{length-encode, len_utf8_bounds, encodes-chars}
use Rattle.text_edits.specs.Positions.{units}
use Rattle.text_edits.specs.declared.positions.Encoding.{Encoding}
use Rattle.text_edits.specs.declared.positions.Encoding.TheVariants.{Utf8, Utf16, Utf32}

-- what is counted of a character of so many bytes, or so many units of UTF-16
abbrev of_lead : Encoding → ℕ → ℕ → ℕ
of_lead Utf8 bytes units = bytes
of_lead Utf16 bytes units = units
of_lead Utf32 bytes units = 1

-- what a byte adds, by where it is
low : (e : Encoding) (b : ℕ) → b < 0x80 → units e b ≡ 1
low Utf8 b h = rw (lt-ltb b 0x80 h) refl
low Utf16 b h = rw (lt-ltb b 0x80 h) refl
low Utf32 b h = rw (lt-ltb b 0x80 h) refl

middle : (e : Encoding) (b : ℕ) → 0x80 ≤ b → b < 0xC0 → units e b ≡ 0
middle Utf8 b from h = rw (le-ltb b 0x80 from, lt-ltb b 0xC0 h) refl
middle Utf16 b from h = rw (le-ltb b 0x80 from, lt-ltb b 0xC0 h) refl
middle Utf32 b from h = rw (le-ltb b 0x80 from, lt-leb 0xC0 b h) refl

of_lead_one : (e : Encoding) → of_lead e 1 1 ≡ 1
of_lead_one Utf8 = refl
of_lead_one Utf16 = refl
of_lead_one Utf32 = refl

of_lead_some : (e : Encoding) (bytes units : ℕ) → 0 < bytes → 0 < units → 0 < of_lead e bytes units
of_lead_some Utf8 bytes units h k = h
of_lead_some Utf16 bytes units h k = k
of_lead_some Utf32 bytes units h k = omega arith

lead_two : (e : Encoding) (b : ℕ) → 0xC0 ≤ b → b < 0xE0 → units e b ≡ of_lead e 2 1
lead_two Utf8 b from h =
    let a : 0x80 ≤ b = omega arith in rw (le-ltb b 0x80 a, le-ltb b 0xC0 from, lt-ltb b 0xE0 h) refl
lead_two Utf16 b from h =
    let a : 0x80 ≤ b = omega arith in
    let z : b < 0xF0 = omega arith in rw (le-ltb b 0x80 a, le-ltb b 0xC0 from, lt-ltb b 0xF0 z) refl
lead_two Utf32 b from h = let a : 0x80 ≤ b = omega arith in rw (le-ltb b 0x80 a, le-leb 0xC0 b from) refl

lead_three : (e : Encoding) (b : ℕ) → 0xE0 ≤ b → b < 0xF0 → units e b ≡ of_lead e 3 1
lead_three Utf8 b from h =
    let a : 0x80 ≤ b = omega arith in
    let z : 0xC0 ≤ b = omega arith in rw (le-ltb b 0x80 a, le-ltb b 0xC0 z, le-ltb b 0xE0 from, lt-ltb b 0xF0 h) refl
lead_three Utf16 b from h =
    let a : 0x80 ≤ b = omega arith in
    let z : 0xC0 ≤ b = omega arith in rw (le-ltb b 0x80 a, le-ltb b 0xC0 z, lt-ltb b 0xF0 h) refl
lead_three Utf32 b from h =
    let a : 0x80 ≤ b = omega arith in
    let z : 0xC0 ≤ b = omega arith in rw (le-ltb b 0x80 a, le-leb 0xC0 b z) refl

lead_four : (e : Encoding) (b : ℕ) → 0xF0 ≤ b → units e b ≡ of_lead e 4 2
lead_four Utf8 b from =
    let a : 0x80 ≤ b = omega arith in
    let z : 0xC0 ≤ b = omega arith in
    let y : 0xE0 ≤ b = omega arith in rw (le-ltb b 0x80 a, le-ltb b 0xC0 z, le-ltb b 0xE0 y, le-ltb b 0xF0 from) refl
lead_four Utf16 b from =
    let a : 0x80 ≤ b = omega arith in
    let z : 0xC0 ≤ b = omega arith in rw (le-ltb b 0x80 a, le-ltb b 0xC0 z, le-ltb b 0xF0 from) refl
lead_four Utf32 b from =
    let a : 0x80 ≤ b = omega arith in
    let z : 0xC0 ≤ b = omega arith in rw (le-ltb b 0x80 a, le-leb 0xC0 b z) refl

pub lead_adds : (e : Encoding) (b : ℕ) → (128 ≤ b → 192 ≤ b) → 0 < units e b
lead_adds e b begins = elim (leb_tells 128 b) [
  | inr h ↦ omega (arith, low e b h.1)
  | inl from ↦ elim (leb_tells 0xE0 b) [
    | inr h ↦ omega (arith, lead_two e b (begins from.1) h.1, of_lead_some e 2 1 (omega arith) (omega arith))
    | inl a ↦ elim (leb_tells 0xF0 b) [
      | inr h ↦ omega (arith, lead_three e b a.1 h.1, of_lead_some e 3 1 (omega arith) (omega arith))
      | inl d ↦ omega (arith, lead_four e b d.1, of_lead_some e 4 2 (omega arith) (omega arith))
    ]
  ]
]

-- the units of a character in each encoding
abbrev pub width : Encoding → ℕ → ℕ
width Utf8 c = length (encode c)
width Utf16 c = length (encode_utf16 c)
width Utf32 c = 1

short : (e : Encoding) (c n : ℕ) → c < 0x1_0000 → length (encode c) ≡ n → width e c ≡ of_lead e n 1
short Utf8 c n h is = is
short Utf16 c n h is = rw (lt-ltb c 0x1_0000 h) refl
short Utf32 c n h is = refl

long : (e : Encoding) (c : ℕ) → 0x1_0000 ≤ c → length (encode c) ≡ 4 → width e c ≡ of_lead e 4 2
long Utf8 c h is = is
long Utf16 c h is = rw (le-ltb c 0x1_0000 h) refl
long Utf32 c h is = refl

one_byte : (c : ℕ) → c < 0x80 → encode c ≡ c ∷ []
unfolding encode
one_byte c h = rw (lt-ltb c 0x80 h) refl

two_bytes : (c : ℕ) → 0x80 ≤ c → c < 0x800 → encode c ≡ (192 + c / 64) ∷ (128 + c % 64) ∷ []
unfolding encode
two_bytes c from h = rw (le-ltb c 0x80 from, lt-ltb c 0x800 h) refl

three_bytes : (c : ℕ) → 0x800 ≤ c → c < 0x1_0000 → encode c ≡ (224 + c / 4096) ∷ (128 + c / 64 % 64) ∷ (128 + c % 64) ∷ []
unfolding encode
three_bytes c from h = let a : 0x80 ≤ c = omega arith in rw (le-ltb c 0x80 a, le-ltb c 0x800 from, lt-ltb c 0x1_0000 h) refl

four_bytes : (c : ℕ) → 0x1_0000 ≤ c → encode c ≡ (240 + c / 262144) ∷ (128 + c / 4096 % 64) ∷ (128 + c / 64 % 64) ∷ (128 + c % 64) ∷ []
unfolding encode
four_bytes c from =
    let a : 0x80 ≤ c = omega arith in
    let z : 0x800 ≤ c = omega arith in rw (le-ltb c 0x80 a, le-ltb c 0x800 z, le-ltb c 0x1_0000 from) refl

next_adds : (e : Encoding) (n : ℕ) → units e (128 + n % 64) ≡ 0
next_adds e n = middle e (128 + n % 64) (omega arith) (omega arith)

pub character_units : (e : Encoding) (c : ℕ) → sum_by (units e) (encode c) ≡ width e c
character_units e c = elim (leb_tells 0x80 c) [
  | inr h ↦
      let is = one_byte c h.1 in
      ap (sum_by (units e)) is ∙ omega (arith, low e c h.1, of_lead_one e) ∙ sym (short e c 1 (omega arith) (ap length is))
  | inl a ↦ elim (leb_tells 0x800 c) [
    | inr h ↦
        let is = two_bytes c a.1 h.1 in
        ap (sum_by (units e)) is ∙ omega (arith, lead_two e (192 + c / 64) (omega arith) (omega arith), next_adds e c) ∙ sym (short e c 2 (omega arith) (ap length is))
    | inl b ↦ elim (leb_tells 0x1_0000 c) [
      | inr h ↦
          let is = three_bytes c b.1 h.1 in
          ap (sum_by (units e)) is ∙ omega (arith, lead_three e (224 + c / 4096) (omega arith) (omega arith), next_adds e (c / 64), next_adds e c) ∙ sym (short e c 3 h.1 (ap length is))
      | inl d ↦
          let is = four_bytes c d.1 in
          ap (sum_by (units e)) is ∙ omega (arith, lead_four e (240 + c / 262144) (omega arith), next_adds e (c / 4096), next_adds e (c / 64), next_adds e c) ∙ sym (long e c d.1 (ap length is))
    ]
  ]
]

-- and those of a text
pub text_units : (e : Encoding) (cs : List ℕ) → sum_by (units e) (encode_utf8_all cs) ≡ sum_by (width e) cs
text_units e [] = refl
text_units e (c ∷ cs) =
    sum_by-append (units e) (encode c) (encode_utf8_all cs) ∙ ap₂ (λ a b. a + b) (character_units e c) (text_units e cs) ∙ sym (sum_by-cons (width e) c cs)

pub units_are : (e : Encoding) (text : List ℕ) → IsUtf8 text → sum_by (units e) text ≡ sum_by (width e) (chars text)
units_are e text is = ap (sum_by (units e)) (sym (encodes-chars text is)) ∙ text_units e (chars text)

pub utf16_width : (cs : List ℕ) → sum_by (width Utf16) cs ≡ length (flat_map encode_utf16 cs)
utf16_width [] = refl
utf16_width (c ∷ cs) = sum_by-cons (width Utf16) c cs ∙ ap (λ n. length (encode_utf16 c) + n) (utf16_width cs) ∙ sym (length-append (encode_utf16 c) (flat_map encode_utf16 cs))

pub utf8_width : (cs : List ℕ) → sum_by (width Utf8) cs ≡ length (encode_utf8_all cs)
utf8_width [] = refl
utf8_width (c ∷ cs) = sum_by-cons (width Utf8) c cs ∙ ap (λ n. length (encode c) + n) (utf8_width cs) ∙ sym (length-append (encode c) (encode_utf8_all cs))

pub utf32_width : (cs : List ℕ) → sum_by (width Utf32) cs ≡ length cs
utf32_width [] = refl
utf32_width (c ∷ cs) = sum_by-cons (width Utf32) c cs ∙ ap (λ n. 1 + n) (utf32_width cs) ∙ omega arith

-- no front of a text adds much more than it has bytes
utf16_few : (c : ℕ) → length (encode_utf16 c) ≤ length (encode c)
utf16_few c = elim (leb_tells 0x1_0000 c) [
  | inl h ↦ omega (arith, long Utf16 c h.1 (ap length (four_bytes c h.1)), ap length (four_bytes c h.1))
  | inr h ↦ omega (arith, short Utf16 c (length (encode c)) h.1 refl, length-encode c, len_utf8_bounds c)
]

few_units : (e : Encoding) (c : ℕ) → width e c ≤ length (encode c)
few_units Utf8 c = omega arith
few_units Utf16 c = utf16_few c
few_units Utf32 c = omega (arith, length-encode c, len_utf8_bounds c)

front_bound : (e : Encoding) (c k : ℕ) → k < length (encode c) → sum_by (units e) (take k (encode c)) ≤ k + 3
front_bound e c zero h = omega arith
front_bound e c (suc k) h =
    omega (arith, sum_by-take-le (units e) (encode c) (suc k), character_units e c, few_units e c, length-encode c, len_utf8_bounds c)

units_within : (e : Encoding) (cs : List ℕ) (k : ℕ) → sum_by (units e) (take k (encode_utf8_all cs)) ≤ k + 3
units_within e [] zero = omega arith
units_within e [] (suc k) = omega arith
units_within e (c ∷ cs) k = elim (leb_tells (length (encode c)) k) [
  | inl h ↦
      let front : take k (encode c ++ encode_utf8_all cs) ≡ encode c ++ take (k - length (encode c)) (encode_utf8_all cs)
      = ap (λ n. take n (encode c ++ encode_utf8_all cs)) (omega arith) ∙ take-append-add (encode c) (encode_utf8_all cs) (k - length (encode c)) in
      omega (arith, ap (sum_by (units e)) front, sum_by-append (units e) (encode c) (take (k - length (encode c)) (encode_utf8_all cs)), character_units e c, few_units e c, units_within e cs (k - length (encode c)))
  | inr h ↦ rw (take-append-le k (encode c) (encode_utf8_all cs) (omega arith)) (front_bound e c k h.1)
]

pub units_bound : (e : Encoding) (text : List ℕ) (k : ℕ) → IsUtf8 text → sum_by (units e) (take k text) ≤ k + 3
units_bound e text k is = rw (← encodes-chars text is) (units_within e (chars text) k)
