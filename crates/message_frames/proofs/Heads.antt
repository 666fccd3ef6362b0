-- A stream has one head in front, or none yet.
use Rattle.std.proofs.Common.{◌≡◌, ℕ, suc, ◌+◌, List, [], ◌∷◌, ◌++◌, length, refl, sym, ap, subst, ◌∙◌, append_assoc, arith}
use Rattle.std.specs.List.{AllByRecursion, flat_map}
use Rattle.std.proofs.lemmas.List.{length-append}
use Rattle.message_frames.specs.declared.field.Stated.TheVariants as stated
use Rattle.message_frames.specs.Header.{EndsAt, NoneEndsBefore, IsLine, line_end, ended, head_text, IsHead, IsHeader}
use Rattle.message_frames.specs.Reading.{stated_after}
use Rattle.message_frames.proofs.StatedLaws.{once_stated, stated_once}

abbrev Whole : List ℕ → Type 0
Whole line = NoneEndsBefore line (length line)

whole_rest : (b : ℕ) (line : List ℕ) → Whole (b ∷ line) → Whole line
whole_rest b line h k lt at = h (suc k) (omega arith) at

-- no line begins as its end does
no_end_within : (b : ℕ) (line x y : List ℕ) → Whole (b ∷ line) → ended [] ++ x ≡ ended (b ∷ line) ++ y → ⊥
no_end_within b [] x y h e = let second : ◌≡◌ {A = ℕ} 10 13 = cc in omega arith
no_end_within b (c ∷ line) x y h e =
    let first : b ≡ 13 = cc in
    let second : c ≡ 10 = cc in
    h 0 (omega arith) (first, second)

line_once : (l m x y : List ℕ) → Whole l → Whole m → ended l ++ x ≡ ended m ++ y → (l ≡ m) × (x ≡ y)
line_once [] [] x y h k e = (refl, cc)
line_once [] (b ∷ m) x y h k e = absurd (no_end_within b m x y k e)
line_once (a ∷ l) [] x y h k e = absurd (no_end_within a l y x h (sym e))
line_once (a ∷ l) (b ∷ m) x y h k e =
    let first : a ≡ b = cc in
    let rest : ended l ++ x ≡ ended m ++ y = cc in
    let r = line_once l m x y (whole_rest a l h) (whole_rest b m k) rest in
    (cc, r.1)

regroup : (line : List ℕ) (lines : List (List ℕ)) (x : List ℕ)
    → head_text (line ∷ lines) ++ x ≡ ended line ++ (head_text lines ++ x)
regroup line lines x =
    ap (λ (t : List ℕ). t ++ x) (append_assoc (ended line) (flat_map ended lines) line_end)
    ∙ append_assoc (ended line) (head_text lines) x

empty_line : (line : List ℕ) → IsLine line → line ≡ [] → ⊥
empty_line line is e = let none : length line ≡ 0 = ap length e in omega (arith, is.nonempty)

nothing_whole : Whole []
nothing_whole k lt at = omega arith

pub head_once : (lines others : List (List ℕ)) (x y : List ℕ) → AllByRecursion IsLine lines
    → AllByRecursion IsLine others → head_text lines ++ x ≡ head_text others ++ y → (lines ≡ others) × (x ≡ y)
head_once [] [] x y h k e = (refl, cc)
head_once [] (m ∷ others) x y h k e =
    let r = line_once [] m x (head_text others ++ y) nothing_whole k.0.whole (e ∙ regroup m others y) in
    absurd (empty_line m k.0 (sym r.0))
head_once (l ∷ lines) [] x y h k e =
    let r = line_once [] l y (head_text lines ++ x) nothing_whole h.0.whole (sym e ∙ regroup l lines x) in
    absurd (empty_line l h.0 (sym r.0))
head_once (l ∷ lines) (m ∷ others) x y h k e =
    let r = line_once l m (head_text lines ++ x) (head_text others ++ y) h.0.whole k.0.whole (sym (regroup l lines x) ∙ e ∙ regroup m others y) in
    let s = head_once lines others x y h.1 k.1 r.1 in
    (cc, s.1)

-- two fronts that are heads are one
pub heads_alike : (a b x y : List ℕ) → IsHead a → IsHead b → a ++ x ≡ b ++ y → (a ≡ b) × (x ≡ y)
heads_alike a b x y h k e =
    let r = head_once h.0 k.0 x y h.2 k.2 (ap (λ (t : List ℕ). t ++ x) (sym h.1) ∙ e ∙ ap (λ (t : List ℕ). t ++ y) k.1) in
    (h.1 ∙ ap head_text r.0 ∙ sym k.1, r.1)

-- ---- lines without an empty one

ends_after : (line x : List ℕ) → EndsAt (ended line ++ x) (length line)
ends_after [] x = (refl, refl)
ends_after (b ∷ line) x = ends_after line x

no_line_whole : (line x bytes : List ℕ) → NoneEndsBefore bytes (length bytes) → bytes ≡ ended line ++ x → ⊥
no_line_whole line x bytes none e =
    let len : length bytes ≡ length line + 2 + length x =
    ap length e ∙ length-append (ended line) x ∙ ap (λ n. n + length x) (length-append line line_end) in
    none (length line) (omega arith) (subst (λ (t : List ℕ). EndsAt t (length line)) (sym e) (ends_after line x))

pub no_head : (lines others : List (List ℕ)) (bytes more : List ℕ) → AllByRecursion IsLine lines
    → AllByRecursion IsLine others → NoneEndsBefore bytes (length bytes)
    → flat_map ended lines ++ bytes ≡ head_text others ++ more → ⊥
no_head [] [] bytes more h k none e = no_line_whole [] more bytes none e
no_head [] (m ∷ others) bytes more h k none e =
    no_line_whole m (head_text others ++ more) bytes none (e ∙ regroup m others more)
no_head (l ∷ lines) [] bytes more h k none e =
    let r = line_once [] l more (flat_map ended lines ++ bytes) nothing_whole h.0.whole (sym e ∙ append_assoc (ended l) (flat_map ended lines) bytes) in
    empty_line l h.0 (sym r.0)
no_head (l ∷ lines) (m ∷ others) bytes more h k none e =
    let r = line_once l m (flat_map ended lines ++ bytes) (head_text others ++ more) h.0.whole k.0.whole (sym (append_assoc (ended l) (flat_map ended lines) bytes) ∙ e ∙ regroup m others more) in
    no_head lines others bytes more h.1 k.1 none r.1

-- ---- headers

pub header_head : (header : List ℕ) (n : ℕ) → IsHeader header n → IsHead header
header_head header n h = (h.lines, h.whole, h.each)

-- what lines that end with an empty one say is the length in their header
pub header_stated : (lines : List (List ℕ)) (n : ℕ) → AllByRecursion IsLine lines → IsHeader (head_text lines) n
    → stated_after stated.Nothing lines ≡ stated.Length n
header_stated lines n each h =
    let e : head_text lines ++ [] ≡ head_text h.lines ++ [] = ap (λ (t : List ℕ). t ++ []) h.whole in
    let r = head_once lines h.lines [] [] each h.each e in
    ap (stated_after stated.Nothing) r.0 ∙ once_stated h.lines n h.once

pub stated_header : (lines : List (List ℕ)) (n : ℕ) → AllByRecursion IsLine lines
    → stated_after stated.Nothing lines ≡ stated.Length n → IsHeader (head_text lines) n
stated_header lines n each e = record { lines = lines; whole = refl; each = each; once = stated_once lines n e }

pub headers_alike : (header : List ℕ) (m n : ℕ) → IsHeader header m → IsHeader header n → m ≡ n
headers_alike header m n h k =
    let a : stated_after stated.Nothing h.lines ≡ stated.Length m = once_stated h.lines m h.once in
    let b : stated_after stated.Nothing h.lines ≡ stated.Length n =
    header_stated h.lines n h.each (subst (λ (t : List ℕ). IsHeader t n) h.whole k) in
    cc
