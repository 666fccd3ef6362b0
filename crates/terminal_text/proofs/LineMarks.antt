-- Where the characters of a line begin.
use Rattle.std.proofs.Common.{◌≡◌, ℕ, ◌+◌, ◌*◌, ◌<◌, ◌≤◌, List, [], ◌∷◌, ◌++◌, length, get_or, take, drop, chars, encode_utf8_all, IsUtf8, sym, ap, ◌∙◌, arith, length-append, min, ⊎_elim}
use Rattle.std.proofs.Math.Seq.{take-add}
use Rattle.std.proofs.lemmas.Bool.{cases_lt}
use Rattle.std.proofs.lemmas.List.{get_or_append_left, get_or-append-add, length-take}
use Rattle.std.proofs.lemmas.Str.{encodes-append, encodes-chars, length-le-encodes}
use Rattle.terminal_text.specs.Lines.{offset_at, AreMarks}
use Rattle.terminal_text.proofs.Offsets.{cut_there}

-- so many characters, and then so many of the rest
pub offset_more : (text : List ℕ) (n m : ℕ) → IsUtf8 text
    → offset_at text (n + m) ≡ offset_at text n + offset_at (drop (offset_at text n) text) m
offset_more text n m utf8 =
    let front = take n (chars text) in
    let back = take m (drop n (chars text)) in
    ap (λ cs. length (encode_utf8_all cs)) (take-add n m (chars text)) ∙ ap length (encodes-append front back)
    ∙ length-append (encode_utf8_all front) (encode_utf8_all back)
    ∙ ap (λ cs. offset_at text n + length (encode_utf8_all (take m cs))) (sym (cut_there text n utf8).1)

pub one_more : (text marks : List ℕ) (mark : ℕ) → AreMarks text marks → mark ≡ offset_at text (length marks * 128)
    → AreMarks text (marks ++ mark ∷ [])
one_more text marks mark are is k below =
    ⊎_elim
    (λ (before : k < length marks). get_or_append_left marks (mark ∷ []) 0 k before ∙ are k before)
    (λ (after : length marks ≤ k).
    let last : k ≡ length marks = omega (arith, below, after, length-append marks (mark ∷ [])) in
    ap (λ i. get_or (marks ++ mark ∷ []) i 0) (last ∙ omega arith) ∙ get_or-append-add marks (mark ∷ []) 0 0 ∙ is ∙ ap (λ i. offset_at text (i * 128)) (sym last))
    (cases_lt k (length marks))

some_chars : (cs text : List ℕ) → encode_utf8_all cs ≡ text → 0 < length text → 0 < length cs
some_chars [] text is some = absurd (omega (arith, ap length is, some))
some_chars (c ∷ cs) text is some = omega arith

-- the next mark is a later place
pub goes_on : (text : List ℕ) → IsUtf8 text → 0 < length text → 0 < offset_at text 128
goes_on text utf8 some =
    let many : 0 < length (chars text) = some_chars (chars text) text (encodes-chars text utf8) some in
    let taken : length (take 128 (chars text)) ≡ min 128 (length (chars text)) = length-take 128 (chars text) in
    let below = length-le-encodes (take 128 (chars text)) in
    omega (arith, many, taken, below)

-- a mark that was found among them
pub mark_at : (text marks found : List ℕ) (k mark : ℕ) → found ≡ marks → k < length found → mark ≡ get_or found k 0
    → AreMarks text marks → mark ≡ offset_at text (k * 128)
mark_at text marks found k mark same below is are =
    is ∙ ap (λ l. get_or l k 0) same ∙ are k (omega (arith, below, ap length same))
