-- What is held stands for what has come, step by step.
use Rattle.std.proofs.Common.{◌≡◌, ℕ, suc, ◌+◌, ◌-◌, ◌<◌, ◌≤◌, true, false, leb, List, [], ◌∷◌, ◌++◌, length, take, drop, min, Some, None, refl, sym, ap, subst, ◌∙◌, append_assoc, arith, inl, inr}
use Rattle.std.specs.List.{AllByRecursion, flat_map}
use Rattle.std.proofs.lemmas.Bool.{le-leb, cases_lt}
use Rattle.std.proofs.lemmas.Bool.Decides.{leb_tells}
use Rattle.std.proofs.lemmas.List.{length-append, length-take, length-drop, take-append-drop, drop-drop, nil_from_length, get_or_append_left}
use Rattle.message_frames.specs.declared.field.Stated.{Stated}
use Rattle.message_frames.specs.declared.field.Stated.TheVariants as stated
use Rattle.message_frames.specs.declared.framing.Stage.{Stage}
use Rattle.message_frames.specs.declared.framing.Stage.TheVariants as stages
use Rattle.message_frames.specs.Header.{NoneEndsBefore, IsLine, ended, line_end, head_text, IsHeader}
use Rattle.message_frames.specs.Stream.{Whole, Headless, IsPartial}
use Rattle.message_frames.specs.Reading.{stated_after, stated_with, field_of}
use Rattle.message_frames.specs.declared.lines.Lines.TheVariants as lines
use Rattle.message_frames.specs.Lines.{LinesBefore, AreRead}
use Rattle.message_frames.specs.Held.{Held, IsStage}
use Rattle.message_frames.specs.Shown.{Message, TooLong, Wait, frame_of}
use Rattle.message_frames.specs.Representing.{LinesRepresent, IsWholeNext, RepresentsAt, Represents, Takes, IsNext}
use Rattle.message_frames.specs.Steps.{passed_of, stage_after}
use Rattle.message_frames.proofs.LineEnds.{none_yet}
use Rattle.message_frames.proofs.StatedLaws.{stated_is, is_stated}
use Rattle.message_frames.proofs.Heads.{heads_alike, no_head, header_head, header_stated, stated_header}

-- ---- what lines say, and what they are read to say

pub read_from : (pending bytes : List ℕ) (t : Stated) → LinesRepresent pending bytes t
    → LinesBefore pending stated.Nothing bytes t
read_from pending bytes t a =
    record { lines = a.lines; whole = a.whole; each = a.each; states = is_stated t a.lines a.states }

represent_on : (pending bytes : List ℕ) (t : Stated) → LinesBefore pending stated.Nothing bytes t → LinesRepresent pending bytes t
represent_on pending bytes t a = record { lines = a.lines; whole = a.whole; each = a.each; states = stated_is t a.lines a.states }

-- ---- lines and then more lines

all_append : {X : Type 0} (P : X → Type 0) (xs ys : List X) → AllByRecursion P xs → AllByRecursion P ys
    → AllByRecursion P (xs ++ ys)
all_append P [] ys h k = k
all_append P (x ∷ xs) ys h k = (h.0, all_append P xs ys h.1 k)

stated_append : (xs ys : List (List ℕ)) (t : Stated) → stated_after t (xs ++ ys) ≡ stated_after (stated_after t xs) ys
stated_append [] ys t = refl
stated_append (x ∷ xs) ys t = stated_append xs ys (stated_with t (field_of x))

text_append : (xs ys : List (List ℕ)) (rest : List ℕ)
    → flat_map ended xs ++ (flat_map ended ys ++ rest) ≡ flat_map ended (xs ++ ys) ++ rest
text_append [] ys rest = refl
text_append (x ∷ xs) ys rest =
    append_assoc (ended x) (flat_map ended xs) (flat_map ended ys ++ rest) ∙ ap (λ (t : List ℕ). ended x ++ t) (text_append xs ys rest)
    ∙ sym (append_assoc (ended x) (flat_map ended (xs ++ ys)) rest)

pub lines_on : (pending bytes rest : List ℕ) (t u : Stated) → LinesBefore pending stated.Nothing bytes t
    → LinesBefore bytes t rest u → LinesBefore pending stated.Nothing rest u
lines_on pending bytes rest t u a b = record {
  lines = a.lines ++ b.lines;
  whole = a.whole ∙ ap (λ (x : List ℕ). flat_map ended a.lines ++ x) b.whole ∙ text_append a.lines b.lines rest;
  each = all_append IsLine a.lines b.lines a.each b.each;
  states = stated_append a.lines b.lines stated.Nothing ∙ ap (λ v. stated_after v b.lines) a.states ∙ b.states;
}

-- ---- what is partial

pub open_partial : (pending bytes : List ℕ) (t : Stated) → LinesBefore pending stated.Nothing bytes t
    → NoneEndsBefore bytes (length bytes) → IsPartial pending
open_partial pending bytes t a none head more is e =
    absurd (no_head a.lines is.0 bytes more a.each is.2 none (sym a.whole ∙ e ∙ ap (λ (x : List ℕ). x ++ more) is.1))

pub short_partial : (pending header bytes : List ℕ) (n : ℕ) → pending ≡ header ++ bytes → IsHeader header n
    → length bytes < n → IsPartial pending
short_partial pending header bytes n e h short head more is f =
    let r = heads_alike header head bytes more (header_head header n h) is (sym e ∙ f) in
    (n, subst (λ (x : List ℕ). IsHeader x n) r.0 h, subst (λ (x : List ℕ). length x < n) r.1 short)

-- ---- a head has come whole

pub record HeadBefore (pending : List ℕ) (t : Stated) (rest : List ℕ) : Type 0 where
  pub lines : List (List ℕ)
  pub whole : pending ≡ head_text lines ++ rest
  pub each : AllByRecursion IsLine lines
  pub states : stated_after stated.Nothing lines ≡ t

pub head_comes : (pending bytes rest : List ℕ) (t u : Stated) (lines : List (List ℕ))
    → LinesBefore pending stated.Nothing bytes t → bytes ≡ head_text lines ++ rest → AllByRecursion IsLine lines
    → stated_after t lines ≡ u → HeadBefore pending u rest
head_comes pending bytes rest t u lines a e each states = record {
  lines = a.lines ++ lines;
  whole =
      a.whole ∙ ap (λ (x : List ℕ). flat_map ended a.lines ++ x) (e ∙ append_assoc (flat_map ended lines) line_end rest)
      ∙ text_append a.lines lines (line_end ++ rest)
      ∙ sym (append_assoc (flat_map ended (a.lines ++ lines)) line_end rest);
  each = all_append IsLine a.lines lines a.each each;
  states = stated_append a.lines lines stated.Nothing ∙ ap (λ v. stated_after v lines) a.states ∙ states;
}

pub header_comes : (pending bytes : List ℕ) (t u : Stated) (len : ℕ) → LinesRepresent pending bytes t
    → AreRead bytes t (lines.Ended len u) → HeadBefore pending u (drop len bytes)
header_comes pending bytes t u len a (le, (ls, e, each, states)) =
    head_comes pending bytes (drop len bytes) t u ls (read_from pending bytes t a) e each states

-- a head takes bytes from the front
pub ended_less : (bytes : List ℕ) (t u : Stated) (len : ℕ) → AreRead bytes t (lines.Ended len u)
    → length (drop len bytes) < length bytes
ended_less bytes t u len (le, (ls, e, each, states)) =
    omega (arith, ap length e, length-append (head_text ls) (drop len bytes), length-append (flat_map ended ls) line_end)

-- ---- what was read is there

pub open_held : (xs : List ℕ) (taken len searched : ℕ) (t u : Stated) → taken ≤ length xs
    → AreRead (drop taken xs) t (lines.Open len u searched)
    → (taken + len ≤ length xs) × IsStage 0 (stages.Lines u searched) (drop (taken + len) xs)
open_held xs taken len searched t u within (le, before, none, is) =
    let all = length-drop taken xs in
    let later = length-drop (taken + len) xs in
    (omega (arith, le, all), (omega (arith, is, all, later), rw (← drop-drop len taken xs) (λ k lt. none k (omega (arith, lt, is, length-drop len (drop taken xs))))))

pub ended_held : (xs : List ℕ) (taken len : ℕ) (t u : Stated) → taken ≤ length xs
    → AreRead (drop taken xs) t (lines.Ended len u) → taken + len ≤ length xs
ended_held xs taken len t u within (le, _) = omega (arith, le, length-drop taken xs)

pub beyond_held : (xs : List ℕ) (taken len n k : ℕ) (t u : Stated) → taken ≤ length xs
    → AreRead (drop taken xs) t (lines.Ended len u) → k ≡ min n (length (drop taken xs) - len)
    → (taken + (len + k) ≤ length xs) × (0 < n - k → length (drop (taken + (len + k)) xs) ≡ 0)
beyond_held xs taken len n k t u within (le, _) is =
    let all = length-drop taken xs in
    let later = length-drop (taken + (len + k)) xs in
    (omega (arith, le, all, is), λ some. omega (arith, some, le, all, later, is))

pub is_header : (pending rest : List ℕ) (n : ℕ) (h : HeadBefore pending (stated.Length n) rest)
    → IsHeader (head_text h.lines) n
is_header pending rest n h = stated_header h.lines n h.each h.states

no_header : (pending rest : List ℕ) (t : Stated) (h : HeadBefore pending t rest) → ((n : ℕ) → t ≡ stated.Length n → ⊥)
    → (n : ℕ) → IsHeader (head_text h.lines) n → ⊥
no_header pending rest t h none n is = none n (sym h.states ∙ header_stated h.lines n h.each is)

pub takes_headless : (pending rest : List ℕ) (t : Stated) (new : Held) → HeadBefore pending t rest
    → ((n : ℕ) → t ≡ stated.Length n → ⊥) → Represents new rest → Takes (Some Headless) pending new
takes_headless pending rest t new h none represents =
    (head_text h.lines, rest, h.whole, ((h.lines, refl, h.each), no_header pending rest t h none), represents)

-- ---- what comes after the lines that were read

pub message_represents : (limit : ℕ) (pending bytes : List ℕ) (t : Stated) (len n : ℕ) → LinesRepresent pending bytes t
    → AreRead bytes t (lines.Ended len (stated.Length n)) → n ≤ limit
    → RepresentsAt limit (stages.Message n) (drop len bytes) pending
message_represents limit pending bytes t len n a read le =
    let h = header_comes pending bytes t (stated.Length n) len a read in
    (head_text h.lines, h.whole, is_header pending (drop len bytes) n h, le)

pub beyond_represents : (limit : ℕ) (pending bytes : List ℕ) (t : Stated) (len n k : ℕ) → LinesRepresent pending bytes t
    → AreRead bytes t (lines.Ended len (stated.Length n)) → limit < n → k ≤ n → k ≤ length bytes - len
    → RepresentsAt limit (stages.TooLong n (n - k)) (drop (len + k) bytes) pending
beyond_represents limit pending bytes t len n k a read lt le room =
    let h = header_comes pending bytes t (stated.Length n) len a read in
    let rest = drop len bytes in
    let text : pending ≡ head_text h.lines ++ (take k rest ++ drop (len + k) bytes) =
    h.whole ∙ ap (λ (x : List ℕ). head_text h.lines ++ x) (sym (take-append-drop k rest) ∙ ap (λ (x : List ℕ). take k rest ++ x) (drop-drop k len bytes)) in
    (head_text h.lines, take k rest, text, is_header pending rest n h, lt, omega (arith, length-take k rest, length-drop len bytes))

pub open_represents : (pending bytes : List ℕ) (t u : Stated) (len searched : ℕ) → LinesRepresent pending bytes t
    → AreRead bytes t (lines.Open len u searched)
    → IsPartial pending × LinesRepresent pending (drop len bytes) u
open_represents pending bytes t u len searched a (le, read, none, is) =
    let all = lines_on pending bytes (drop len bytes) t u (read_from pending bytes t a) read in
    (open_partial pending (drop len bytes) u all none, represent_on pending (drop len bytes) u all)

-- ---- frames

frame_within : (limit : ℕ) (message : List ℕ) → length message ≤ limit
    → frame_of limit (Whole message) ≡ Message message
frame_within limit message le = let test : leb (length message) limit ≡ true = le-leb (length message) limit le in rw test refl

frame_beyond : (limit : ℕ) (message : List ℕ) → limit < length message
    → frame_of limit (Whole message) ≡ TooLong (length message)
frame_beyond limit message lt = let test : leb (length message) limit ≡ false = elim (leb_tells (length message) limit) [ inl t ↦ absurd (omega (arith, t.1)) | inr t ↦ t.0 ] in
    rw test refl

pub starts : (limit : ℕ) (rest : List ℕ) → RepresentsAt limit (stages.Lines stated.Nothing 0) rest rest
starts limit rest = represent_on rest rest stated.Nothing (none_yet rest stated.Nothing)

pub whole_next : (limit : ℕ) (pending bytes : List ℕ) (n : ℕ) (new : Held)
    → RepresentsAt limit (stages.Message n) bytes pending → n ≤ length bytes → Represents new (drop n bytes)
    → IsNext limit pending (Message (take n bytes)) new
whole_next limit pending bytes n new (header, e, h, le) room represents =
    let len : length (take n bytes) ≡ n = omega (arith, length-take n bytes) in
    let text : pending ≡ (header ++ take n bytes) ++ drop n bytes =
    e ∙ ap (λ (x : List ℕ). header ++ x) (sym (take-append-drop n bytes))
    ∙ sym (append_assoc header (take n bytes) (drop n bytes)) in
    let is : IsHeader header (length (take n bytes)) = subst (λ k. IsHeader header k) (sym len) h in
    (Some (Whole (take n bytes)), sym (frame_within limit (take n bytes) (omega arith)), (header ++ take n bytes, drop n bytes, text, (header, refl, is), represents))

pub waits_next : (limit : ℕ) (pending : List ℕ) (new : Held) → IsPartial pending → Represents new pending
    → IsNext limit pending Wait new
waits_next limit pending new partial represents = (None, refl, (partial, represents))

pub passed_next : (limit : ℕ) (pending bytes : List ℕ) (n : ℕ) (new : Held)
    → RepresentsAt limit (stages.TooLong n 0) bytes pending → Represents new bytes → IsNext limit pending (TooLong n) new
passed_next limit pending bytes n new (header, passed, e, h, lt, len) represents =
    let is : length passed ≡ n = omega (arith, len) in
    let text : pending ≡ (header ++ passed) ++ bytes = e ∙ sym (append_assoc header passed bytes) in
    let frame : TooLong n ≡ frame_of limit (Whole passed) =
    ap TooLong (sym is) ∙ sym (frame_beyond limit passed (omega arith)) in
    (Some (Whole passed), frame, (header ++ passed, bytes, text, (header, refl, subst (λ k. IsHeader header k) (sym is) h), represents))

pub passing_partial : (limit : ℕ) (pending bytes : List ℕ) (n left : ℕ)
    → RepresentsAt limit (stages.TooLong n left) bytes pending → 0 < left → length bytes ≡ 0 → IsPartial pending
passing_partial limit pending bytes n left (header, passed, e, h, lt, len) some none =
    short_partial pending header (passed ++ bytes) n e h (omega (arith, len, length-append passed bytes))

-- ---- bytes come

pub lines_grow : (pending bytes more : List ℕ) (t : Stated) → LinesRepresent pending bytes t
    → LinesRepresent (pending ++ more) (bytes ++ more) t
lines_grow pending bytes more t a = record {
  lines = a.lines;
  whole = ap (λ (x : List ℕ). x ++ more) a.whole ∙ append_assoc (flat_map ended a.lines) bytes more;
  each = a.each;
  states = a.states;
}

pub represents_grow : (limit : ℕ) (stage : Stage) (bytes pending more : List ℕ) → IsStage limit stage bytes
    → RepresentsAt limit stage bytes pending
    → RepresentsAt limit (stage_after stage (passed_of stage (length more))) (bytes ++ drop (passed_of stage (length more)) more) (pending ++ more)
represents_grow limit (stages.Lines t searched) bytes pending more is a = lines_grow pending bytes more t a
represents_grow limit (stages.Message len) bytes pending more is (header, e, h, le) =
    (header, ap (λ (x : List ℕ). x ++ more) e ∙ append_assoc header bytes more, h, le)
represents_grow limit (stages.TooLong len left) bytes pending more is (header, passed, e, h, lt, total) =
    let k = min left (length more) in
    let here : bytes ++ more ≡ take k more ++ (bytes ++ drop k more) = passing is in
    let text : pending ++ more ≡ header ++ ((passed ++ take k more) ++ (bytes ++ drop k more)) =
    ap (λ (x : List ℕ). x ++ more) e ∙ append_assoc header (passed ++ bytes) more
    ∙ ap (λ (x : List ℕ). header ++ x) (append_assoc passed bytes more ∙ ap (λ (x : List ℕ). passed ++ x) here ∙ sym (append_assoc passed (take k more) (bytes ++ drop k more))) in
    (header, passed ++ take k more, text, h, lt, omega (arith, total, length-append passed (take k more), length-take k more))
  where
    passing : (0 < left → length bytes ≡ 0) → bytes ++ more ≡ take (min left (length more)) more ++ (bytes ++ drop (min left (length more)) more)
    passing h =
        elim (cases_lt 0 left) [
          | inl some ↦
              let none : bytes ≡ [] = nil_from_length bytes (h some) in
              subst (λ (x : List ℕ). x ++ more ≡ take (min left (length more)) more ++ (x ++ drop (min left (length more)) more)) (sym none) (sym (take-append-drop (min left (length more)) more))
          | inr none ↦ let k : min left (length more) ≡ 0 = omega arith in rw k refl
        ]

pub stage_grows : (limit : ℕ) (stage : Stage) (bytes more : List ℕ) → IsStage limit stage bytes
    → IsStage limit (stage_after stage (passed_of stage (length more))) (bytes ++ drop (passed_of stage (length more)) more)
stage_grows limit (stages.Lines t searched) bytes more (le, none) = (
  omega (arith, length-append bytes more),
  λ k lt at.
      let here : k < length bytes = omega arith in
      let there : suc k < length bytes = omega arith in
      none k lt (sym (get_or_append_left bytes more 0 k here) ∙ at.0, sym (get_or_append_left bytes more 0 (suc k) there) ∙ at.1),
)
stage_grows limit (stages.Message len) bytes more is = is
stage_grows limit (stages.TooLong len left) bytes more is = λ some.
    let some_left : 0 < left = omega arith in
    omega (arith, some, is some_left, length-append bytes (drop (min left (length more)) more), length-drop (min left (length more)) more)

-- ---- an allocation failure

pub whole_waits : (limit : ℕ) (pending bytes : List ℕ) (n : ℕ) → RepresentsAt limit (stages.Message n) bytes pending
    → n ≤ length bytes → IsWholeNext limit pending
whole_waits limit pending bytes n (header, e, h, le) room =
    let len : length (take n bytes) ≡ n = omega (arith, length-take n bytes) in
    let text : pending ≡ (header ++ take n bytes) ++ drop n bytes =
    e ∙ ap (λ (x : List ℕ). header ++ x) (sym (take-append-drop n bytes))
    ∙ sym (append_assoc header (take n bytes) (drop n bytes)) in
    (take n bytes, header ++ take n bytes, drop n bytes, text, (header, refl, subst (λ k. IsHeader header k) (sym len) h), omega arith)
