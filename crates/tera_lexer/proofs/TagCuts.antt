-- Where a text may be cut at the markers of comments and raw pieces.
use Rattle.std.proofs.Common.{◌≡◌, ℕ, suc, ◌+◌, ◌<◌, Bool, true, List, [], ◌∷◌, ◌++◌, length, drop, Option, Some, None, ⊎_elim, sym, ap, ◌∙◌, refl, subst, arith, append_assoc, IsUtf8}
use Rattle.std.specs.Char.{is_ascii_whitespace}
use Rattle.std.specs.List.{AllByRecursion}
use Rattle.std.specs.Str.{IsCharBoundary}
use Rattle.std.proofs.lemmas.Bool.{cases_Bool}
use Rattle.std.proofs.lemmas.List.{drop_at, drop-drop, length-append}
use Rattle.std.proofs.lemmas.Str.{IsCharBoundary-from_rest, IsUtf8-drop}
use Rattle.tera_lexer.specs.grammar.Marks.{Marks, IsValid, begins, dash_bytes}
use Rattle.tera_lexer.specs.grammar.Raw.{WordTag, word_tag_bytes, raw_word, endraw_word, IsWordTag, ClosesRaw, IsBody}
use Rattle.std.specs.Prelude.{IfSome}
use Rattle.tera_lexer.specs.reading.Front.{more, find_marker, word_tag_at, RawEnd}
use Rattle.tera_lexer.specs.code.Markers.{marker_len, IsWordTagOf, OpensBy, IsRawEndOf, IsRawCut}
use Rattle.tera_lexer.specs.declared.lexer.markers.WordTag.{WordTag as WordTagOfCode}
use Rattle.tera_lexer.proofs.Markers.{splits_begins, marker_cut, begin_cut}
use Rattle.tera_lexer.proofs.Cuts.{space_ascii, all_weaker, all_append, cut_after_ascii, dash_ascii}
use Rattle.tera_lexer.proofs.WordTags.{IsTagAt, word_tag_sound, word_tag_none}
use Rattle.tera_lexer.proofs.RawEnds.{IsEndAt, parts_split}

-- before and after a marker that is so many bytes further
pub marker_cuts : (bytes marker : List ℕ) (i : ℕ) → IsUtf8 bytes → IsUtf8 marker → length marker ≡ 2 → i < length bytes → begins marker (drop i bytes) ≡ true
    → IsCharBoundary bytes i × IsCharBoundary bytes (i + length marker)
marker_cuts bytes marker i utf8 text two lt here =
    let cut = begin_cut bytes marker i lt text two here in
    (cut, IsCharBoundary-from_rest bytes i (length marker) cut.0 (marker_cut (drop i bytes) marker (IsUtf8-drop bytes i utf8 cut) text here))

some_same : {A : Type 0} {a b : A} → Some a ≡ Some b → a ≡ b
some_same e = cc

-- a marker that is found is there
IsThere : List ℕ → List ℕ → ℕ → Type 0
IsThere marker bytes n = (n < length bytes) × (begins marker (drop n bytes) ≡ true)

one_further : (marker : List ℕ) (b : ℕ) (bs : List ℕ) (n : ℕ) (o : Option ℕ) → ((k : ℕ) → o ≡ Some k → IsThere marker bs k) → more o ≡ Some n → IsThere marker (b ∷ bs) n
unfolding IsThere
one_further marker b bs n None there e = cc
one_further marker b bs n (Some k) there e =
    let rec = there k refl in
    let is : suc k ≡ n = some_same e in
    subst (IsThere marker (b ∷ bs)) is (omega (arith, rec.0), rec.1)

pub marker_found : (marker bytes : List ℕ) (n : ℕ) → find_marker marker bytes ≡ Some n → (n < length bytes) × (begins marker (drop n bytes) ≡ true)
unfolding IsThere
marker_found marker [] n e = cc
marker_found marker (b ∷ bs) n e =
    ⊎_elim
    (λ here. let zero_is : 0 ≡ n = some_same (rw here at e) in subst (IsThere marker (b ∷ bs)) zero_is (omega arith, here))
    (λ other. one_further marker b bs n (find_marker marker bs) (λ k found. marker_found marker bs k found) (rw other at e))
    (cases_Bool (begins marker (b ∷ bs)))

-- after a tag of a raw piece
pub gap_ascii : (gap : List ℕ) → AllByRecursion (λ b. is_ascii_whitespace b ≡ true) gap → AllByRecursion (λ b. b < 128) gap
gap_ascii gap all = all_weaker (λ b. is_ascii_whitespace b ≡ true) (λ b. b < 128) gap space_ascii all

pub word_tag_cut : (word end : List ℕ) (t : WordTag) (bytes rest : List ℕ) → IsUtf8 bytes → IsUtf8 end → AllByRecursion (λ b. b < 128) word → IsWordTag word end t bytes rest → IsCharBoundary bytes (length (word_tag_bytes word end t))
word_tag_cut word end t bytes rest utf8 text ascii is =
    let low : ℕ → Type 0 = λ b. b < 128 in
    let front : List ℕ = dash_bytes t.dash_in ++ (t.before ++ (word ++ (t.following ++ dash_bytes t.dash_out))) in
    let regroup : (tail : List ℕ) → dash_bytes t.dash_in ++ (t.before ++ (word ++ (t.following ++ (dash_bytes t.dash_out ++ tail)))) ≡ front ++ tail
    = λ tail. sym (append_assoc (dash_bytes t.dash_in) (t.before ++ (word ++ (t.following ++ dash_bytes t.dash_out))) tail
    ∙ ap (λ l. dash_bytes t.dash_in ++ l) (append_assoc t.before (word ++ (t.following ++ dash_bytes t.dash_out)) tail
    ∙ ap (λ l. t.before ++ l) (append_assoc word (t.following ++ dash_bytes t.dash_out) tail
    ∙ ap (λ l. word ++ l) (append_assoc t.following (dash_bytes t.dash_out) tail)))) in
    let splits : bytes ≡ front ++ (end ++ rest) = is.splits ∙ regroup (end ++ rest) in
    let all : AllByRecursion low front
    = all_append low (dash_bytes t.dash_in) _ (dash_ascii t.dash_in) (all_append low t.before _ (gap_ascii t.before is.gap_before.0) (all_append low word _ ascii (all_append low t.following _ (gap_ascii t.following is.gap_after.0) (dash_ascii t.dash_out)))) in
    let cut = cut_after_ascii bytes front (end ++ rest) utf8 splits all in
    let following : drop (length front) bytes ≡ end ++ rest = ap (drop (length front)) splits ∙ drop_at front (end ++ rest) (length front) refl in
    let here = splits_begins end (drop (length front) bytes) rest following in
    let len : length front + length end ≡ length (word_tag_bytes word end t) = sym (length-append front end) ∙ ap length (sym (regroup end)) in
    subst (IsCharBoundary bytes) len (IsCharBoundary-from_rest bytes (length front) (length end) cut.0 (marker_cut (drop (length front) bytes) end (IsUtf8-drop bytes (length front) utf8 cut) text here))

pub raw_ascii : AllByRecursion (λ b. b < 128) raw_word
raw_ascii = (omega arith, (omega arith, (omega arith, tt)))

pub endraw_ascii : AllByRecursion (λ b. b < 128) endraw_word
endraw_ascii = (omega arith, (omega arith, (omega arith, (omega arith, (omega arith, (omega arith, tt))))))

-- at the block start that closes a raw piece, and after its tag
pub record AreBodyCuts (m : Marks) (bytes : List ℕ) (len : ℕ) (close : WordTag) : Type 0 where
  pub before : IsCharBoundary bytes len
  pub following : IsCharBoundary bytes (len + (length m.block_start + length (word_tag_bytes endraw_word m.block_end close)))

pub body_cuts : (m : Marks) → IsValid m → (body : List ℕ) (close : WordTag) (bytes rest : List ℕ) → IsUtf8 bytes → IsUtf8 m.block_start → IsUtf8 m.block_end → IsBody m body close bytes rest → AreBodyCuts m bytes (length body) close
body_cuts m valid body close bytes rest utf8 start_text end_text (parts, last, is, are) =
    let (following, e, closes) = parts_split m valid.block_start parts last close bytes rest are in
    let splits : bytes ≡ body ++ (m.block_start ++ following) = e ∙ ap (λ l. l ++ (m.block_start ++ following)) (sym is) in
    let at : drop (length body) bytes ≡ m.block_start ++ following = ap (drop (length body)) splits ∙ drop_at body (m.block_start ++ following) (length body) refl in
    let two = valid.block_start in
    let inside : length body < length bytes = omega (arith, ap length splits, length-append body (m.block_start ++ following), length-append m.block_start following) in
    let cuts = marker_cuts bytes m.block_start (length body) utf8 start_text two inside (splits_begins m.block_start (drop (length body) bytes) following at) in
    let there : ℕ = length body + length m.block_start in
    let after : drop there bytes ≡ following
    = sym (drop-drop (length m.block_start) (length body) bytes) ∙ ap (drop (length m.block_start)) at ∙ drop_at m.block_start following (length m.block_start) refl in
    let tag = word_tag_cut endraw_word m.block_end close (drop there bytes) rest (IsUtf8-drop bytes there utf8 cuts.1) end_text endraw_ascii (subst (λ l. ClosesRaw m close l rest) (sym after) closes) in
    let tag_len : ℕ = length (word_tag_bytes endraw_word m.block_end close) in
    let regroup : there + tag_len ≡ length body + (length m.block_start + tag_len) = omega arith in
    record {
      before = cuts.0;
      following = subst (IsCharBoundary bytes) regroup (IsCharBoundary-from_rest bytes there tag_len cuts.1.0 tag);
    }

pub raw_cuts : (m : Marks) (valid : IsValid m) (text : List ℕ) (o : Option (ℕ × WordTagOfCode)) (found : Option RawEnd) → IsUtf8 text → IsUtf8 m.block_start → IsUtf8 m.block_end → IsRawEndOf m.block_end o found → IsEndAt m valid.block_start text found
    → IfSome o (IsRawCut m text)
unfolding IsEndAt
raw_cuts m valid text None found utf8 start_text end_text ends is = tt
raw_cuts m valid text (Some p) None utf8 start_text end_text ends is = absurd ends
raw_cuts m valid text (Some p) (Some e) utf8 start_text end_text ends (body, len, is) =
    let cuts = body_cuts m valid body e.close text e.rest utf8 start_text end_text is in
    let at : length body ≡ p.0 = sym (ends.0 ∙ len) in
    let tag : length (word_tag_bytes endraw_word m.block_end e.close) ≡ p.1.len = sym ends.1.2 in (
      subst (IsCharBoundary text) at cuts.before,
      subst (IsCharBoundary text) (λ i. at i + (length m.block_start + tag i)) cuts.following,
    )

-- after the tag that opens a raw piece, where one is found
pub opens_cut : (m : Marks) (tag : WordTagOfCode) (following : List ℕ) (o : Option (WordTag × List ℕ)) → IsUtf8 following → IsUtf8 m.block_end → word_tag_at raw_word m.block_end following ≡ o → IsWordTagOf raw_word m.block_end (Some tag) o → IsCharBoundary following tag.len
opens_cut m tag following None utf8 end_text e is = absurd is
opens_cut m tag following (Some p) utf8 end_text e is =
    let sound : IsTagAt raw_word m.block_end following (Some p) = subst (IsTagAt raw_word m.block_end following) e (word_tag_sound raw_word m.block_end following) in
    subst (IsCharBoundary following) (sym is.2) (word_tag_cut raw_word m.block_end p.0 following p.1 utf8 end_text raw_ascii sound)

pub opens_by : (m : Marks) (dash : Bool) (tag : WordTagOfCode) (rest : List ℕ) (o : Option (WordTag × List ℕ)) → IsUtf8 rest → IsUtf8 m.block_end → IsCharBoundary rest (marker_len m.block_start dash)
    → word_tag_at raw_word m.block_end (drop (marker_len m.block_start dash) rest) ≡ o → IsWordTagOf raw_word m.block_end (Some tag) o → OpensBy m dash tag rest
opens_by m dash tag rest None utf8 end_text cut e is = absurd is
opens_by m dash tag rest (Some p) utf8 end_text cut e is =
    let at : ℕ = marker_len m.block_start dash in
    let cut_on = opens_cut m tag (drop at rest) (Some p) (IsUtf8-drop rest at utf8 cut) end_text e is in
    (p.0, p.1, is, IsCharBoundary-from_rest rest at tag.len cut.0 cut_on, e)

pub opens_none : (word end bytes : List ℕ) (o : Option (WordTag × List ℕ)) → word_tag_at word end bytes ≡ o → IsWordTagOf word end None o → (t : WordTag) (rest : List ℕ) → IsWordTag word end t bytes rest → ⊥
opens_none word end bytes None e is = word_tag_none word end bytes e
opens_none word end bytes (Some p) e is = absurd is
