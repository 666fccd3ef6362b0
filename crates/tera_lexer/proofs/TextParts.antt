-- Parts of texts.
use Rattle.std.proofs.Common.{◌≡◌, ℕ, Bool, true, false, cond, ◌&&◌, ◌==◌, List, [], ◌∷◌, ◌++◌, length, take, drop, refl, ap, sym, ◌∙◌, append_assoc, IsUtf8, chars}
use Rattle.std.specs.Char.{is_whitespace}
use Rattle.std.specs.Str.{trim_start, trim_end, skip_leading_whitespace, drop_trailing_whitespace, IsTrimStart, IsTrimEnd}
use Rattle.std.proofs.Math.Utf8.{scalar, scalars, encodes}
use Rattle.std.proofs.lemmas.List.{append-nil, take-append-drop}
use Rattle.std.proofs.lemmas.Str.{encodes-append, encodes-chars, scalars-chars}
use Rattle.tera_lexer.specs.grammar.Trimming.{trimmed}
use Rattle.tera_lexer.specs.code.Steps.{IsPart}

pub part_whole : (text : List ℕ) → IsPart text text
part_whole text = ([], [], sym (append-nil text))

-- a part of a part
pub part_part : (text body bytes : List ℕ) → IsPart text body → IsPart body bytes → IsPart text bytes
part_part text body bytes (before, following, is) (front, rest, e) = (
  front ++ before,
  following ++ rest,
  e ∙ ap (λ l. front ++ (l ++ rest)) is ∙ ap (λ l. front ++ l) (append_assoc before (text ++ following) rest ∙ ap (λ l. before ++ l) (append_assoc text following rest))
      ∙ sym (append_assoc front before (text ++ (following ++ rest))),
)

-- what trimming leaves
pub part_start : (text left : List ℕ) → IsTrimStart text left → IsPart left text
part_start text left trims = (take trims.0 text, [], sym (take-append-drop trims.0 text) ∙ ap (λ l. take trims.0 text ++ l) (sym trims.1 ∙ sym (append-nil left)))

pub part_end : (text left : List ℕ) → IsTrimEnd text left → IsPart left text
part_end text left trims = ([], drop trims.0 text, sym (take-append-drop trims.0 text) ∙ ap (λ l. l ++ drop trims.0 text) (sym trims.1))

-- of characters, without the white space at their start and at their end
skipped : (white : Bool) (c : ℕ) (cs ws : List ℕ) → cs ≡ ws ++ skip_leading_whitespace cs → (front : List ℕ) × (c ∷ cs ≡ front ++ cond white (skip_leading_whitespace cs) (c ∷ cs))
skipped true c cs ws e = (c ∷ ws, ap (λ l. c ∷ l) e)
skipped false c cs ws e = ([], refl)

white_front : (cs : List ℕ) → (ws : List ℕ) × (cs ≡ ws ++ skip_leading_whitespace cs)
white_front [] = ([], refl)
white_front (c ∷ cs) = let (ws, e) = white_front cs in skipped (is_whitespace c) c cs ws e

dropped : (white : Bool) (c : ℕ) (cs ws : List ℕ) → cs ≡ drop_trailing_whitespace cs ++ ws → (back : List ℕ) × (c ∷ cs ≡ cond white [] (c ∷ drop_trailing_whitespace cs) ++ back)
dropped true c cs ws e = (c ∷ cs, refl)
dropped false c cs ws e = (ws, ap (λ l. c ∷ l) e)

white_back : (cs : List ℕ) → (ws : List ℕ) × (cs ≡ drop_trailing_whitespace cs ++ ws)
white_back [] = ([], refl)
white_back (c ∷ cs) = let (ws, e) = white_back cs in dropped (is_whitespace c && length (drop_trailing_whitespace cs) == 0) c cs ws e

and_second : (a b : Bool) → (a && b) ≡ true → b ≡ true
and_second true b h = h
and_second false b h = cc

scalars_after : (ws cs : List ℕ) → scalars (ws ++ cs) ≡ true → scalars cs ≡ true
scalars_after [] cs h = h
scalars_after (w ∷ ws) cs h = scalars_after ws cs (and_second (scalar w) (scalars (ws ++ cs)) h)

-- of a text
text_start : (text : List ℕ) → IsUtf8 text → IsPart (trim_start text) text × IsUtf8 (trim_start text)
unfolding trim_start
text_start text utf8 =
    let (ws, e) = white_front (chars text) in
    let kept : List ℕ = skip_leading_whitespace (chars text) in
    let whole : text ≡ encodes ws ++ encodes kept = sym (encodes-chars text utf8) ∙ ap encodes e ∙ encodes-append ws kept in (
      (encodes ws, [], whole ∙ ap (λ l. encodes ws ++ l) (sym (append-nil (encodes kept)))),
      (kept, (scalars_after ws kept (sym (ap scalars e) ∙ scalars-chars text utf8), refl)),
    )

text_end : (text : List ℕ) → IsUtf8 text → IsPart (trim_end text) text
unfolding trim_end
text_end text utf8 =
    let (ws, e) = white_back (chars text) in
    let kept : List ℕ = drop_trailing_whitespace (chars text) in
    ([], encodes ws, sym (encodes-chars text utf8) ∙ ap encodes e ∙ encodes-append kept ws)

pub part_trimmed : (start end : Bool) (text : List ℕ) → IsUtf8 text → IsPart (trimmed start end text) text
part_trimmed false false text utf8 = part_whole text
part_trimmed true false text utf8 = (text_start text utf8).0
part_trimmed false true text utf8 = text_end text utf8
part_trimmed true true text utf8 =
    let begun = text_start text utf8 in part_part (trim_end (trim_start text)) (trim_start text) text (text_end (trim_start text) begun.1) begun.0
