-- Each piece that is read is there, and leaves less after it.
use Rattle.std.proofs.Common.{◌≡◌, ◌≢◌, ℕ, suc, ◌<◌, ◌≤◌, Bool, false, List, [], ◌∷◌, ◌++◌, length, take, drop, Option, Some, None, ⊎_elim, ap, sym, ◌∙◌, refl, subst, arith}
use Rattle.std.proofs.lemmas.Bool.{cases_Bool}
use Rattle.std.proofs.lemmas.List.{take_at, length-append, take-append-drop}
use Rattle.tera_lexer.specs.grammar.Marks.{Marks, IsValid, start_marker, end_marker, NowhereIn, dash_bytes}
use Rattle.tera_lexer.specs.grammar.Lexeme.{Item, Close, End, Open, Bad, IsInside}
use Rattle.tera_lexer.specs.grammar.Raw.{WordTag, word_tag_bytes, raw_word, endraw_word, OpensRaw, IsBody}
use Rattle.tera_lexer.specs.grammar.Division.{is_at_start, EndsText, Piece, Text, Comment, Raw, Tag, Ending, Starts, OpensTag, IsPiece, IsDivision}
use Rattle.tera_lexer.specs.reading.Front.{inside_of, find_marker, word_tag_at, RawEnd, raw_end, tag_step, tag_front, comment_step, raw_step, block_step, text_len, text_step}
use Rattle.tera_lexer.specs.declared.lexer.delimiters.Kind.{Kind}
use Rattle.tera_lexer.specs.declared.lexer.delimiters.Kind.TheVariants.{Variable, Block}
use Rattle.tera_lexer.proofs.Insides.{inside_sound, end_shortens}
use Rattle.tera_lexer.proofs.WordTags.{IsTagAt, word_tag_sound, word_tag_none, word_tag_splits}
use Rattle.tera_lexer.proofs.Finding.{IsMarkerAt, after_at, find_sound}
use Rattle.tera_lexer.proofs.RawEnds.{IsEndAt, raw_sound, parts_split}

-- a text before the next start marker is there, and is found
pub text_sound : (m : Marks) (bytes : List ℕ) → NowhereIn (is_at_start m) (take (text_len m bytes) bytes) (drop (text_len m bytes) bytes) × EndsText m (drop (text_len m bytes) bytes)
text_sound m [] = (tt, tt)
text_sound m (b ∷ bs) =
    ⊎_elim
    (λ here. rw here (tt, here))
    (λ other. rw other (let rec = text_sound m bs in ((subst (λ l. is_at_start m (b ∷ l) ≡ false) (sym (take-append-drop (text_len m bs) bs)) other, rec.0), rec.1)))
    (cases_Bool (is_at_start m (b ∷ bs)))

pub text_length : (m : Marks) (text rest : List ℕ) → NowhereIn (is_at_start m) text rest → EndsText m rest → text_len m (text ++ rest) ≡ length text
text_length m [] [] none ends = refl
text_length m [] (b ∷ bs) none ends = rw ends refl
text_length m (b ∷ bs) rest none ends = rw none.0 (ap suc (text_length m bs rest none.1 ends))

-- a piece leaves less after it
starts_shortens : (marker : List ℕ) (dash : Bool) (bytes inside : List ℕ) → length marker ≡ 2 → Starts marker dash bytes inside → length inside < length bytes
starts_shortens marker dash bytes inside two starts =
    omega (arith, ap length starts.0, length-append marker (dash_bytes dash ++ inside), length-append (dash_bytes dash) inside)

text_shortens : (text rest bytes : List ℕ) → bytes ≡ text ++ rest → text ≢ [] → length rest < length bytes
text_shortens [] rest bytes e some = absurd (some refl)
text_shortens (b ∷ text) rest bytes e some = omega (arith, ap length e, length-append text rest)

module _ (m : Marks) (valid : IsValid m) where
  pub start_two : (kind : Kind) → length (start_marker kind m) ≡ 2
  start_two Variable = valid.variable_start
  start_two Block = valid.block_start

  pub end_two : (kind : Kind) → length (end_marker kind m) ≡ 2
  end_two Variable = valid.variable_end
  end_two Block = valid.block_end

  opens_shortens : (t : WordTag) (bytes rest : List ℕ) → OpensRaw m t bytes rest → length rest ≤ length bytes
  opens_shortens t bytes rest opens =
      omega (arith, ap length (word_tag_splits raw_word m.block_end t bytes rest opens), length-append (word_tag_bytes raw_word m.block_end t) rest)

  -- the body of a raw piece, and what is after it
  pub body_splits : (body : List ℕ) (close : WordTag) (bytes rest : List ℕ) → IsBody m body close bytes rest → bytes ≡ body ++ (m.block_start ++ (word_tag_bytes endraw_word m.block_end close ++ rest))
  body_splits body close bytes rest (parts, last, is, are) =
      let (following, e, closes) = parts_split m valid.block_start parts last close bytes rest are in
      e ∙ (λ i. sym is i ++ (m.block_start ++ word_tag_splits endraw_word m.block_end close following rest closes i))

  body_shortens : (body : List ℕ) (close : WordTag) (bytes rest : List ℕ) → IsBody m body close bytes rest → length rest ≤ length bytes
  body_shortens body close bytes rest is =
      omega (arith, ap length (body_splits body close bytes rest is), length-append body (m.block_start ++ (word_tag_bytes endraw_word m.block_end close ++ rest)), length-append m.block_start (word_tag_bytes endraw_word m.block_end close ++ rest), length-append (word_tag_bytes endraw_word m.block_end close) rest)

  pub piece_shortens : (p : Piece) (bytes rest : List ℕ) → IsPiece m p bytes rest → length rest < length bytes
  piece_shortens (Text text) bytes rest (e, some, none, ends) = text_shortens text rest bytes e some
  piece_shortens (Comment dash inside) bytes rest (following, starts, e, none) =
      omega (arith, starts_shortens m.comment_start dash bytes following valid.comment_start starts, ap length e, length-append inside (m.comment_end ++ rest), length-append m.comment_end rest)
  piece_shortens (Raw dash opening body closing) bytes rest (following, inside, starts, opens, is) =
      omega (arith, starts_shortens m.block_start dash bytes following valid.block_start starts, opens_shortens opening following inside opens, body_shortens body closing inside rest is)
  piece_shortens (Tag kind dash items gap end) bytes rest (inside, starts, opens, here) =
      omega (arith, end_shortens (end_marker kind m) items gap end rest inside (end_two kind) here, starts_shortens (start_marker kind m) dash bytes inside (start_two kind) starts)

  module _ (go : List ℕ → List Piece × Ending) (bytes : List ℕ) (divides : (rest : List ℕ) → length rest < length bytes → IsDivision m (go rest).0 (go rest).1 rest) where
    -- a piece and what is after it
    piece_divides : (p : Piece) (rest : List ℕ) → IsPiece m p bytes rest → IsDivision m (p ∷ (go rest).0) (go rest).1 bytes
    piece_divides p rest is = (rest, is, divides rest (piece_shortens p bytes rest is))

    tag_sound : (kind : Kind) (dash : Bool) (items : List Item) (close : Close) (inside : List ℕ) → Starts (start_marker kind m) dash bytes inside → OpensTag m kind inside
        → IsInside (end_marker kind m) items close inside → IsDivision m (tag_step go kind dash items close).0 (tag_step go kind dash items close).1 bytes
    tag_sound kind dash items (End gap end rest) inside starts opens here = piece_divides (Tag kind dash items gap end) rest (inside, starts, opens, here)
    tag_sound kind dash items (Open gap) inside starts opens here = (inside, starts, opens, here)
    tag_sound kind dash items (Bad gap fault at) inside starts opens here = (inside, starts, opens, here)

    pub tag_front_sound : (kind : Kind) (dash : Bool) (inside : List ℕ) → Starts (start_marker kind m) dash bytes inside → OpensTag m kind inside
        → IsDivision m (tag_front go m kind dash inside).0 (tag_front go m kind dash inside).1 bytes
    tag_front_sound kind dash inside starts opens =
        tag_sound kind dash (inside_of (end_marker kind m) inside).0 (inside_of (end_marker kind m) inside).1 inside starts opens (inside_sound (end_marker kind m) (suc (length inside)) inside (omega arith))

    comment_by : (dash : Bool) (following : List ℕ) (o : Option ℕ) → Starts m.comment_start dash bytes following → IsMarkerAt m.comment_end following o
        → IsDivision m (comment_step go m dash following o).0 (comment_step go m dash following o).1 bytes
    comment_by dash following None starts none = (following, starts, none)
    comment_by dash following (Some n) starts (e, none) = piece_divides (Comment dash (take n following)) (after_at m.comment_end n following) (following, starts, e, none)

    pub comment_sound : (dash : Bool) (following : List ℕ) → Starts m.comment_start dash bytes following
        → IsDivision m (comment_step go m dash following (find_marker m.comment_end following)).0 (comment_step go m dash following (find_marker m.comment_end following)).1 bytes
    comment_sound dash following starts = comment_by dash following (find_marker m.comment_end following) starts (find_sound m.comment_end following)

    raw_by : (dash : Bool) (opening : WordTag) (following inside : List ℕ) (o : Option RawEnd) → Starts m.block_start dash bytes following → OpensRaw m opening following inside → IsEndAt m valid.block_start inside o
        → IsDivision m (raw_step go dash opening inside o).0 (raw_step go dash opening inside o).1 bytes
    unfolding IsEndAt
    raw_by dash opening following inside None starts opens is = (following, inside, opening, starts, opens, is)
    raw_by dash opening following inside (Some e) starts opens (body, len, is) =
        let splits = body_splits body e.close inside e.rest is in
        let text : take e.len inside ≡ body = ap (take e.len) splits ∙ take_at body (m.block_start ++ (word_tag_bytes endraw_word m.block_end e.close ++ e.rest)) e.len (sym len) in
        piece_divides (Raw dash opening (take e.len inside) e.close) e.rest (following, inside, starts, opens, subst (λ l. IsBody m l e.close inside e.rest) (sym text) is)

    block_by : (dash : Bool) (following : List ℕ) (o : Option (WordTag × List ℕ)) → Starts m.block_start dash bytes following → word_tag_at raw_word m.block_end following ≡ o → IsTagAt raw_word m.block_end following o
        → IsDivision m (block_step go m dash following o).0 (block_step go m dash following o).1 bytes
    block_by dash following None starts none is = tag_front_sound Block dash following starts (word_tag_none raw_word m.block_end following none)
    block_by dash following (Some p) starts some is =
        raw_by dash p.0 following p.1 (raw_end m.block_start m.block_end false p.1) starts is (raw_sound m valid.block_start (suc (length p.1)) p.1 (omega arith))

    pub block_sound : (dash : Bool) (following : List ℕ) → Starts m.block_start dash bytes following
        → IsDivision m (block_step go m dash following (word_tag_at raw_word m.block_end following)).0 (block_step go m dash following (word_tag_at raw_word m.block_end following)).1 bytes
    block_sound dash following starts = block_by dash following (word_tag_at raw_word m.block_end following) starts refl (word_tag_sound raw_word m.block_end following)

  nonempty : (b : ℕ) (bs : List ℕ) → b ∷ bs ≢ []
  nonempty b bs e = cc

  pub text_divides : (go : List ℕ → List Piece × Ending) (b : ℕ) (bs : List ℕ) → ((rest : List ℕ) → length rest < length (b ∷ bs) → IsDivision m (go rest).0 (go rest).1 rest) → is_at_start m (b ∷ bs) ≡ false
      → IsDivision m (text_step go (suc (text_len m bs)) (b ∷ bs)).0 (text_step go (suc (text_len m bs)) (b ∷ bs)).1 (b ∷ bs)
  text_divides go b bs divides nowhere =
      let n = text_len m bs in
      let text = text_sound m bs in
      let splits : b ∷ bs ≡ b ∷ (take n bs ++ drop n bs) = ap (λ l. b ∷ l) (sym (take-append-drop n bs)) in
      piece_divides go (b ∷ bs) divides (Text (b ∷ take n bs)) (drop n bs) (splits, nonempty b (take n bs), (subst (λ l. is_at_start m l ≡ false) splits nowhere, text.0), text.1)
