-- One step of a reading.
use Rattle.std.proofs.Common.{◌≡◌, ◌≢◌, ℕ, zero, suc, ◌+◌, ◌<◌, Bool, true, false, ◌||◌, List, [], ◌∷◌, ◌++◌, length, take, drop, Option, Some, None, Ok, Err, Result, subst, sym, refl, ap, ◌∙◌, arith, Bor, append_assoc}
use Rattle.std.specs.Prelude.{slice_range}
use Rattle.std.specs.Char.{is_ascii_whitespace}
use Rattle.std.proofs.lemmas.List.{take-append-drop, length-append, take_at, drop_at}
use Rattle.tera_lexer.specs.grammar.Marks.{Marks, IsValid, start_marker, end_marker, NowhereIn, dash_bytes}
use Rattle.tera_lexer.specs.grammar.Place.{span_of, IsWithin}
use Rattle.tera_lexer.specs.grammar.Lexeme.{StopsAt, IsGap, Lexeme, Name, Number, Quoted, Operator, quoted, spelled, value_of, Fault, Unexpected, Unclosed, UnknownEscape, TooGreat, Float, reported, IsFault, IsLexeme, is_at_end, IsEnd}
use Rattle.tera_lexer.specs.grammar.Raw as raw
use Rattle.tera_lexer.specs.grammar.Raw.{word_tag_bytes, raw_word, endraw_word, OpensRaw, IsBody}
use Rattle.tera_lexer.specs.grammar.Division.{is_at_start, EndsText, Starts, OpensTag}
use Rattle.tera_lexer.specs.grammar.Trimming.{ends_dashed, trimmed}
use Rattle.tera_lexer.specs.grammar.Tokens as toks
use Rattle.tera_lexer.specs.grammar.Tokens.{Items, Ended, Failed, fault_text, token_of, open_raw, open_comment, comment_bytes, raw_bytes}
use Rattle.tera_lexer.specs.reading.Front.{Front, Reads, Breaks, front_of, find_marker, RawEnd, raw_end, unescaped}
use Rattle.tera_lexer.specs.reading.State.{Progress}
use Rattle.tera_lexer.specs.reading.Left.{starts_dashed, left_outside, left_inside, left_in, ahead_of, whole_of, stream_of}
use Rattle.tera_lexer.specs.reading.Stream.{Stream}
use Rattle.tera_lexer.specs.code.Seen.{seen}
use Rattle.tera_lexer.specs.code.Found.{IsTokenAt, IsEscapedAt, IsFaultAt}
use Rattle.tera_lexer.specs.code.Markers.{marker_len, IsStartOf, IsEndOf, OpensBy, IsRawEndOf}
use Rattle.tera_lexer.specs.code.Steps.{IsPart, IsIn, ReportsAlone, Stops, Steps}
use Rattle.tera_base.specs.Errors.{IsMemory}
use Rattle.tera_base.specs.declared.utils.Span.{Span}
use Rattle.tera_base.specs.declared.errors.Error.{Error}
use Rattle.tera_lexer.specs.declared.lexer.delimiters.Kind.{Kind}
use Rattle.tera_lexer.specs.declared.lexer.markers.WordTag.{WordTag}
use Rattle.tera_lexer.specs.declared.lexer.tokens.Token.{Token}
use Rattle.tera_lexer.specs.declared.lexer.tokens.Token.TheVariants.{Content}
use Rattle.tera_lexer.proofs.Fronts.{IsFront}
use Rattle.tera_lexer.proofs.Escapes.{unescaped_written}
use Rattle.tera_lexer.proofs.Pieces.{body_splits}
use Rattle.tera_lexer.proofs.Slices.{span_slice}
use Rattle.tera_lexer.proofs.TextParts.{part_part}
use Rattle.tera_lexer.proofs.Tilings.{before_body, after_body, raw_around, lexeme_sound}
use Rattle.tera_lexer.proofs.Finding.{IsMarkerAt, after_at, find_sound}
use Rattle.tera_lexer.proofs.WordTags.{IsTagAt, word_tag_sound, word_tag_splits}
use Rattle.tera_lexer.proofs.RawEnds.{IsEndAt, raw_sound}
use Rattle.tera_lexer.proofs.Lefts.{gap_left, end_left, lexeme_left, fault_left, gap_ends, nothing_left, text_left, comment_left, open_comment_left, raw_left, open_raw_left, start_left, ahead_in, going_is, going_stream, failed_stream, ahead_failed}

-- n bytes further
abbrev pub forward : Progress → ℕ → Progress
forward r n = record r { front = r.front ++ take n r.rest; rest = drop n r.rest }

-- which leaves the whole as it is
pub forward_whole : (r : Progress) (n : ℕ) → whole_of (forward r n) ≡ whole_of r
forward_whole r n = append_assoc r.front (take n r.rest) (drop n r.rest) ∙ ap (λ l. r.front ++ l) (take-append-drop n r.rest)

-- what is before a cut is one part, and after it the other
cut_front : (bytes front rest : List ℕ) (n : ℕ) → bytes ≡ front ++ rest → n ≡ length front → take n bytes ≡ front
cut_front bytes front rest n e len = ap (take n) e ∙ take_at front rest n (sym len)

cut_rest : (bytes front rest : List ℕ) (n : ℕ) → bytes ≡ front ++ rest → n ≡ length front → drop n bytes ≡ rest
cut_rest bytes front rest n e len = ap (drop n) e ∙ drop_at front rest n (sym len)

pub no_bytes : (bytes : List ℕ) → length bytes ≡ 0 → bytes ≡ []
no_bytes [] e = refl
no_bytes (b ∷ bs) e = absurd (omega arith)

-- what a fault says is at the front
fault_splits : (f : Fault) (bytes : List ℕ) → IsFault f bytes → (rest : List ℕ) × (bytes ≡ reported f ++ rest)
fault_splits Unexpected bytes here = (bytes, refl)
fault_splits (Unclosed quote) bytes here = (bytes, refl)
fault_splits (UnknownEscape quote is) bytes here = (here.0, here.1)
fault_splits (TooGreat b bs) bytes here = (here.0, here.1)
fault_splits (Float b bs more) bytes here = (here.0, here.1 ∙ ap (λ l. b ∷ l) (sym (append_assoc bs (46 ∷ more) here.0)))

-- a text does not end where no marker begins
text_some : (m : Marks) (bytes : List ℕ) (n : ℕ) → 0 < length bytes → is_at_start m bytes ≡ false → EndsText m (drop n bytes) → take n bytes ≢ []
text_some m [] n some nowhere ends e = omega arith
text_some m (b ∷ bs) zero some nowhere ends e = let clash : false ≡ true = sym nowhere ∙ ends in cc
text_some m (b ∷ bs) (suc n) some nowhere ends e = cc

-- a step between streams that are these
steps_same : (old from new to : Stream) (result : Option (Result (Token × Span) Error)) → old ≡ from → new ≡ to → Steps from result to → Steps old result new
steps_same old from new to result a b steps = subst (λ (s : Stream). Steps s result new) (sym a) (subst (λ (s : Stream). Steps from result s) (sym b) steps)

-- the bytes of a token were taken; or those of a fault were reported; or an allocation failed
module _ (r new : Progress) (going : r.failed ≡ false) where
  stopped : (e : Error) (items : Items) → new ≡ record r { failed = true } → ahead_of r ≡ items → Stops (whole_of r) items e → Steps (stream_of r) (Some (Err e)) (stream_of new)
  stopped e items new_is is stops =
      let stream : stream_of new ≡ record { source = whole_of r; left = Ended; stopped = Some items }
      = ap stream_of new_is ∙ failed_stream (record r { failed = true }) refl ∙ (λ i. record { source = whole_of r; left = Ended; stopped = Some ((ahead_failed r ∙ is) i) }) in
      let here : stream_of r ≡ record { source = whole_of r; left = items; stopped = None }
      = going_stream r going ∙ (λ i. record { source = whole_of r; left = is i; stopped = None }) in
      steps_same _ _ _ _ (Some (Err e)) here stream (refl, stops)

  module _ (n : ℕ) (bytes following : List ℕ) (splits : r.rest ≡ bytes ++ following) (len : n ≡ length bytes) where
    pub took : (t : Token) (span : Span) (tag : Option Kind) (trim : Bool) → new ≡ record (forward r n) { tag = tag; trim = trim } → span ≡ span_of r.front (take n r.rest) → IsWithin (whole_of r) span → IsIn (seen t) bytes
        → ahead_of r ≡ toks.Token (seen t) (span_of r.front bytes) (left_in r.marks tag (r.front ++ bytes) trim following) → Steps (stream_of r) (Some (Ok (t, span))) (stream_of new)
    took t span tag trim new_is span_is within sound is =
        let front : take n r.rest ≡ bytes = cut_front r.rest bytes following n splits len in
        let rest : drop n r.rest ≡ following = cut_rest r.rest bytes following n splits len in
        let at : Progress = record (forward r n) { tag = tag; trim = trim } in
        let spans : span ≡ span_of r.front bytes = span_is ∙ ap (span_of r.front) front in
        let slice : slice_range (whole_of r) span.range.start span.range.end ≡ bytes
        = (λ i. slice_range (r.front ++ splits i) (spans i).range.start (spans i).range.end) ∙ span_slice r.front bytes following in
        let stream : stream_of new ≡ record { source = whole_of r; left = left_in r.marks tag (r.front ++ bytes) trim following; stopped = None }
        = ap stream_of new_is ∙ going_stream at going
        ∙ (λ i. record { source = forward_whole r n i; left = (ahead_in at tag refl ∙ (λ j. left_in r.marks tag (r.front ++ front j) trim (rest j))) i; stopped = None }) in
        let here : stream_of r ≡ record { source = whole_of r; left = toks.Token (seen t) span (left_in r.marks tag (r.front ++ bytes) trim following); stopped = None }
        = going_stream r going ∙ (λ i. record { source = whole_of r; left = (is ∙ (λ j. toks.Token (seen t) (sym spans j) (left_in r.marks tag (r.front ++ bytes) trim following))) i; stopped = None }) in
        steps_same _ _ _ _ (Some (Ok (t, span))) here stream (refl, refl, (within, subst (IsIn (seen t)) (sym slice) sound))

    pub reported_fault : (e : Error) (text : List ℕ) → new ≡ record r { failed = true } → ReportsAlone text (span_of r.front (take n r.rest)) e → IsWithin (whole_of r) (span_of r.front (take n r.rest))
        → ahead_of r ≡ Failed text (span_of r.front bytes) → Steps (stream_of r) (Some (Err e)) (stream_of new)
    reported_fault e text new_is reports within is =
        let front : take n r.rest ≡ bytes = cut_front r.rest bytes following n splits len in
        let ahead : ahead_of r ≡ Failed text (span_of r.front (take n r.rest)) = is ∙ ap (λ l. Failed text (span_of r.front l)) (sym front) in
        stopped e (Failed text (span_of r.front (take n r.rest))) new_is ahead (within, reports)

  pub no_memory : (e : Error) (text : List ℕ) (span : Span) (items : Items) → new ≡ record r { failed = true } → IsMemory e → ahead_of r ≡ toks.Token (toks.Escaped text) span items → Steps (stream_of r) (Some (Err e)) (stream_of new)
  no_memory e text span items new_is memory is =
      stopped e (toks.Token (toks.Escaped text) span items) new_is is (tt, memory)

-- a start marker with its dash
start_splits : (marker rest following : List ℕ) (dash : Bool) → Starts marker dash rest following → rest ≡ (marker ++ dash_bytes dash) ++ following
start_splits marker rest following dash starts = starts.0 ∙ sym (append_assoc marker (dash_bytes dash) following)

start_len : (marker : List ℕ) (dash : Bool) (n : ℕ) → n ≡ marker_len marker dash → n ≡ length (marker ++ dash_bytes dash)
start_len marker dash n e = e ∙ sym (length-append marker (dash_bytes dash))

module _ (r : Progress) (going : r.failed ≡ false) (outside : r.tag ≡ None) (valid : IsValid r.marks) where
  ahead_outside : (k : Items) → left_outside r.marks r.front r.trim r.rest ≡ k → ahead_of r ≡ k
  ahead_outside k e = ahead_in r None outside ∙ e

  pub outside_ends : r.rest ≡ [] → Steps (stream_of r) None (stream_of r)
  outside_ends e = (refl, going_is r going ∙ ahead_outside Ended (nothing_left r.marks valid r.front r.trim r.rest e))

  pub outside_starts : (new : Progress) (t : Token) (span : Span) (kind : Kind) (dash : Bool) (n : ℕ) → IsStartOf (start_marker kind r.marks) r.rest (Some dash) → OpensTag r.marks kind (drop (marker_len (start_marker kind r.marks) dash) r.rest)
      → n ≡ marker_len (start_marker kind r.marks) dash → seen t ≡ toks.Start kind dash
      → new ≡ record (forward r n) { tag = Some kind } → span ≡ span_of r.front (take n r.rest) → IsWithin (whole_of r) span → Steps (stream_of r) (Some (Ok (t, span))) (stream_of new)
  outside_starts new t span kind dash n starts opens n_is t_is new_is span_is within =
      let marker : List ℕ = start_marker kind r.marks in
      let inside : List ℕ = drop (marker_len marker dash) r.rest in
      took r new going n (marker ++ dash_bytes dash) inside (start_splits marker r.rest inside dash starts.0) (start_len marker dash n n_is) t span (Some kind) r.trim new_is span_is within (subst (λ k. IsIn k (marker ++ dash_bytes dash)) (sym t_is) tt)
      (ahead_outside (toks.Token (seen t) (span_of r.front (marker ++ dash_bytes dash)) (left_inside r.marks kind (r.front ++ (marker ++ dash_bytes dash)) inside))
      (start_left r.marks valid kind r.front r.trim dash r.rest inside starts.0 opens ∙ ap (λ k. toks.Token k (span_of r.front (marker ++ dash_bytes dash)) (left_inside r.marks kind (r.front ++ (marker ++ dash_bytes dash)) inside)) (sym t_is)))

  pub outside_text : (new : Progress) (text : Bor (List ℕ)) (span : Span) (n : ℕ) → 0 < length r.rest → is_at_start r.marks r.rest ≡ false
      → NowhereIn (is_at_start r.marks) (take n r.rest) (drop n r.rest) → EndsText r.marks (drop n r.rest)
      → new ≡ record (forward r n) { trim = false } → text.now ≡ trimmed r.trim (starts_dashed r.marks (drop n r.rest)) (take n r.rest) → IsPart text.now (take n r.rest) → length (take n r.rest) ≡ n
      → span ≡ span_of r.front (take n r.rest) → IsWithin (whole_of r) span → Steps (stream_of r) (Some (Ok (Content text, span))) (stream_of new)
  outside_text new text span n some nowhere none ends new_is text_is part len span_is within =
      let splits = sym (take-append-drop n r.rest) in
      took r new going n (take n r.rest) (drop n r.rest) splits (sym len) (Content text) span None false (new_is ∙ (λ i. record (forward r n) { tag = outside i; trim = false })) span_is within part
      (ahead_outside (toks.Token (toks.Content text.now) (span_of r.front (take n r.rest)) (left_outside r.marks (r.front ++ take n r.rest) false (drop n r.rest)))
      (text_left r.marks valid r.front r.trim (take n r.rest) (drop n r.rest) r.rest splits (text_some r.marks r.rest n some nowhere ends) none ends
      ∙ ap (λ l. toks.Token (toks.Content l) (span_of r.front (take n r.rest)) (left_outside r.marks (r.front ++ take n r.rest) false (drop n r.rest))) (sym text_is)))

  -- an empty text, wherever it lies
  abbrev no_text : Bor (List ℕ)
  no_text = record { ref_ptr = (0, 0); now = [] }

  -- a comment that closes, and one that does not
  module _ (dash : Bool) (starts : IsStartOf r.marks.comment_start r.rest (Some dash)) where
    abbrev after_comment : List ℕ
    after_comment = drop (marker_len r.marks.comment_start dash) r.rest

    comment_splits : (inside rest : List ℕ) → after_comment ≡ inside ++ (r.marks.comment_end ++ rest) → r.rest ≡ comment_bytes r.marks dash inside ++ rest
    comment_splits inside rest e =
        let m = r.marks in
        starts.0.0 ∙ ap (λ l. m.comment_start ++ (dash_bytes dash ++ l)) (e ∙ sym (append_assoc inside m.comment_end rest))
        ∙ sym (append_assoc m.comment_start (dash_bytes dash ++ (inside ++ m.comment_end)) rest ∙ ap (λ l. m.comment_start ++ l) (append_assoc (dash_bytes dash) (inside ++ m.comment_end) rest))

    pub comment_step : (new : Progress) (span : Span) (len n : ℕ) → find_marker r.marks.comment_end after_comment ≡ Some len → n ≡ marker_len r.marks.comment_start dash + (len + length r.marks.comment_end) → length (take len after_comment) ≡ len
        → new ≡ record (forward r n) { trim = r.trim || ends_dashed (take len after_comment) } → span ≡ span_of r.front (take n r.rest) → IsWithin (whole_of r) span → Steps (stream_of r) (Some (Ok (Content no_text, span))) (stream_of new)
    comment_step new span len n found n_is taken new_is span_is within =
        let inside : List ℕ = take len after_comment in
        let rest : List ℕ = after_at r.marks.comment_end len after_comment in
        let bytes : List ℕ = comment_bytes r.marks dash inside in
        let trim : Bool = r.trim || ends_dashed inside in
        let sound : IsMarkerAt r.marks.comment_end after_comment (Some len) = subst (IsMarkerAt r.marks.comment_end after_comment) found (find_sound r.marks.comment_end after_comment) in
        let long : n ≡ length bytes
        = omega (arith, n_is, taken, length-append r.marks.comment_start (dash_bytes dash ++ (inside ++ r.marks.comment_end)), length-append (dash_bytes dash) (inside ++ r.marks.comment_end), length-append inside r.marks.comment_end) in
        took r new going n bytes rest (comment_splits inside rest sound.0) long (Content no_text) span None trim (new_is ∙ (λ i. record (forward r n) { tag = outside i; trim = trim })) span_is within ([], bytes, refl)
        (ahead_outside (toks.Token (toks.Content []) (span_of r.front bytes) (left_outside r.marks (r.front ++ bytes) trim rest))
        (comment_left r.marks valid r.front r.trim dash inside rest r.rest after_comment starts.0 sound.0 sound.1))

    pub open_comment_step : (new : Progress) (e : Error) (n : ℕ) → find_marker r.marks.comment_end after_comment ≡ None → n ≡ marker_len r.marks.comment_start dash
        → new ≡ record r { failed = true } → ReportsAlone (open_comment r.marks) (span_of r.front (take n r.rest)) e → IsWithin (whole_of r) (span_of r.front (take n r.rest)) → Steps (stream_of r) (Some (Err e)) (stream_of new)
    open_comment_step new e n none n_is new_is reports within =
        let sound : IsMarkerAt r.marks.comment_end after_comment None = subst (IsMarkerAt r.marks.comment_end after_comment) none (find_sound r.marks.comment_end after_comment) in
        reported_fault r new going n (r.marks.comment_start ++ dash_bytes dash) after_comment (start_splits r.marks.comment_start r.rest after_comment dash starts.0) (start_len r.marks.comment_start dash n n_is) e (open_comment r.marks) new_is reports within
        (ahead_outside (Failed (open_comment r.marks) (span_of r.front (r.marks.comment_start ++ dash_bytes dash))) (open_comment_left r.marks valid r.front r.trim dash r.rest after_comment starts.0 sound))

  -- a raw piece
  module _ (dash : Bool) (starts : IsStartOf r.marks.block_start r.rest (Some dash)) (opening : WordTag) (opens : OpensBy r.marks dash opening r.rest) where
    abbrev pub raw_tag : raw.WordTag
    raw_tag = opens.0

    abbrev pub raw_inside : List ℕ
    raw_inside = opens.1

    abbrev after_block : List ℕ
    after_block = drop (marker_len r.marks.block_start dash) r.rest

    pub raw_opens : OpensRaw r.marks raw_tag after_block raw_inside
    raw_opens = subst (IsTagAt raw_word r.marks.block_end after_block) opens.4 (word_tag_sound raw_word r.marks.block_end after_block)

    -- where the body begins
    pub body_at : drop (marker_len r.marks.block_start dash + opening.len) r.rest ≡ raw_inside
    body_at =
        let tag : List ℕ = word_tag_bytes raw_word r.marks.block_end raw_tag in
        let start : List ℕ = r.marks.block_start ++ dash_bytes dash in
        let splits : r.rest ≡ (start ++ tag) ++ raw_inside
        = start_splits r.marks.block_start r.rest after_block dash starts.0 ∙ ap (λ l. start ++ l) (word_tag_splits raw_word r.marks.block_end raw_tag after_block raw_inside raw_opens) ∙ sym (append_assoc start tag raw_inside) in
        cut_rest r.rest (start ++ tag) raw_inside (marker_len r.marks.block_start dash + opening.len) splits
        (omega (arith, opens.2.2, length-append start tag, length-append r.marks.block_start (dash_bytes dash)))

    pub open_raw_step : (new : Progress) (e : Error) (n : ℕ) → raw_end r.marks.block_start r.marks.block_end false raw_inside ≡ None → n ≡ marker_len r.marks.block_start dash
        → new ≡ record r { failed = true } → ReportsAlone open_raw (span_of r.front (take n r.rest)) e → IsWithin (whole_of r) (span_of r.front (take n r.rest)) → Steps (stream_of r) (Some (Err e)) (stream_of new)
    unfolding IsEndAt
    open_raw_step new e n none n_is new_is reports within =
        let is : IsEndAt r.marks valid.block_start raw_inside None = subst (IsEndAt r.marks valid.block_start raw_inside) none (raw_sound r.marks valid.block_start (suc (length raw_inside)) raw_inside (omega arith)) in
        reported_fault r new going n (r.marks.block_start ++ dash_bytes dash) after_block (start_splits r.marks.block_start r.rest after_block dash starts.0) (start_len r.marks.block_start dash n n_is) e open_raw new_is reports within
        (ahead_outside (Failed open_raw (span_of r.front (r.marks.block_start ++ dash_bytes dash))) (open_raw_left r.marks valid r.front r.trim dash raw_tag r.rest after_block raw_inside starts.0 raw_opens is))

    raw_splits : (body : List ℕ) (closing : raw.WordTag) (rest : List ℕ) → IsBody r.marks body closing raw_inside rest → r.rest ≡ raw_bytes r.marks dash raw_tag body closing ++ rest
    raw_splits body closing rest is =
        let m = r.marks in
        let close : List ℕ = word_tag_bytes endraw_word m.block_end closing in
        let open_tag : List ℕ = word_tag_bytes raw_word m.block_end raw_tag in
        starts.0.0
        ∙ ap (λ l. m.block_start ++ (dash_bytes dash ++ l)) (word_tag_splits raw_word m.block_end raw_tag after_block raw_inside raw_opens ∙ ap (λ l. open_tag ++ l) (body_splits m valid body closing raw_inside rest is))
        ∙ sym (append_assoc m.block_start (dash_bytes dash ++ (open_tag ++ (body ++ (m.block_start ++ close)))) rest
        ∙ ap (λ l. m.block_start ++ l) (append_assoc (dash_bytes dash) (open_tag ++ (body ++ (m.block_start ++ close))) rest
        ∙ ap (λ l. dash_bytes dash ++ l) (append_assoc open_tag (body ++ (m.block_start ++ close)) rest
        ∙ ap (λ l. open_tag ++ l) (append_assoc body (m.block_start ++ close) rest
        ∙ ap (λ l. body ++ l) (append_assoc m.block_start close rest)))))

    raw_by : (new : Progress) (text : Bor (List ℕ)) (span : Span) (len n : ℕ) (closing : WordTag) (o : Option RawEnd) → IsRawEndOf r.marks.block_end (Some (len, closing)) o → IsEndAt r.marks valid.block_start raw_inside o
        → n ≡ marker_len r.marks.block_start dash + opening.len + (len + (length r.marks.block_start + closing.len)) → text.now ≡ trimmed (opening.dash_out || r.trim) (closing.dash_in || starts_dashed r.marks (drop n r.rest)) (take len raw_inside)
        → IsPart text.now (take len raw_inside) → new ≡ record (forward r n) { trim = closing.dash_out } → span ≡ span_of r.front (take n r.rest) → IsWithin (whole_of r) span → Steps (stream_of r) (Some (Ok (Content text, span))) (stream_of new)
    unfolding IsEndAt
    raw_by new text span len n closing None ends is n_is text_is part new_is span_is within = absurd ends
    raw_by new text span len n closing (Some e) ends (body, body_len, is) n_is text_is part new_is span_is within =
        let m = r.marks in
        let bytes : List ℕ = raw_bytes m dash raw_tag body e.close in
        let close : List ℕ = word_tag_bytes endraw_word m.block_end e.close in
        let open_tag : List ℕ = word_tag_bytes raw_word m.block_end raw_tag in
        let taken : take len raw_inside ≡ body = cut_front raw_inside body (m.block_start ++ (close ++ e.rest)) len (body_splits m valid body e.close raw_inside e.rest is) (ends.0 ∙ body_len) in
        let long : n ≡ length bytes
        = omega (arith, n_is, ends.0, body_len, ends.1.2, opens.2.2, length-append m.block_start (dash_bytes dash ++ (open_tag ++ (body ++ (m.block_start ++ close)))), length-append (dash_bytes dash) (open_tag ++ (body ++ (m.block_start ++ close))), length-append open_tag (body ++ (m.block_start ++ close)), length-append body (m.block_start ++ close), length-append m.block_start close) in
        let following : drop n r.rest ≡ e.rest = cut_rest r.rest bytes e.rest n (raw_splits body e.close e.rest is) long in
        let t_is : text.now ≡ trimmed (raw_tag.dash_out || r.trim) (e.close.dash_in || starts_dashed m e.rest) body
        = text_is ∙ (λ i. trimmed (opens.2.1 i || r.trim) (ends.1.0 i || starts_dashed m (following i)) (taken i)) in
        let sound : IsPart text.now bytes = part_part text.now body bytes (subst (IsPart text.now) taken part) (before_body m dash raw_tag, after_body m e.close, raw_around m dash raw_tag body e.close) in
        took r new going n bytes e.rest (raw_splits body e.close e.rest is) long (Content text) span None e.close.dash_out (new_is ∙ (λ i. record (forward r n) { tag = outside i; trim = ends.1.1 i })) span_is within sound
        (ahead_outside (toks.Token (toks.Content text.now) (span_of r.front bytes) (left_outside m (r.front ++ bytes) e.close.dash_out e.rest))
        (raw_left m valid r.front r.trim dash raw_tag body e.close e.rest r.rest after_block raw_inside starts.0 raw_opens is ∙ ap (λ l. toks.Token (toks.Content l) (span_of r.front bytes) (left_outside m (r.front ++ bytes) e.close.dash_out e.rest)) (sym t_is)))

    pub raw_step : (new : Progress) (text : Bor (List ℕ)) (span : Span) (len n : ℕ) (closing : WordTag) → IsRawEndOf r.marks.block_end (Some (len, closing)) (raw_end r.marks.block_start r.marks.block_end false raw_inside)
        → n ≡ marker_len r.marks.block_start dash + opening.len + (len + (length r.marks.block_start + closing.len)) → text.now ≡ trimmed (opening.dash_out || r.trim) (closing.dash_in || starts_dashed r.marks (drop n r.rest)) (take len raw_inside)
        → IsPart text.now (take len raw_inside) → new ≡ record (forward r n) { trim = closing.dash_out } → span ≡ span_of r.front (take n r.rest) → IsWithin (whole_of r) span → Steps (stream_of r) (Some (Ok (Content text, span))) (stream_of new)
    raw_step new text span len n closing ends n_is text_is part new_is span_is within =
        raw_by new text span len n closing (raw_end r.marks.block_start r.marks.block_end false raw_inside) ends (raw_sound r.marks valid.block_start (suc (length raw_inside)) raw_inside (omega arith)) n_is text_is part new_is span_is within

module _ (r : Progress) (going : r.failed ≡ false) (kind : Kind) (inside : r.tag ≡ Some kind) (valid : IsValid r.marks) where
  ahead_inside : (k : Items) → left_inside r.marks kind r.front r.rest ≡ k → ahead_of r ≡ k
  ahead_inside k e = ahead_in r (Some kind) inside ∙ e

  pub inside_ends : IsGap r.rest [] → Steps (stream_of r) None (stream_of r)
  inside_ends is_gap = (refl, going_is r going ∙ ahead_inside Ended (gap_ends r.marks valid kind r.front r.rest is_gap))

  -- the gap is passed over
  pub gap_step : (mid new : Progress) (result : Result (Token × Span) Error) (g : ℕ) → IsGap (take g r.rest) (drop g r.rest) → mid ≡ forward r g → Steps (stream_of mid) (Some result) (stream_of new) → Steps (stream_of r) (Some result) (stream_of new)
  gap_step mid new result g is_gap mid_is steps =
      let same : ahead_of r ≡ ahead_of (forward r g)
      = ahead_inside (left_inside r.marks kind (r.front ++ take g r.rest) (drop g r.rest)) (gap_left r.marks valid kind r.front (take g r.rest) (drop g r.rest) r.rest (sym (take-append-drop g r.rest)) is_gap)
      ∙ sym (ahead_in (forward r g) (Some kind) inside) in
      let stream : stream_of mid ≡ stream_of r
      = ap stream_of mid_is ∙ going_stream (forward r g) going ∙ (λ i. record { source = forward_whole r g i; left = sym same i; stopped = None }) ∙ sym (going_stream r going) in
      subst (λ (s : Stream). Steps s (Some result) (stream_of new)) stream steps

  module _ (stops : StopsAt is_ascii_whitespace r.rest) where
    pub end_step : (new : Progress) (t : Token) (span : Span) (dash : Bool) (n : ℕ) → IsEndOf (end_marker kind r.marks) r.rest (Some dash) → n ≡ marker_len (end_marker kind r.marks) dash → seen t ≡ toks.Finish kind dash
        → new ≡ record (forward r n) { tag = None; trim = dash } → span ≡ span_of r.front (take n r.rest) → IsWithin (whole_of r) span → Steps (stream_of r) (Some (Ok (t, span))) (stream_of new)
    end_step new t span dash n ends n_is t_is new_is span_is within =
        let end : List ℕ = end_marker kind r.marks in
        let marker : List ℕ = dash_bytes dash ++ end in
        let following : List ℕ = drop (marker_len end dash) r.rest in
        took r new going n marker following (end_splits dash following ends.0) (omega (arith, n_is, length-append (dash_bytes dash) end)) t span None dash new_is span_is within (subst (λ k. IsIn k marker) (sym t_is) tt)
        (ahead_inside (toks.Token (seen t) (span_of r.front marker) (left_outside r.marks (r.front ++ marker) dash following))
        (end_left r.marks valid kind r.front r.rest stops dash following ends.0 ∙ ap (λ k. toks.Token k (span_of r.front marker) (left_outside r.marks (r.front ++ marker) dash following)) (sym t_is)))
      where
        end_splits : (dash : Bool) (following : List ℕ) → IsEnd (end_marker kind r.marks) dash r.rest following → r.rest ≡ (dash_bytes dash ++ end_marker kind r.marks) ++ following
        end_splits true following is = is
        end_splits false following is = is.0

    module _ (some : 0 < length r.rest) (no_end : is_at_end (end_marker kind r.marks) r.rest ≡ false) where
      lexeme_by : (new : Progress) (t : Token) (span : Span) (n : ℕ) (lexeme : Lexeme) (following : List ℕ) → front_of r.rest ≡ Reads lexeme following → r.rest ≡ spelled lexeme ++ following → IsLexeme lexeme following → seen t ≡ token_of lexeme → n ≡ length (spelled lexeme)
          → new ≡ forward r n → span ≡ span_of r.front (take n r.rest) → IsWithin (whole_of r) span → Steps (stream_of r) (Some (Ok (t, span))) (stream_of new)
      lexeme_by new t span n lexeme following is splits here seen_is len new_is span_is within =
          took r new going n (spelled lexeme) following splits len t span (Some kind) r.trim (new_is ∙ (λ i. record (forward r n) { tag = inside i })) span_is within (subst (λ k. IsIn k (spelled lexeme)) (sym seen_is) (lexeme_sound lexeme following here))
          (ahead_inside (toks.Token (seen t) (span_of r.front (spelled lexeme)) (left_inside r.marks kind (r.front ++ spelled lexeme) following))
          (lexeme_left r.marks valid kind r.front r.rest stops lexeme following some no_end is ∙ ap (λ k. toks.Token k (span_of r.front (spelled lexeme)) (left_inside r.marks kind (r.front ++ spelled lexeme) following)) (sym seen_is)))

      pub lexeme_step : (new : Progress) (t : Token) (span : Span) (n : ℕ) (front : Front) → front_of r.rest ≡ front → IsFront r.rest front → IsTokenAt (seen t) n front
          → new ≡ forward r n → span ≡ span_of r.front (take n r.rest) → IsWithin (whole_of r) span → Steps (stream_of r) (Some (Ok (t, span))) (stream_of new)
      lexeme_step new t span n (Reads lexeme following) is sound found new_is span_is within = lexeme_by new t span n lexeme following is sound.0 sound.1 found.0 found.1 new_is span_is within
      lexeme_step new t span n (Breaks fault) is sound found new_is span_is within = absurd found

      -- a string with escapes
      pub escaped_step : (new : Progress) (t : Token) (text within_quotes : List ℕ) (span : Span) (n : ℕ) (front : Front) → front_of r.rest ≡ front → IsFront r.rest front → IsEscapedAt within_quotes n front → seen t ≡ toks.Escaped text → text ≡ unescaped within_quotes
          → new ≡ forward r n → span ≡ span_of r.front (take n r.rest) → IsWithin (whole_of r) span → Steps (stream_of r) (Some (Ok (t, span))) (stream_of new)
      escaped_step new t text within_quotes span n (Reads (Quoted quote is) following) front_is sound (inside_is, escape, len) t_is text_is new_is span_is within =
          let value : seen t ≡ token_of (Quoted quote is)
          = t_is ∙ ap toks.Escaped (text_is ∙ ap unescaped inside_is ∙ unescaped_written quote is sound.1.0.1) ∙ rw escape refl in
          lexeme_by new t span n (Quoted quote is) following front_is sound.0 sound.1 value len new_is span_is within
      escaped_step new t text within_quotes span n (Reads (Name b bs) following) front_is sound found t_is text_is new_is span_is within = absurd found
      escaped_step new t text within_quotes span n (Reads (Number b bs) following) front_is sound found t_is text_is new_is span_is within = absurd found
      escaped_step new t text within_quotes span n (Reads (Operator op) following) front_is sound found t_is text_is new_is span_is within = absurd found
      escaped_step new t text within_quotes span n (Breaks fault) front_is sound found t_is text_is new_is span_is within = absurd found

      pub escaped_memory : (new : Progress) (e : Error) (within_quotes : List ℕ) (n : ℕ) (front : Front) → front_of r.rest ≡ front → IsEscapedAt within_quotes n front → new ≡ record r { failed = true } → IsMemory e → Steps (stream_of r) (Some (Err e)) (stream_of new)
      escaped_memory new e within_quotes n (Reads (Quoted quote is) following) front_is (inside_is, escape, len) new_is memory =
          let text : token_of (Quoted quote is) ≡ toks.Escaped (value_of is) = rw escape refl in
          no_memory r new going e (value_of is) (span_of r.front (quoted quote is)) (left_inside r.marks kind (r.front ++ quoted quote is) following) new_is memory
          (ahead_inside (toks.Token (toks.Escaped (value_of is)) (span_of r.front (quoted quote is)) (left_inside r.marks kind (r.front ++ quoted quote is) following))
          (lexeme_left r.marks valid kind r.front r.rest stops (Quoted quote is) following some no_end front_is ∙ ap (λ k. toks.Token k (span_of r.front (quoted quote is)) (left_inside r.marks kind (r.front ++ quoted quote is) following)) text))
      escaped_memory new e within_quotes n (Reads (Name b bs) following) front_is found new_is memory = absurd found
      escaped_memory new e within_quotes n (Reads (Number b bs) following) front_is found new_is memory = absurd found
      escaped_memory new e within_quotes n (Reads (Operator op) following) front_is found new_is memory = absurd found
      escaped_memory new e within_quotes n (Breaks fault) front_is found new_is memory = absurd found

      pub fault_step : (new : Progress) (e : Error) (text : List ℕ) (n : ℕ) (front : Front) → front_of r.rest ≡ front → IsFront r.rest front → IsFaultAt text n front
          → new ≡ record r { failed = true } → ReportsAlone text (span_of r.front (take n r.rest)) e → IsWithin (whole_of r) (span_of r.front (take n r.rest)) → Steps (stream_of r) (Some (Err e)) (stream_of new)
      fault_step new e text n (Reads lexeme following) is sound found new_is reports within = absurd found
      fault_step new e text n (Breaks fault) is sound found new_is reports within =
          let (following, splits) = fault_splits fault r.rest sound in
          reported_fault r new going n (reported fault) following splits found.1 e text new_is reports within
          (ahead_inside (Failed text (span_of r.front (reported fault))) (fault_left r.marks valid kind r.front r.rest stops fault some no_end is ∙ ap (λ l. Failed l (span_of r.front (reported fault))) (sym found.0)))
