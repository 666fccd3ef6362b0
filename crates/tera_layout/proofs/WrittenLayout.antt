-- What is written of the tokens of a source is its layout.
use Rattle.std.proofs.Common.{◌≡◌, ◌<◌, ◌≤◌, ℕ, suc, ◌+◌, ◌-◌, Bool, true, false, ◌||◌, ◌&&◌, List, [], ◌∷◌, ◌++◌, length, take, drop, Option, Some, None, inl, inr, ⊎_elim, sym, ap, ap₂, ◌∙◌, refl, subst, arith, append_assoc, append-nil, take-add, drop-drop}
use Rattle.std.specs.Prelude.{◌⊎◌, Ok, slice_range, if◌then◌else◌, string_bytes}
use Rattle.std.specs.Str.{bytes_eq, IsCharBoundary, IsUtf8}
use Rattle.std.specs.Option.{option_map}
use Rattle.std.proofs.lemmas.Bool.{cases_Bool}
use Rattle.std.proofs.lemmas.List.{length-append}
use Rattle.std.proofs.lemmas.Slice.Eq.{bytes_eq-Decides}
use Rattle.std.proofs.lemmas.Str.{IsCharBoundary-start}
use Rattle.tera_base.specs.Errors.{IsMemoryKind, IsMemory, KindReports}
use Rattle.tera_base.specs.declared.errors.Error.{Error}
use Rattle.tera_base.specs.declared.errors.ErrorKind.{ErrorKind}
use Rattle.tera_base.specs.declared.errors.ErrorKind.TheVariants.{Memory, Message, SyntaxError}
use Rattle.tera_base.specs.declared.utils.Span.{Span}
use Rattle.tera_base.proofs.Tellings.{reports_weaker}
use Rattle.tera_lexer.specs.code.Seen.{seen}
use Rattle.tera_lexer.specs.code.Steps.{Steps}
use Rattle.tera_lexer.specs.declared.lexer.tokens.Token as rust
use Rattle.tera_lexer.specs.reading.Stream.{Stream}
use Rattle.tera_lexer.specs.declared.lexer.delimiters.Kind.{Kind}
use Rattle.tera_lexer.specs.declared.lexer.delimiters.Kind.TheVariants.{Variable, Block}
use Rattle.tera_lexer.specs.grammar.Marks.{Marks, IsValid, start_marker, end_marker, dash_bytes}
use Rattle.tera_lexer.specs.grammar.Place.{place_after, span_of, IsWithin}
use Rattle.tera_lexer.specs.grammar.Faults.{IsFaultOf, IsEndOf}
use Rattle.tera_lexer.specs.grammar.Lexeme.{Item, Lexeme, Name, Number, Quoted, Operator, spelled, has_escape, End, IsInside}
use Rattle.tera_lexer.specs.grammar.Raw.{WordTag, word_tag_bytes, raw_word, endraw_word}
use Rattle.tera_lexer.specs.grammar.Division.{Piece, Text, Comment, Raw, Tag, Ending, Complete, OpenTag, BadTag, OpenRaw, OpenComment, IsPiece, IsDivision}
use Rattle.tera_lexer.specs.grammar.Trimming.{trims_start, trims_end, trimmed}
use Rattle.tera_lexer.specs.grammar.Tiling.{in_tag_after, Tile}
use Rattle.tera_lexer.specs.grammar.Tokens as toks
use Rattle.tera_lexer.specs.grammar.Tokens.{Tok, Items, Ended, Failed, Token, name_token, token_of, lexemes, tag_start, tag_end, failed, comment_bytes, raw_bytes, piece_tokens, ending_tokens, tokens_of, AreTokensOf}
use Rattle.tera_lexer.proofs.Divisions.{division_found}
use Rattle.tera_lexer.proofs.Insides.{spelled_some}
use Rattle.tera_lexer.proofs.Slices.{span_slice}
use Rattle.tera_lexer.proofs.Tilings.{lexeme_inside, end_splits, comment_splits, raw_splits, tokens_tile}
use Rattle.tera_layout.proofs.Together.{name_any}
use Rattle.tera_layout.specs.declared.formatting.Reached.{Reached}
use Rattle.tera_layout.specs.declared.formatting.Cut.{Cut}
use Rattle.tera_layout.specs.Widened.{items_bytes, word_tag_front, piece_bytes}
use Rattle.tera_layout.specs.declared.sides.Left.{Left}
use Rattle.tera_layout.specs.declared.sides.Join.{Join}
use Rattle.tera_layout.specs.declared.sides.Join.TheVariants.{Space, Nothing, Kept}
use Rattle.tera_layout.specs.Sides.{outside, at_start, following}
use Rattle.tera_layout.specs.Apart.{first_from, in_end, last_from, meet_in_end}
use Rattle.tera_layout.specs.Layout.{laid_edge, laid_gap, join_inside, unless_end, join_after, laid_items, laid_piece, laid_out_by, laid_out}
use Rattle.tera_layout.specs.Refusal.{Refuses}
use Rattle.tera_layout.specs.WrittenLayout.{AreWritten, gap_text, has_bytes, is_finish, join_of, put, nothing, reached, token_text, written, Follow, KeepsFaults, RefusesTokens}

-- Texts, one after the other
same_put : (f g : List ℕ → List ℕ) → ((r : List ℕ) → f r ≡ g r) → (o : Option (List ℕ)) → option_map f o ≡ option_map g o
same_put f g h None = refl
same_put f g h (Some r) = ap Some (h r)

put_put : (f g : List ℕ → List ℕ) (o : Option (List ℕ)) → option_map f (option_map g o) ≡ option_map (λ r. f (g r)) o
put_put f g None = refl
put_put f g (Some r) = refl

-- A lexeme is not a marker
no_finish : (l : Lexeme) → is_finish (token_of l) ≡ false
no_finish (Name b bs) = name_any (λ t. is_finish t ≡ false) (b ∷ bs) refl refl refl
no_finish (Number b bs) = refl
no_finish (Quoted quote is) = ⊎_elim (λ escape. rw escape refl) (λ plain. rw plain refl) (cases_Bool (has_escape is))
no_finish (Operator op) = refl

-- how far the source is written after some bytes of it
abbrev so_far : List ℕ → Bool → Left → Reached
so_far front in_tag left = record { end = length front; in_tag = in_tag; left = left }

-- the last byte of bytes is that of what is last among them
last_of : (a : ℕ) (front text : List ℕ) → 0 < length text → last_from a (front ++ text) ≡ last_from 0 text
last_of a front [] some = absurd (omega (arith, some))
last_of a [] (b ∷ text) some = refl
last_of a (x ∷ front) (b ∷ text) some = last_of x front (b ∷ text) some

-- a start holds a byte
start_some : (m : Marks) (kind : Kind) (dash : Bool) → IsValid m → 0 < length (start_marker kind m ++ dash_bytes dash)
start_some m Variable dash valid = omega (arith, valid.variable_start, length-append m.variable_start (dash_bytes dash))
start_some m Block dash valid = omega (arith, valid.block_start, length-append m.block_start (dash_bytes dash))

module _ (m : Marks) (source : List ℕ) where
  -- a token after a gap
  token_written : (front gap bytes rest : List ℕ) (in_tag : Bool) (left : Left) (t : Tok) (items : Items) →
      source ≡ front ++ (gap ++ (bytes ++ rest)) →
      written m source (so_far front in_tag left) (Token t (span_of (front ++ gap) bytes) items)
      ≡ put (laid_gap (unless_end (join_of left t) (meet_in_end m front bytes)) gap ++ bytes)
      (written m source (so_far ((front ++ gap) ++ bytes) (in_tag_after in_tag t) (following left t)) items)
  unfolding place_after
  token_written front gap bytes rest in_tag left t items splits =
      let here : slice_range source (length front) (length (front ++ gap)) ≡ gap =
      ap (λ s. slice_range s (length front) (length (front ++ gap))) splits ∙ span_slice front gap (bytes ++ rest) in
      let there : slice_range source (length (front ++ gap)) (length ((front ++ gap) ++ bytes)) ≡ bytes =
      ap (λ s. slice_range s (length (front ++ gap)) (length ((front ++ gap) ++ bytes))) (splits ∙ sym (append_assoc front gap (bytes ++ rest)))
      ∙ span_slice (front ++ gap) bytes rest in
      let before : slice_range source 0 (length front) ≡ front =
      ap (λ s. slice_range s 0 (length front)) splits ∙ span_slice [] front (gap ++ (bytes ++ rest)) in
      let text : List ℕ → List ℕ → List ℕ → Option (List ℕ) =
      λ f g b. put (laid_gap (unless_end (join_of left t) (meet_in_end m f b)) g ++ b)
      (written m source (so_far ((front ++ gap) ++ bytes) (in_tag_after in_tag t) (following left t)) items) in
      ap (λ f. text f (slice_range source (length front) (length (front ++ gap))) (slice_range source (length (front ++ gap)) (length ((front ++ gap) ++ bytes)))) before
      ∙ ap₂ (text front) here there

  -- a token where no gap comes first
  token_here : (front bytes rest : List ℕ) (t : Tok) (items : Items) → source ≡ front ++ (bytes ++ rest) → join_of outside t ≡ Kept →
      written m source (so_far front false outside) (Token t (span_of front bytes) items)
      ≡ put bytes (written m source (so_far (front ++ bytes) (in_tag_after false t) (following outside t)) items)
  unfolding place_after
  token_here front bytes rest t items splits plain =
      let none : length front - length front ≡ 0 = omega arith in
      let here : slice_range source (length front) (length front) ≡ [] = ap (λ n. take n (drop (length front) source)) none in
      let there : slice_range source (length front) (length (front ++ bytes)) ≡ bytes =
      ap (λ s. slice_range s (length front) (length (front ++ bytes))) splits ∙ span_slice front bytes rest in
      let ends : List ℕ → Bool = λ b. meet_in_end m (slice_range source 0 (length front)) b in
      let text : List ℕ → List ℕ → Join → Option (List ℕ) =
      λ g b j. put (laid_gap (unless_end j (ends b)) g ++ b) (written m source (so_far (front ++ bytes) (in_tag_after false t) (following outside t)) items) in
      ap₂ (λ g b. text g b (join_of outside t)) here there ∙ ap (text [] bytes) plain

  module _ (valid : IsValid m) (more : Option (List ℕ)) (rest : List ℕ) (follows : List ℕ → Items)
      (h : (g : List ℕ) → source ≡ g ++ rest → written m source (so_far g false outside) (follows g) ≡ more) where
    abbrev end_from : List Item → Kind → List ℕ → Bool → List ℕ → List ℕ
    end_from js kind gap last r = items_bytes js (laid_edge gap ++ (dash_bytes last ++ (end_marker kind m ++ r)))

    inside_written : (kind : Kind) (is : List Item) (gap : List ℕ) (last : Bool) (before : List ℕ) (left : Left) (front bytes : List ℕ) →
        last_from 0 front ≡ last_from 0 before → source ≡ front ++ bytes →
        IsInside (end_marker kind m) is (End gap last rest) bytes →
        written m source (so_far front true left) (lexemes front is (λ g. tag_end m (g ++ gap) kind last follows))
        ≡ option_map (end_from (laid_items m before left is) kind gap last) more
    inside_written kind [] gap last before left front bytes ends_so splits (at, is_bytes, is_gap, ends) =
        let end : List ℕ = end_marker kind m in
        let marker : List ℕ = dash_bytes last ++ end in
        let whole : source ≡ front ++ (gap ++ (marker ++ rest)) =
        splits ∙ ap (λ l. front ++ l) (is_bytes ∙ ap (λ l. gap ++ l) (end_splits m valid end last at rest ends)) in
        let there : source ≡ ((front ++ gap) ++ marker) ++ rest =
        whole ∙ sym (append_assoc front gap (marker ++ rest)) ∙ sym (append_assoc (front ++ gap) marker rest) in
        token_written front gap marker rest true left (toks.Finish kind last) (follows ((front ++ gap) ++ marker)) whole
        ∙ ap (put (laid_edge gap ++ marker)) (h ((front ++ gap) ++ marker) there)
        ∙ same_put (λ r. (laid_edge gap ++ marker) ++ r) (end_from [] kind gap last)
        (λ r. append_assoc (laid_edge gap) marker r ∙ ap (λ l. laid_edge gap ++ l) (append_assoc (dash_bytes last) end r)) more
    inside_written kind (i ∷ is) gap last before left front bytes ends_so splits (more_bytes, is_bytes, is_gap, no_end, sound, inside) =
        let text : List ℕ = spelled i.lexeme in
        let t : Tok = token_of i.lexeme in
        let whole : source ≡ front ++ (i.gap ++ (text ++ more_bytes)) = splits ∙ ap (λ l. front ++ l) is_bytes in
        let there : source ≡ ((front ++ i.gap) ++ text) ++ more_bytes =
        whole ∙ sym (append_assoc front i.gap (text ++ more_bytes)) ∙ sym (append_assoc (front ++ i.gap) text more_bytes) in
        let items : Items = lexemes ((front ++ i.gap) ++ text) is (λ g. tag_end m (g ++ gap) kind last follows) in
        let gap_is : List ℕ = laid_gap (join_after m before left i.lexeme) i.gap in
        let inner : join_of left t ≡ join_inside left t = ap (λ b. if b then Space else join_inside left t) (no_finish i.lexeme) in
        let join : unless_end (join_of left t) (meet_in_end m front text) ≡ join_after m before left i.lexeme =
        ap₂ (λ j a. unless_end j (in_end m a (first_from text))) inner ends_so in
        let some : last_from 0 ((front ++ i.gap) ++ text) ≡ last_from 0 text =
        last_of 0 (front ++ i.gap) text (spelled_some i.lexeme more_bytes sound) in
        token_written front i.gap text more_bytes true left t items whole
        ∙ ap₂ (λ j b. put (laid_gap j i.gap ++ text) (written m source (so_far ((front ++ i.gap) ++ text) b (following left t)) items)) join (lexeme_inside i.lexeme)
        ∙ ap (put (gap_is ++ text)) (inside_written kind is gap last text (following left t) ((front ++ i.gap) ++ text) more_bytes some there inside)
        ∙ put_put (λ r. (gap_is ++ text) ++ r) (end_from (laid_items m text (following left t) is) kind gap last) more
        ∙ same_put (λ r. (gap_is ++ text) ++ end_from (laid_items m text (following left t) is) kind gap last r) (end_from (laid_items m before left (i ∷ is)) kind gap last)
        (λ r. append_assoc gap_is text (end_from (laid_items m text (following left t) is) kind gap last r)) more

    comment_front : (dash : Bool) (inside r : List ℕ) → comment_bytes m dash inside ++ r ≡ piece_bytes m (Comment dash inside) r
    comment_front dash inside r =
        append_assoc m.comment_start (dash_bytes dash ++ (inside ++ m.comment_end)) r
        ∙ ap (λ l. m.comment_start ++ l) (append_assoc (dash_bytes dash) (inside ++ m.comment_end) r ∙ ap (λ l. dash_bytes dash ++ l) (append_assoc inside m.comment_end r))

    word_front : (word end : List ℕ) (t : WordTag) (r : List ℕ) → word_tag_bytes word end t ++ r ≡ word_tag_front word end t r
    word_front word end t r =
        append_assoc (dash_bytes t.dash_in) (t.before ++ (word ++ (t.following ++ (dash_bytes t.dash_out ++ end)))) r
        ∙ ap (λ l. dash_bytes t.dash_in ++ l) (append_assoc t.before (word ++ (t.following ++ (dash_bytes t.dash_out ++ end))) r
        ∙ ap (λ l. t.before ++ l) (append_assoc word (t.following ++ (dash_bytes t.dash_out ++ end)) r
        ∙ ap (λ l. word ++ l) (append_assoc t.following (dash_bytes t.dash_out ++ end) r
        ∙ ap (λ l. t.following ++ l) (append_assoc (dash_bytes t.dash_out) end r))))

    raw_front : (dash : Bool) (opening : WordTag) (body : List ℕ) (closing : WordTag) (r : List ℕ) →
        raw_bytes m dash opening body closing ++ r ≡ piece_bytes m (Raw dash opening body closing) r
    raw_front dash opening body closing r =
        let start : List ℕ = m.block_start in
        let open_tag : List ℕ = word_tag_bytes raw_word m.block_end opening in
        let close_tag : List ℕ = word_tag_bytes endraw_word m.block_end closing in
        append_assoc start (dash_bytes dash ++ (open_tag ++ (body ++ (start ++ close_tag)))) r
        ∙ ap (λ l. start ++ l) (append_assoc (dash_bytes dash) (open_tag ++ (body ++ (start ++ close_tag))) r
        ∙ ap (λ l. dash_bytes dash ++ l) (append_assoc open_tag (body ++ (start ++ close_tag)) r
        ∙ word_front raw_word m.block_end opening ((body ++ (start ++ close_tag)) ++ r)
        ∙ ap (word_tag_front raw_word m.block_end opening) (append_assoc body (start ++ close_tag) r
        ∙ ap (λ l. body ++ l) (append_assoc start close_tag r
        ∙ ap (λ l. start ++ l) (word_front endraw_word m.block_end closing r)))))

    -- a piece whose token is its bytes
    bytes_written : (p : Piece) (front text bytes : List ℕ) (t : Tok) → source ≡ front ++ bytes → bytes ≡ text ++ rest →
        join_of outside t ≡ Kept → following outside t ≡ outside → in_tag_after false t ≡ false → ((r : List ℕ) → text ++ r ≡ piece_bytes m p r) →
        written m source (so_far front false outside) (Token t (span_of front text) (follows (front ++ text)))
        ≡ option_map (piece_bytes m p) more
    bytes_written p front text bytes t splits is_bytes kept left_is not_in same =
        let whole : source ≡ front ++ (text ++ rest) = splits ∙ ap (λ l. front ++ l) is_bytes in
        token_here front text rest t (follows (front ++ text)) whole kept
        ∙ ap₂ (λ a b. put text (written m source (so_far (front ++ text) a b) (follows (front ++ text)))) not_in left_is
        ∙ ap (put text) (h (front ++ text) (whole ∙ sym (append_assoc front text rest)))
        ∙ same_put (λ r. text ++ r) (piece_bytes m p) same more

    piece_written : (p : Piece) (start end : Bool) (front bytes : List ℕ) → source ≡ front ++ bytes → IsPiece m p bytes rest →
        written m source (so_far front false outside) (piece_tokens m front start end p follows)
        ≡ option_map (piece_bytes m (laid_piece m p)) more
    piece_written (Text text) start end front bytes splits (is_bytes, some, nowhere, ends) =
        bytes_written (Text text) front text bytes (toks.Content (trimmed start end text)) splits is_bytes refl refl refl (λ r. refl)
    piece_written (Comment dash inside) start end front bytes splits piece =
        bytes_written (Comment dash inside) front (comment_bytes m dash inside) bytes (toks.Content []) splits
        (comment_splits m valid dash inside bytes rest piece) refl refl refl (comment_front dash inside)
    piece_written (Raw dash opening body closing) start end front bytes splits piece =
        bytes_written (Raw dash opening body closing) front (raw_bytes m dash opening body closing) bytes
        (toks.Content (trimmed (opening.dash_out || start) (closing.dash_in || end) body)) splits
        (raw_splits m valid dash opening body closing bytes rest piece) refl refl refl (raw_front dash opening body closing)
    piece_written (Tag kind dash items gap last) start end front bytes splits (inside, (is_bytes, takes), opens, sound) =
        let first : List ℕ = start_marker kind m ++ dash_bytes dash in
        let whole : source ≡ front ++ (first ++ inside) =
        splits ∙ ap (λ l. front ++ l) (is_bytes ∙ sym (append_assoc (start_marker kind m) (dash_bytes dash) inside)) in
        let there : source ≡ (front ++ first) ++ inside = whole ∙ sym (append_assoc front first inside) in
        token_here front first inside (toks.Start kind dash) (lexemes (front ++ first) items (λ g. tag_end m (g ++ gap) kind last follows)) whole refl
        ∙ ap (put first) (inside_written kind items gap last first at_start (front ++ first) inside (last_of 0 front first (start_some m kind dash valid)) there sound)
        ∙ put_put (λ r. first ++ r) (end_from (laid_items m first at_start items) kind gap last) more
        ∙ same_put (λ r. first ++ end_from (laid_items m first at_start items) kind gap last r) (piece_bytes m (laid_piece m (Tag kind dash items gap last)))
        (λ r. append_assoc (start_marker kind m) (dash_bytes dash) (end_from (laid_items m first at_start items) kind gap last r)) more

  -- nothing is written where the tokens end in a tag or in a fault
  open_written : (is : List Item) (last : List ℕ → Items) → ((g : List ℕ) (r : Reached) → r.in_tag ≡ true → written m source r (last g) ≡ None) →
      (front : List ℕ) (r : Reached) → r.in_tag ≡ true → written m source r (lexemes front is last) ≡ None
  open_written [] last h front r inside = h front r inside
  open_written (i ∷ is) last h front r inside =
      let t : Tok = token_of i.lexeme in
      let span : Span = span_of (front ++ i.gap) (spelled i.lexeme) in
      ap (put (token_text m source r t span))
      (open_written is last h ((front ++ i.gap) ++ spelled i.lexeme) (reached r t span.range.end) (ap (λ b. in_tag_after b t) inside ∙ lexeme_inside i.lexeme))

  ending_written : (ending : Ending) (front : List ℕ) →
      written m source (so_far front false outside) (ending_tokens m front ending) ≡ laid_out_by m ([], ending)
  ending_written Complete front = refl
  ending_written (OpenTag kind dash items gap) front =
      let first : List ℕ = start_marker kind m ++ dash_bytes dash in
      let at : Reached = so_far front false outside in
      let span : Span = span_of front first in
      ap (put (token_text m source at (toks.Start kind dash) span))
      (open_written items (λ g. Ended) (λ g r inside. ap (λ b. if b then None else Some []) inside) (front ++ first) (reached at (toks.Start kind dash) span.range.end) refl)
  ending_written (BadTag kind dash items gap fault at_fault) front =
      let first : List ℕ = start_marker kind m ++ dash_bytes dash in
      let at : Reached = so_far front false outside in
      let span : Span = span_of front first in
      ap (put (token_text m source at (toks.Start kind dash) span))
      (open_written items (λ g. failed (g ++ gap) fault) (λ g r inside. refl) (front ++ first) (reached at (toks.Start kind dash) span.range.end) refl)
  ending_written (OpenRaw dash) front = refl
  ending_written (OpenComment dash) front = refl

  laid_more : (p : Piece) (ps : List Piece) (ending : Ending) →
      option_map (piece_bytes m (laid_piece m p)) (laid_out_by m (ps, ending)) ≡ laid_out_by m (p ∷ ps, ending)
  laid_more p ps Complete = refl
  laid_more p ps (OpenTag kind dash items gap) = refl
  laid_more p ps (BadTag kind dash items gap fault at) = refl
  laid_more p ps (OpenRaw dash) = refl
  laid_more p ps (OpenComment dash) = refl

  pieces_written : IsValid m → (ps : List Piece) (ending : Ending) (left : List Piece) (front bytes : List ℕ) →
      source ≡ front ++ bytes → IsDivision m ps ending bytes →
      written m source (so_far front false outside) (tokens_of m front left ps ending) ≡ laid_out_by m (ps, ending)
  pieces_written valid [] ending left front bytes splits divides = ending_written ending front
  pieces_written valid (p ∷ ps) ending left front bytes splits (rest, piece, divides) =
      piece_written valid (laid_out_by m (ps, ending)) rest (λ f. tokens_of m f (p ∷ left) ps ending)
      (λ g there. pieces_written valid ps ending (p ∷ left) g rest there divides)
      p (trims_start left) (trims_end ps ending) front bytes splits piece
      ∙ laid_more p ps ending

pub layout_written : (m : Marks) → IsValid m → (source : List ℕ) (items : Items) → AreTokensOf m source items →
    written m source (so_far [] false outside) items ≡ laid_out m source
layout_written m valid source items (ps, ending, divides, is) =
    ap (written m source (so_far [] false outside)) is
    ∙ pieces_written m source valid ps ending [] [] source refl divides
    ∙ sym (ap (laid_out_by m) (division_found m valid ps ending (suc (length source)) source divides (omega arith)))

-- Each token begins where the one before it ends, or later
pub tile_follow : (items : Items) (inside : Bool) (front rest : List ℕ) → Tile inside front rest items → Follow (length front) items
unfolding place_after
tile_follow Ended inside front rest tile = tt
tile_follow (Failed text span) inside front rest tile = tt
tile_follow (Token t span items) inside front rest (gap, bytes, more, e, between, some, belongs, shows, is, tile) =
    let start : span.range.start ≡ length (front ++ gap) = ap (λ (s : Span). s.range.start) is in
    let end : span.range.end ≡ length ((front ++ gap) ++ bytes) = ap (λ (s : Span). s.range.end) is in
    (omega (arith, start, length-append front gap), subst (λ n. Follow n items) (sym end) (tile_follow items (in_tag_after inside t) ((front ++ gap) ++ bytes) more tile))

pub source_follow : (m : Marks) → IsValid m → (source : List ℕ) (items : Items) → AreTokensOf m source items → Follow 0 items
source_follow m valid source items are = tile_follow items false [] source (tokens_tile m valid source items are)

-- What is answered of the tokens of a source
put_nil : (o : Option (List ℕ)) → put [] o ≡ o
put_nil None = refl
put_nil (Some r) = refl

pub source_written : (m : Marks) → IsValid m → (source old new : List ℕ) (items : Items) → AreTokensOf m source items → old ≡ [] →
    put old (written m source nothing items) ≡ Some new → laid_out m source ≡ Some new
source_written m valid source old new items are empty is =
    sym (layout_written m valid source items are) ∙ sym (put_nil (written m source nothing items))
    ∙ ap (λ text. put text (written m source nothing items)) (sym empty) ∙ is

pub source_refused : (m : Marks) → IsValid m → (source : List ℕ) (items : Items) (e : Error) → AreTokensOf m source items →
    RefusesTokens m source items e → Refuses m source e
source_refused m valid source items e are =
    reports_weaker
    (λ text span. IsWithin source span × (written m source nothing items ≡ None) × (IsFaultOf items text span ⊎ IsEndOf items text span))
    (λ text span. IsWithin source span × (laid_out m source ≡ None)
    × ((tokens : Items) × AreTokensOf m source tokens × (IsFaultOf tokens text span ⊎ IsEndOf tokens text span)))
    e
    (λ text span (within, none, fault). (within, sym (layout_written m valid source items are) ∙ none, (items, are, fault)))

some_none : {text : List ℕ} → None ≡ Some text → ⊥
some_none e = cc

kind_memory : (P : List ℕ → Span → Type 0) (k : ErrorKind) → ((text : List ℕ) (span : Span) → P text span → ⊥) → KindReports P k → IsMemoryKind k
kind_memory P Memory never reported = tt
kind_memory P (Message s) never reported = absurd reported
kind_memory P (SyntaxError b) never reported = absurd (never (string_bytes b.value.message) b.value.span reported)

-- a source that has a layout is refused because an allocation failed alone
pub laid_refused : (m : Marks) (source layout : List ℕ) (e : Error) → laid_out m source ≡ Some layout → Refuses m source e → IsMemory e
laid_refused m source layout e is reported =
    kind_memory
    (λ text span. IsWithin source span × (laid_out m source ≡ None)
    × ((tokens : Items) × AreTokensOf m source tokens × (IsFaultOf tokens text span ⊎ IsEndOf tokens text span)))
    e.kind (λ text span (within, none, fault). some_none (sym none ∙ is)) reported

-- One token further
first_kept : (items : Items) (last : Span) → KeepsFaults items last items
first_kept Ended last text span = (λ h. h, λ ends. inr refl)
first_kept (Failed reported here) last text span = (λ h. h, λ ends. absurd ends)
first_kept (Token t here items) last text span = (λ h. h, λ ends. inl ends)

token_kept : (items : Items) (last : Span) (t : Tok) (here : Span) (left : Items) → KeepsFaults items last (Token t here left) → KeepsFaults items here left
token_kept items last t here left h text span = h text span

put_append : (a b : List ℕ) (o : Option (List ℕ)) → put (a ++ b) o ≡ put a (put b o)
put_append a b None = refl
put_append a b (Some r) = ap Some (append_assoc a b r)

text_kept : (m : Marks) (source out new : List ℕ) (r next : Reached) (t : Tok) (span : Span) (left : Items) →
    new ≡ out ++ token_text m source r t span → next ≡ reached r t span.range.end →
    put new (written m source next left) ≡ put out (written m source r (Token t span left))
text_kept m source out new r next t span left is is_next =
    ap₂ (λ n k. put n (written m source k left)) is is_next
    ∙ put_append out (token_text m source r t span) (written m source (reached r t span.range.end) left)

-- The run that is not pushed yet
range_split : (s : List ℕ) (i j k : ℕ) → i ≤ j → j ≤ k → slice_range s i k ≡ slice_range s i j ++ slice_range s j k
range_split s i j k before following =
    let len : k - i ≡ (j - i) + (k - j) = omega arith in
    let at : i + (j - i) ≡ j = omega arith in
    ap (λ n. take n (drop i s)) len ∙ take-add (j - i) (k - j) (drop i s)
    ∙ ap (λ l. slice_range s i j ++ take (k - j) l) (drop-drop (j - i) i s ∙ ap (λ n. drop n s) at)

-- where no gap is, the same is whatever the texts beside it would end
gap_kept : (join : Join) (gap : List ℕ) (ends : Bool) → laid_gap (unless_end join (has_bytes gap && ends)) gap ≡ laid_gap (unless_end join ends) gap
gap_kept Space [] ends = refl
gap_kept Nothing [] true = refl
gap_kept Nothing [] false = refl
gap_kept Kept [] ends = refl
gap_kept join (b ∷ bs) ends = refl

-- a gap that stays goes on with the run
pub run_goes_on : (m : Marks) (source out : List ℕ) (c : Cut) (join joined : Join) → c.run ≤ c.gap → c.gap ≤ c.token →
    joined ≡ unless_end join (has_bytes (slice_range source c.gap c.token) && meet_in_end m (slice_range source 0 c.gap) (slice_range source c.token c.end)) →
    bytes_eq (laid_gap joined (slice_range source c.gap c.token)) (slice_range source c.gap c.token) ≡ true →
    out ++ slice_range source c.run c.token ≡ (out ++ slice_range source c.run c.gap) ++ gap_text m source c join
run_goes_on m source out c join joined before following is stays =
    let gap : List ℕ = slice_range source c.gap c.token in
    let ends : Bool = meet_in_end m (slice_range source 0 c.gap) (slice_range source c.token c.end) in
    let same : gap ≡ gap_text m source c join =
    sym ((bytes_eq-Decides (laid_gap joined gap) gap).0 stays) ∙ ap (λ j. laid_gap j gap) is ∙ gap_kept join gap ends in
    ap (λ l. out ++ l) (range_split source c.run c.gap c.token before following ∙ ap (λ l. slice_range source c.run c.gap ++ l) same)
    ∙ sym (append_assoc out (slice_range source c.run c.gap) (gap_text m source c join))

-- a token goes on with the run
token_goes_on : (m : Marks) (source out new : List ℕ) (c : Cut) (run : ℕ) (join : Join) → run ≤ c.token → c.token ≤ c.end →
    new ++ slice_range source run c.token ≡ (out ++ slice_range source c.run c.gap) ++ gap_text m source c join →
    new ++ slice_range source run c.end
    ≡ (out ++ slice_range source c.run c.gap) ++ (gap_text m source c join ++ slice_range source c.token c.end)
token_goes_on m source out new c run join before following is =
    ap (λ l. new ++ l) (range_split source run c.token c.end before following)
    ∙ sym (append_assoc new (slice_range source run c.token) (slice_range source c.token c.end))
    ∙ ap (λ l. l ++ slice_range source c.token c.end) is
    ∙ append_assoc (out ++ slice_range source c.run c.gap) (gap_text m source c join) (slice_range source c.token c.end)

-- before the first token
pub first_written : (m : Marks) (source out : List ℕ) (r : Reached) (last : Span) (items : Items) → IsUtf8 source →
    r ≡ nothing → last.range.start ≡ 0 → last.range.end ≡ 0 → Follow 0 items →
    AreWritten m source items (put out (written m source nothing items)) out 0 r last items
first_written m source out r last items utf8 is start end follow =
    let begins : IsCharBoundary source 0 = IsCharBoundary-start source utf8 in
    subst
    (λ r. AreWritten m source items (put out (written m source nothing items)) out 0 r last items)
    (sym is)
    (record {
      begins = begins;
      ends = begins;
      order = omega arith;
      follow = follow;
      text = ap (λ o. put o (written m source nothing items)) (append-nil out);
      faults = first_kept items last;
      within = (omega (arith, start), subst (IsCharBoundary source) (sym start) begins, subst (IsCharBoundary source) (sym end) begins);
    })

-- .. and after the next
pub further_written : {m : Marks} {source : List ℕ} {all : Items} {whole : Option (List ℕ)} {out : List ℕ} {run : ℕ} {r : Reached} {last : Span}
    (old new : Stream) (p : rust.Token × Span) (next : Reached) (pushed : List ℕ) (next_run : ℕ) (join : Join) →
    AreWritten m source all whole out run r last old.left → old.source ≡ source → Steps old (Some (Ok p)) new →
    next ≡ reached r (seen p.0) p.1.range.end → join ≡ join_of r.left (seen p.0) →
    IsCharBoundary source next_run × (next_run ≤ p.1.range.start) →
    pushed ++ slice_range source next_run p.1.range.start
    ≡ (out ++ slice_range source run r.end)
    ++ gap_text m source (record { run = run; gap = r.end; token = p.1.range.start; end = p.1.range.end }) join →
    AreWritten m source all whole pushed next_run next p.1 new.left
further_written {m} {source} {all} {whole} {out} {run} {r} {last} old new (token, span) next pushed next_run join
    so_far same (left, is_new, sound) is_next is_join (cut, before) is =
    let t : Tok = seen token in
    let at : Cut = record { run = run; gap = r.end; token = span.range.start; end = span.range.end } in
    let within : IsWithin source span = subst (λ s. IsWithin s span) same sound.0 in
    let end : next.end ≡ span.range.end = ap (λ (r : Reached). r.end) is_next in
    let text : pushed ++ slice_range source next_run next.end ≡ (out ++ slice_range source run r.end) ++ token_text m source r t span =
    ap (λ n. pushed ++ slice_range source next_run n) end
    ∙ token_goes_on m source out pushed at next_run join before within.0 is
    ∙ ap (λ j. (out ++ slice_range source run r.end) ++ (gap_text m source at j ++ slice_range source span.range.start span.range.end)) is_join in
    record {
      begins = cut;
      ends = subst (IsCharBoundary source) (sym end) within.2;
      order = omega (arith, end, before, within.0);
      follow = subst (λ n. Follow n new.left) (sym end) (subst (Follow r.end) left so_far.follow).1;
      text =
          text_kept m source (out ++ slice_range source run r.end) (pushed ++ slice_range source next_run next.end) r next t span new.left text is_next
          ∙ ap (λ items. put (out ++ slice_range source run r.end) (written m source r items)) (sym left) ∙ so_far.text;
      faults = token_kept all last t span new.left (subst (KeepsFaults all last) left so_far.faults);
      within = within;
    }
