-- The tokens of a text are in it, each in the bytes of its span.
use Rattle.std.proofs.Common.{◌≡◌, ℕ, ◌<◌, ◌≤◌, Bool, true, ◌||◌, List, [], ◌∷◌, ◌++◌, length, drop, slice_range, ap, sym, ◌∙◌, refl, subst, arith, append_assoc, IsUtf8}
use Rattle.std.specs.List.{AllByRecursion}
use Rattle.std.specs.Str.{IsCharBoundary}
use Rattle.std.proofs.lemmas.List.{append-nil, take_at, drop_at, length-append}
use Rattle.std.proofs.lemmas.Str.{IsUtf8-append, IsUtf8-take, IsUtf8-drop, IsCharBoundary-from_take, IsCharBoundary-from_drop}
use Rattle.tera_lexer.specs.grammar.Place.{place_after, span_of}
use Rattle.tera_lexer.specs.grammar.Marks.{Marks, IsValid, AreTexts, start_marker, end_marker, dash_bytes}
use Rattle.tera_lexer.specs.grammar.Lexeme.{Lexeme, spelled, IsLexeme, Item, Close, End, Open, Bad, IsClose, IsInside}
use Rattle.tera_lexer.specs.grammar.Raw.{WordTag, word_tag_bytes, raw_word, endraw_word, IsWordTag}
use Rattle.tera_lexer.specs.grammar.Division.{is_at_start, EndsText, Piece, Text, Comment, Raw, Tag, Ending, Complete, OpenTag, BadTag, OpenRaw, OpenComment, Starts, IsPiece, IsEnding, IsDivision}
use Rattle.tera_lexer.specs.grammar.Trimming.{trims_start, trims_end, trimmed}
use Rattle.tera_lexer.specs.grammar.Tokens.{Tok, Content, Start, Finish, Items, Ended, Token, token_of, lexemes, tag_start, tag_end, failed, comment_bytes, raw_bytes, piece_tokens, ending_tokens, tokens_of, AreTokensOf}
use Rattle.tera_lexer.specs.code.Steps.{IsIn, EachIsAt}
use Rattle.tera_lexer.specs.code.Markers.{AreStartTexts}
use Rattle.tera_lexer.specs.reading.Front.{Reads}
use Rattle.tera_lexer.specs.declared.lexer.delimiters.Kind.{Kind}
use Rattle.tera_lexer.specs.declared.lexer.delimiters.Kind.TheVariants.{Variable, Block}
use Rattle.tera_lexer.proofs.Markers.{splits_begins, begin_cut, start_cut}
use Rattle.tera_lexer.proofs.Cuts.{ascii_text, dash_ascii, front_cut}
use Rattle.tera_lexer.proofs.TagCuts.{gap_ascii, raw_ascii, endraw_ascii}
use Rattle.tera_lexer.proofs.WordTags.{word_tag_splits}
use Rattle.tera_lexer.proofs.RawEnds.{parts_split}
use Rattle.tera_lexer.proofs.Pieces.{body_splits}
use Rattle.tera_lexer.proofs.TextParts.{part_part, part_trimmed}
use Rattle.tera_lexer.proofs.Slices.{span_slice}
use Rattle.tera_lexer.proofs.Tilings.{lexeme_sound, before_body, after_body, raw_around, end_splits, comment_splits, raw_splits}

-- a text without another at its front, and what is before a marker
text_after : (front rest : List ℕ) → IsUtf8 (front ++ rest) → IsUtf8 front → IsUtf8 rest
text_after front rest whole text =
    let fits : length front ≤ length (front ++ rest) = omega (arith, length-append front rest) in
    let cut = IsCharBoundary-from_take (front ++ rest) (length front) whole fits (subst IsUtf8 (sym (take_at front rest (length front) refl)) text) in
    subst IsUtf8 (drop_at front rest (length front) refl) (IsUtf8-drop (front ++ rest) (length front) whole cut)

text_before : (front marker rest : List ℕ) → IsUtf8 (front ++ (marker ++ rest)) → IsUtf8 marker → length marker ≡ 2 → IsUtf8 front
text_before front marker rest whole text two =
    let bytes : List ℕ = front ++ (marker ++ rest) in
    let inside : length front < length bytes = omega (arith, length-append front (marker ++ rest), length-append marker rest) in
    let cut = begin_cut bytes marker (length front) inside text two (splits_begins marker (drop (length front) bytes) rest (drop_at front (marker ++ rest) (length front) refl)) in
    subst IsUtf8 (take_at front (marker ++ rest) (length front) refl) (IsUtf8-take bytes (length front) whole cut)

text_dash : (dash : Bool) → IsUtf8 (dash_bytes dash)
text_dash dash = ascii_text (dash_bytes dash) (dash_ascii dash)

-- after a start marker, and after a lexeme
text_inside : (marker : List ℕ) (dash : Bool) (bytes rest : List ℕ) → Starts marker dash bytes rest → IsUtf8 bytes → IsUtf8 marker → IsUtf8 rest
text_inside marker dash bytes rest starts whole text =
    text_after (dash_bytes dash) rest (text_after marker (dash_bytes dash ++ rest) (subst IsUtf8 starts.0 whole) text) (text_dash dash)

text_lexeme : (l : Lexeme) (rest : List ℕ) → IsLexeme l rest → IsUtf8 (spelled l ++ rest) → IsUtf8 rest
text_lexeme l rest here whole =
    subst IsUtf8 (drop_at (spelled l) rest (length (spelled l)) refl) (IsUtf8-drop (spelled l ++ rest) (length (spelled l)) whole (front_cut (spelled l ++ rest) (Reads l rest) whole (refl, here)))

-- a tag of a raw piece
text_word_tag : (word end : List ℕ) (t : WordTag) (bytes rest : List ℕ) → IsWordTag word end t bytes rest → AllByRecursion (λ b. b < 128) word → IsUtf8 end → IsUtf8 (word_tag_bytes word end t)
text_word_tag word end t bytes rest is ascii text =
    IsUtf8-append (dash_bytes t.dash_in) (t.before ++ (word ++ (t.following ++ (dash_bytes t.dash_out ++ end)))) (text_dash t.dash_in)
    (IsUtf8-append t.before (word ++ (t.following ++ (dash_bytes t.dash_out ++ end))) (ascii_text t.before (gap_ascii t.before is.gap_before.0))
    (IsUtf8-append word (t.following ++ (dash_bytes t.dash_out ++ end)) (ascii_text word ascii)
    (IsUtf8-append t.following (dash_bytes t.dash_out ++ end) (ascii_text t.following (gap_ascii t.following is.gap_after.0)) (IsUtf8-append (dash_bytes t.dash_out) end (text_dash t.dash_out) text))))

module _ (source : List ℕ) where
  -- a token after front
  text_cut : (front rest : List ℕ) → source ≡ front ++ rest → IsUtf8 rest → IsCharBoundary source (length front)
  text_cut front rest e text =
      IsCharBoundary-from_drop source (length front) (omega (arith, ap length e, length-append front rest)) (subst IsUtf8 (sym (ap (drop (length front)) e ∙ drop_at front rest (length front) refl)) text)

  stands_here : (t : Tok) (front bytes following : List ℕ) (items : Items) → source ≡ front ++ (bytes ++ following) → IsUtf8 (bytes ++ following) → IsUtf8 following → IsIn t bytes → EachIsAt source items → EachIsAt source (Token t (span_of front bytes) items)
  unfolding place_after
  stands_here t front bytes following items e here after sound each =
      let cut = text_cut front (bytes ++ following) e here in
      let end = text_cut (front ++ bytes) following (e ∙ sym (append_assoc front bytes following)) after in
      let slice = ap (λ (l : List ℕ). slice_range l (span_of front bytes).range.start (span_of front bytes).range.end) e ∙ span_slice front bytes following in
      (((omega (arith, length-append front bytes), cut, end), subst (IsIn t) (sym slice) sound), each)

  -- the same, where the token's bytes begin others
  stands_first : (t : Tok) (front bytes following rest : List ℕ) (follows : List ℕ → Items) → source ≡ front ++ rest → rest ≡ bytes ++ following → IsUtf8 rest → IsUtf8 bytes → IsIn t bytes → ((f : List ℕ) → source ≡ f ++ following → IsUtf8 following → EachIsAt source (follows f))
      → EachIsAt source (Token t (span_of front bytes) (follows (front ++ bytes)))
  stands_first t front bytes following rest follows e splits whole text sound next =
      let here = subst IsUtf8 splits whole in
      let after = text_after bytes following here text in
      let there : source ≡ front ++ (bytes ++ following) = e ∙ ap (λ l. front ++ l) splits in
      stands_here t front bytes following (follows (front ++ bytes)) there here after sound (next (front ++ bytes) (there ∙ sym (append_assoc front bytes following)) after)

  -- lexemes, and what follows them
  lexemes_sound : (end : List ℕ) (is : List Item) (close : Close) (front bytes : List ℕ) (follows : List ℕ → Items) → IsInside end is close bytes → source ≡ front ++ bytes → IsUtf8 bytes
      → ((g at : List ℕ) → IsClose end close at → source ≡ g ++ at → IsUtf8 at → EachIsAt source (follows g)) → EachIsAt source (lexemes front is follows)
  lexemes_sound end [] close front bytes follows inside e text next = next front bytes inside e text
  lexemes_sound end (i ∷ is) close front bytes follows (rest, splits, is_gap, no_end, here, inside) e text next =
      let word : List ℕ = spelled i.lexeme in
      let at : IsUtf8 (word ++ rest) = text_after i.gap (word ++ rest) (subst IsUtf8 splits text) (ascii_text i.gap (gap_ascii i.gap is_gap.0)) in
      let following = text_lexeme i.lexeme rest here at in
      let there : source ≡ (front ++ i.gap) ++ (word ++ rest) = e ∙ ap (λ l. front ++ l) splits ∙ sym (append_assoc front i.gap (word ++ rest)) in
      stands_here (token_of i.lexeme) (front ++ i.gap) word rest (lexemes ((front ++ i.gap) ++ word) is follows) there at following (lexeme_sound i.lexeme rest here)
      (lexemes_sound end is close ((front ++ i.gap) ++ word) rest follows inside (there ∙ sym (append_assoc (front ++ i.gap) word rest)) following next)

  module _ (m : Marks) (valid : IsValid m) (texts : AreTexts m) where
    text_start : (kind : Kind) → IsUtf8 (start_marker kind m)
    text_start Variable = texts.variable_start
    text_start Block = texts.block_start

    text_end : (kind : Kind) → IsUtf8 (end_marker kind m)
    text_end Variable = texts.variable_end
    text_end Block = texts.block_end

    -- the start of a tag, and its end
    start_sound : (kind : Kind) (front : List ℕ) (dash : Bool) (bytes inside : List ℕ) (follows : List ℕ → Items) → Starts (start_marker kind m) dash bytes inside → source ≡ front ++ bytes → IsUtf8 bytes
        → ((f : List ℕ) → source ≡ f ++ inside → IsUtf8 inside → EachIsAt source (follows f)) → EachIsAt source (tag_start m front kind dash follows)
    start_sound kind front dash bytes inside follows starts e text next =
        stands_first (Start kind dash) front (start_marker kind m ++ dash_bytes dash) inside bytes follows e (starts.0 ∙ sym (append_assoc (start_marker kind m) (dash_bytes dash) inside)) text
        (IsUtf8-append (start_marker kind m) (dash_bytes dash) (text_start kind) (text_dash dash)) tt next

    end_sound : (kind : Kind) (front gap : List ℕ) (dash : Bool) (rest bytes : List ℕ) (follows : List ℕ → Items) → IsClose (end_marker kind m) (End gap dash rest) bytes → source ≡ front ++ bytes → IsUtf8 bytes
        → ((f : List ℕ) → source ≡ f ++ rest → IsUtf8 rest → EachIsAt source (follows f)) → EachIsAt source (tag_end m (front ++ gap) kind dash follows)
    end_sound kind front gap dash rest bytes follows (at, splits, is_gap, ends) e text next =
        let here = text_after gap at (subst IsUtf8 splits text) (ascii_text gap (gap_ascii gap is_gap.0)) in
        stands_first (Finish kind dash) (front ++ gap) (dash_bytes dash ++ end_marker kind m) rest at follows (e ∙ ap (λ l. front ++ l) splits ∙ sym (append_assoc front gap at)) (end_splits m valid (end_marker kind m) dash at rest ends) here
        (IsUtf8-append (dash_bytes dash) (end_marker kind m) (text_dash dash) (text_end kind)) tt next

    -- a text before the next start marker
    text_text : (text rest : List ℕ) → IsUtf8 (text ++ rest) → EndsText m rest → IsUtf8 text
    text_text text [] whole ends = subst IsUtf8 (append-nil text) whole
    text_text text (b ∷ bs) whole ends =
        let bytes : List ℕ = text ++ b ∷ bs in
        let starts : AreStartTexts m = record { block_start = texts.block_start; variable_start = texts.variable_start; comment_start = texts.comment_start } in
        let at : drop (length text) bytes ≡ b ∷ bs = drop_at text (b ∷ bs) (length text) refl in
        let cut = start_cut m bytes (length text) starts valid (omega (arith, length-append text (b ∷ bs))) (subst (λ l. is_at_start m l ≡ true) (sym at) ends) in
        subst IsUtf8 (take_at text (b ∷ bs) (length text) refl) (IsUtf8-take bytes (length text) whole cut)

    -- a piece, and what follows it
    piece_sound : (start end : Bool) (p : Piece) (front bytes rest : List ℕ) (follows : List ℕ → Items) → IsPiece m p bytes rest → source ≡ front ++ bytes → IsUtf8 bytes
        → ((f : List ℕ) → source ≡ f ++ rest → IsUtf8 rest → EachIsAt source (follows f)) → EachIsAt source (piece_tokens m front start end p follows)
    piece_sound start end (Text text) front bytes rest follows (splits, some, none, ends) e whole next =
        let utf8 = text_text text rest (subst IsUtf8 splits whole) ends in
        stands_first (Content (trimmed start end text)) front text rest bytes follows e splits whole utf8 (part_trimmed start end text utf8) next
    piece_sound start end (Comment dash inside) front bytes rest follows (following, starts, splits, none) e whole next =
        let text = text_before inside m.comment_end rest (subst IsUtf8 splits (text_inside m.comment_start dash bytes following starts whole texts.comment_start)) texts.comment_end valid.comment_end in
        let utf8 = IsUtf8-append m.comment_start (dash_bytes dash ++ (inside ++ m.comment_end)) texts.comment_start (IsUtf8-append (dash_bytes dash) (inside ++ m.comment_end) (text_dash dash) (IsUtf8-append inside m.comment_end text texts.comment_end)) in
        stands_first (Content []) front (comment_bytes m dash inside) rest bytes follows e (comment_splits m valid dash inside bytes rest (following, starts, splits, none)) whole utf8 ([], comment_bytes m dash inside, refl) next
    piece_sound start end (Raw dash opening body closing) front bytes rest follows (following, inside, starts, opens, is) e whole next =
        let tag : IsUtf8 (word_tag_bytes raw_word m.block_end opening) = text_word_tag raw_word m.block_end opening following inside opens raw_ascii texts.block_end in
        let after = text_inside m.block_start dash bytes following starts whole texts.block_start in
        let within = text_after (word_tag_bytes raw_word m.block_end opening) inside (subst IsUtf8 (word_tag_splits raw_word m.block_end opening following inside opens) after) tag in
        let close : List ℕ = word_tag_bytes endraw_word m.block_end closing in
        let text = text_before body m.block_start (close ++ rest) (subst IsUtf8 (body_splits m valid body closing inside rest is) within) texts.block_start valid.block_start in
        let last = parts_split m valid.block_start is.0 is.1 closing inside rest is.3 in
        let closes : IsUtf8 close = text_word_tag endraw_word m.block_end closing last.0 rest last.2 endraw_ascii texts.block_end in
        let opened = IsUtf8-append m.block_start (dash_bytes dash ++ word_tag_bytes raw_word m.block_end opening) texts.block_start (IsUtf8-append (dash_bytes dash) (word_tag_bytes raw_word m.block_end opening) (text_dash dash) tag) in
        let around = raw_around m dash opening body closing in
        let utf8 = subst IsUtf8 (sym around) (IsUtf8-append (before_body m dash opening) (body ++ after_body m closing) opened (IsUtf8-append body (after_body m closing) text (IsUtf8-append m.block_start close texts.block_start closes))) in
        let left : List ℕ = trimmed (opening.dash_out || start) (closing.dash_in || end) body in
        let part = part_part left body (raw_bytes m dash opening body closing) (part_trimmed (opening.dash_out || start) (closing.dash_in || end) body text) (before_body m dash opening, after_body m closing, around) in
        stands_first (Content left) front (raw_bytes m dash opening body closing) rest bytes follows e (raw_splits m valid dash opening body closing bytes rest (following, inside, starts, opens, is)) whole utf8 part next
    piece_sound start end (Tag kind dash items gap last) front bytes rest follows (inside, starts, opens, here) e whole next =
        start_sound kind front dash bytes inside (λ f. lexemes f items (λ g. tag_end m (g ++ gap) kind last follows)) starts e whole
        (λ f e' text. lexemes_sound (end_marker kind m) items (End gap last rest) f inside (λ g. tag_end m (g ++ gap) kind last follows) here e' text
        (λ g at close e'' text'. end_sound kind g gap last rest at follows close e'' text' next))

    ending_sound : (ending : Ending) (front bytes : List ℕ) → IsEnding m ending bytes → source ≡ front ++ bytes → IsUtf8 bytes → EachIsAt source (ending_tokens m front ending)
    ending_sound Complete front bytes is e whole = tt
    ending_sound (OpenTag kind dash items gap) front bytes (inside, starts, opens, here) e whole =
        start_sound kind front dash bytes inside (λ f. lexemes f items (λ g. Ended)) starts e whole (λ f e' text. lexemes_sound (end_marker kind m) items (Open gap) f inside (λ g. Ended) here e' text (λ g at close e'' text'. tt))
    ending_sound (BadTag kind dash items gap fault at) front bytes (inside, starts, opens, here) e whole =
        start_sound kind front dash bytes inside (λ f. lexemes f items (λ g. failed (g ++ gap) fault)) starts e whole
        (λ f e' text. lexemes_sound (end_marker kind m) items (Bad gap fault at) f inside (λ g. failed (g ++ gap) fault) here e' text (λ g at' close e'' text'. tt))
    ending_sound (OpenRaw dash) front bytes is e whole = tt
    ending_sound (OpenComment dash) front bytes is e whole = tt

    pieces_in_order : (left ps : List Piece) (ending : Ending) (front bytes : List ℕ) → IsDivision m ps ending bytes → source ≡ front ++ bytes → IsUtf8 bytes → EachIsAt source (tokens_of m front left ps ending)
    pieces_in_order left [] ending front bytes is e whole = ending_sound ending front bytes is e whole
    pieces_in_order left (p ∷ ps) ending front bytes (rest, is, divides) e whole =
        piece_sound (trims_start left) (trims_end ps ending) p front bytes rest (λ f. tokens_of m f (p ∷ left) ps ending) is e whole (λ f e' text. pieces_in_order (p ∷ left) ps ending f rest divides e' text)

pub each_sound : (m : Marks) → IsValid m → AreTexts m → (source : List ℕ) → IsUtf8 source → (items : Items) → AreTokensOf m source items → EachIsAt source items
each_sound m valid texts source utf8 items (pieces, ending, division, is) = subst (EachIsAt source) (sym is) (pieces_in_order source m valid texts [] pieces ending [] source division refl utf8)
