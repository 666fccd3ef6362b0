-- The tokens of a source tile it.
use Rattle.std.proofs.Common.{◌≡◌, ◌≢◌, ℕ, suc, ◌<◌, ◌≤◌, Bool, true, false, ◌||◌, List, [], ◌∷◌, ◌++◌, length, Option, Some, None, ⊎_elim, ap, sym, ◌∙◌, refl, subst, arith, append_assoc}
use Rattle.std.specs.Prelude.{codes}
use Rattle.std.specs.Str.{bytes_eq}
use Rattle.std.proofs.lemmas.Bool.{cases_Bool}
use Rattle.std.proofs.lemmas.List.{append-nil, length-append}
use Rattle.tera_lexer.specs.grammar.Marks.{Marks, IsValid, start_marker, end_marker, dash_bytes}
use Rattle.tera_lexer.specs.grammar.Place.{place_after, span_of}
use Rattle.tera_lexer.specs.grammar.Lexeme.{Lexeme, Name, Number, Quoted, Operator, spelled, has_escape, decimal, IsLexeme, Fault, reported, IsFault, Item, Close, End, Open, Bad, IsEnd, IsInside}
use Rattle.tera_lexer.specs.grammar.Raw.{WordTag, word_tag_bytes, raw_word, endraw_word}
use Rattle.tera_lexer.specs.grammar.Division.{Piece, Text, Comment, Raw, Tag, Ending, Complete, OpenTag, BadTag, OpenRaw, OpenComment, Starts, IsPiece, IsEnding, IsDivision}
use Rattle.tera_lexer.specs.grammar.Trimming.{trims_end, trimmed}
use Rattle.tera_lexer.specs.grammar.Tokens.{Tok, Content, Start, Integer, Items, Ended, Failed, Token, name_token, token_of, lexemes, tag_start, tag_end, failed, open_raw, open_comment, comment_bytes, raw_bytes, piece_tokens, ending_tokens, AreTokensOf}
use Rattle.tera_lexer.specs.reading.Front.{inside_of, division_of}
use Rattle.tera_lexer.specs.reading.State.{Progress}
use Rattle.tera_lexer.specs.code.Steps.{IsIn}
use Rattle.tera_lexer.specs.code.Cursors.{size}
use Rattle.tera_lexer.specs.reading.Left.{trims_after, tokens_by, left_outside, left_by, left_in, ahead_of, left_of, whole_of, item_count}
use Rattle.tera_lexer.specs.grammar.Tiling.{Belongs, Shows, in_tag_after, Tile}
use Rattle.tera_lexer.specs.grammar.Lexed.{EachNumber, IsCount, AreNested, AreLexed}
use Rattle.tera_lexer.specs.declared.lexer.delimiters.Kind.{Kind}
use Rattle.tera_base.specs.declared.utils.Span.{Span}
use Rattle.tera_lexer.proofs.Insides.{spelled_some, fault_some, inside_sound}
use Rattle.tera_lexer.proofs.Pieces.{start_two, end_two, body_splits}
use Rattle.tera_lexer.proofs.Divisions.{division_sound}
use Rattle.tera_lexer.proofs.WordTags.{word_tag_splits}
use Rattle.tera_lexer.proofs.Lefts.{tokens_found}

some_bytes : (bytes : List ℕ) → 0 < length bytes → bytes ≢ []
some_bytes bytes some e = omega (arith, ap length e)

span_start : (front bytes : List ℕ) → (span_of front bytes).range.start ≡ length front
unfolding place_after
span_start front bytes = refl

-- a token or a fault outside a tag, where no gap comes first
tile_here : (t : Tok) (front bytes following rest : List ℕ) (items : Items) → rest ≡ bytes ++ following → bytes ≢ [] → Belongs false t → Shows t bytes → Tile (in_tag_after false t) (front ++ bytes) following items → Tile false front rest (Token t (span_of front bytes) items)
tile_here t front bytes following rest items e some belongs shows tile =
    ([], bytes, following, e, refl, some, belongs, shows, ap (λ f. span_of f bytes) (sym (append-nil front)), subst (λ f. Tile (in_tag_after false t) (f ++ bytes) following items) (sym (append-nil front)) tile)

fault_here : (front reported rest text : List ℕ) → rest ≢ [] → Tile false front rest (Failed text (span_of front reported))
fault_here front reported rest text some = ([], rest, refl, refl, some, span_start front reported ∙ ap length (sym (append-nil front)))

-- a lexeme shows its bytes
either : (a b : List ℕ) → List ℕ → Bool
either a b name = bytes_eq name a || bytes_eq name b

name_shows : (name : List ℕ) → Shows (name_token name) name
unfolding either
name_shows name =
    ⊎_elim
    (λ here. rw here tt)
    (λ other. rw other (⊎_elim (λ here. rw here tt) (λ other'. rw other' refl) (cases_Bool (either (codes "false") (codes "False") name))))
    (cases_Bool (either (codes "true") (codes "True") name))

lexeme_shows : (l : Lexeme) (rest : List ℕ) → IsLexeme l rest → Shows (token_of l) (spelled l)
lexeme_shows (Name b bs) rest here = name_shows (b ∷ bs)
lexeme_shows (Number b bs) rest (digits, no_point, fits) = (refl, fits)
lexeme_shows (Quoted quote is) rest here = ⊎_elim (λ escape. rw escape tt) (λ plain. rw plain (quote, refl)) (cases_Bool (has_escape is))
lexeme_shows (Operator op) rest here = refl

name_sound : (name : List ℕ) → IsIn (name_token name) name
unfolding either
name_sound name =
    ⊎_elim
    (λ here. rw here tt)
    (λ other. rw other (⊎_elim (λ here. rw here tt) (λ other'. rw other' refl) (cases_Bool (either (codes "false") (codes "False") name))))
    (cases_Bool (either (codes "true") (codes "True") name))

pub lexeme_sound : (l : Lexeme) (rest : List ℕ) → IsLexeme l rest → IsIn (token_of l) (spelled l)
lexeme_sound (Name b bs) rest here = name_sound (b ∷ bs)
lexeme_sound (Number b bs) rest (digits, no_point, fits) = (refl, fits)
lexeme_sound (Quoted quote is) rest here = ⊎_elim (λ escape. rw escape tt) (λ plain. rw plain (quote, refl)) (cases_Bool (has_escape is))
lexeme_sound (Operator op) rest here = refl

-- inside a tag a lexeme leaves the tag open
name_inside : (name : List ℕ) → in_tag_after true (name_token name) ≡ true
unfolding either
name_inside name =
    ⊎_elim
    (λ here. rw here refl)
    (λ other. rw other (⊎_elim (λ here. rw here refl) (λ other'. rw other' refl) (cases_Bool (either (codes "false") (codes "False") name))))
    (cases_Bool (either (codes "true") (codes "True") name))

pub lexeme_inside : (l : Lexeme) → in_tag_after true (token_of l) ≡ true
lexeme_inside (Name b bs) = name_inside (b ∷ bs)
lexeme_inside (Number b bs) = refl
lexeme_inside (Quoted quote is) = ⊎_elim (λ escape. rw escape refl) (λ plain. rw plain refl) (cases_Bool (has_escape is))
lexeme_inside (Operator op) = refl

name_belongs : (name : List ℕ) → Belongs true (name_token name)
unfolding either
name_belongs name =
    ⊎_elim
    (λ here. rw here refl)
    (λ other. rw other (⊎_elim (λ here. rw here refl) (λ other'. rw other' refl) (cases_Bool (either (codes "false") (codes "False") name))))
    (cases_Bool (either (codes "true") (codes "True") name))

lexeme_belongs : (l : Lexeme) → Belongs true (token_of l)
lexeme_belongs (Name b bs) = name_belongs (b ∷ bs)
lexeme_belongs (Number b bs) = refl
lexeme_belongs (Quoted quote is) = ⊎_elim (λ escape. rw escape refl) (λ plain. rw plain refl) (cases_Bool (has_escape is))
lexeme_belongs (Operator op) = refl

-- lexemes, and what follows them
module _ (end : List ℕ) where
  tile_lexeme : (i : Item) (front rest bytes : List ℕ) (items : Items) → bytes ≡ i.gap ++ (spelled i.lexeme ++ rest) → Tile true [] i.gap Ended → IsLexeme i.lexeme rest → Tile true ((front ++ i.gap) ++ spelled i.lexeme) rest items
      → Tile true front bytes (Token (token_of i.lexeme) (span_of (front ++ i.gap) (spelled i.lexeme)) items)
  tile_lexeme i front rest bytes items e gap here tile =
      (i.gap, spelled i.lexeme, rest, e, gap, some_bytes (spelled i.lexeme) (spelled_some i.lexeme rest here), lexeme_belongs i.lexeme, lexeme_shows i.lexeme rest here, refl, subst (λ b. Tile b ((front ++ i.gap) ++ spelled i.lexeme) rest items) (sym (lexeme_inside i.lexeme)) tile)

  tile_open : (is : List Item) (gap front bytes : List ℕ) → IsInside end is (Open gap) bytes → Tile true front bytes (lexemes front is (λ g. Ended))
  tile_open [] gap front bytes (e, is_gap) = subst (λ l. Tile true front l Ended) (sym e) is_gap.0
  tile_open (i ∷ is) gap front bytes (rest, e, is_gap, no_end, here, inside) =
      tile_lexeme i front rest bytes _ e is_gap.0 here (tile_open is gap ((front ++ i.gap) ++ spelled i.lexeme) rest inside)

  fault_bytes : (fault : Fault) (at : List ℕ) → IsFault fault at → at ≢ []
  fault_bytes fault at here e = fault_some fault (subst (IsFault fault) e here)

  tile_bad : (is : List Item) (gap : List ℕ) (fault : Fault) (at front bytes : List ℕ) → IsInside end is (Bad gap fault at) bytes → Tile true front bytes (lexemes front is (λ g. failed (g ++ gap) fault))
  tile_bad [] gap fault at front bytes (e, is_gap, no_end, here) = (gap, at, e, is_gap.0, fault_bytes fault at here, span_start (front ++ gap) (reported fault))
  tile_bad (i ∷ is) gap fault at front bytes (rest, e, is_gap, no_end, here, inside) =
      tile_lexeme i front rest bytes _ e is_gap.0 here (tile_bad is gap fault at ((front ++ i.gap) ++ spelled i.lexeme) rest inside)

-- the bytes of a raw piece before and after its body
abbrev pub before_body : Marks → Bool → WordTag → List ℕ
before_body m dash opening = m.block_start ++ (dash_bytes dash ++ word_tag_bytes raw_word m.block_end opening)

abbrev pub after_body : Marks → WordTag → List ℕ
after_body m closing = m.block_start ++ word_tag_bytes endraw_word m.block_end closing

pub raw_around : (m : Marks) (dash : Bool) (opening : WordTag) (body : List ℕ) (closing : WordTag) → raw_bytes m dash opening body closing ≡ before_body m dash opening ++ (body ++ after_body m closing)
raw_around m dash opening body closing =
    let tag : List ℕ = word_tag_bytes raw_word m.block_end opening in
    sym (append_assoc m.block_start (dash_bytes dash ++ tag) (body ++ after_body m closing) ∙ ap (λ l. m.block_start ++ l) (append_assoc (dash_bytes dash) tag (body ++ after_body m closing)))

module _ (m : Marks) (valid : IsValid m) where
  pub end_splits : (end : List ℕ) (dash : Bool) (at rest : List ℕ) → IsEnd end dash at rest → at ≡ (dash_bytes dash ++ end) ++ rest
  end_splits end true at rest is = is
  end_splits end false at rest is = is.0

  tile_end : (kind : Kind) (is : List Item) (gap : List ℕ) (dash : Bool) (rest front bytes : List ℕ) (follows : List ℕ → Items) → IsInside (end_marker kind m) is (End gap dash rest) bytes → ((g : List ℕ) → Tile false g rest (follows g))
      → Tile true front bytes (lexemes front is (λ g. tag_end m (g ++ gap) kind dash follows))
  tile_end kind [] gap dash rest front bytes follows (at, e, is_gap, ends) tile =
      let end : List ℕ = end_marker kind m in
      let marker : List ℕ = dash_bytes dash ++ end in
      let some : 0 < length marker = omega (arith, length-append (dash_bytes dash) end, end_two m valid kind) in
      (gap, marker, rest, e ∙ ap (λ l. gap ++ l) (end_splits end dash at rest ends), is_gap.0, some_bytes marker some, refl, tt, refl, tile ((front ++ gap) ++ marker))
  tile_end kind (i ∷ is) gap dash rest front bytes follows (following, e, is_gap, no_end, here, inside) tile =
      tile_lexeme (end_marker kind m) i front following bytes _ e is_gap.0 here (tile_end kind is gap dash rest ((front ++ i.gap) ++ spelled i.lexeme) following follows inside tile)

  tile_start : (kind : Kind) (front : List ℕ) (dash : Bool) (bytes inside : List ℕ) (follows : List ℕ → Items) → Starts (start_marker kind m) dash bytes inside → ((f : List ℕ) → Tile true f inside (follows f))
      → Tile false front bytes (tag_start m front kind dash follows)
  tile_start kind front dash bytes inside follows starts tile =
      let marker : List ℕ = start_marker kind m ++ dash_bytes dash in
      let some : 0 < length marker = omega (arith, length-append (start_marker kind m) (dash_bytes dash), start_two m valid kind) in
      tile_here (Start kind dash) front marker inside bytes (follows (front ++ marker)) (starts.0 ∙ sym (append_assoc (start_marker kind m) (dash_bytes dash) inside)) (some_bytes marker some) refl tt (tile (front ++ marker))

  starts_some : (marker : List ℕ) (dash : Bool) (bytes following : List ℕ) → length marker ≡ 2 → Starts marker dash bytes following → bytes ≢ []
  starts_some marker dash bytes following two starts = some_bytes bytes (omega (arith, ap length starts.0, length-append marker (dash_bytes dash ++ following)))

  tile_ending : (ending : Ending) (front bytes : List ℕ) → IsEnding m ending bytes → Tile false front bytes (ending_tokens m front ending)
  tile_ending Complete front bytes e = e
  tile_ending (OpenTag kind dash items gap) front bytes (inside, starts, opens, here) =
      tile_start kind front dash bytes inside (λ f. lexemes f items (λ g. Ended)) starts (λ f. tile_open (end_marker kind m) items gap f inside here)
  tile_ending (BadTag kind dash items gap fault at) front bytes (inside, starts, opens, here) =
      tile_start kind front dash bytes inside (λ f. lexemes f items (λ g. failed (g ++ gap) fault)) starts (λ f. tile_bad (end_marker kind m) items gap fault at f inside here)
  tile_ending (OpenRaw dash) front bytes (following, inside, opening, starts, opens, is) = fault_here front (m.block_start ++ dash_bytes dash) bytes open_raw (starts_some m.block_start dash bytes following valid.block_start starts)
  tile_ending (OpenComment dash) front bytes (following, starts, none) = fault_here front (m.comment_start ++ dash_bytes dash) bytes (open_comment m) (starts_some m.comment_start dash bytes following valid.comment_start starts)

  -- the bytes of a comment and of a raw piece
  pub comment_splits : (dash : Bool) (inside bytes rest : List ℕ) → IsPiece m (Comment dash inside) bytes rest → bytes ≡ comment_bytes m dash inside ++ rest
  comment_splits dash inside bytes rest (following, starts, e, none) =
      starts.0 ∙ ap (λ l. m.comment_start ++ (dash_bytes dash ++ l)) (e ∙ sym (append_assoc inside m.comment_end rest))
      ∙ sym (append_assoc m.comment_start (dash_bytes dash ++ (inside ++ m.comment_end)) rest ∙ ap (λ l. m.comment_start ++ l) (append_assoc (dash_bytes dash) (inside ++ m.comment_end) rest))

  pub raw_splits : (dash : Bool) (opening : WordTag) (body : List ℕ) (closing : WordTag) (bytes rest : List ℕ) → IsPiece m (Raw dash opening body closing) bytes rest → bytes ≡ raw_bytes m dash opening body closing ++ rest
  raw_splits dash opening body closing bytes rest (following, inside, starts, opens, is) =
      let close : List ℕ = word_tag_bytes endraw_word m.block_end closing in
      let open_tag : List ℕ = word_tag_bytes raw_word m.block_end opening in
      starts.0
      ∙ ap (λ l. m.block_start ++ (dash_bytes dash ++ l)) (word_tag_splits raw_word m.block_end opening following inside opens ∙ ap (λ l. open_tag ++ l) (body_splits m valid body closing inside rest is))
      ∙ sym (append_assoc m.block_start (dash_bytes dash ++ (open_tag ++ (body ++ (m.block_start ++ close)))) rest
      ∙ ap (λ l. m.block_start ++ l) (append_assoc (dash_bytes dash) (open_tag ++ (body ++ (m.block_start ++ close))) rest
      ∙ ap (λ l. dash_bytes dash ++ l) (append_assoc open_tag (body ++ (m.block_start ++ close)) rest
      ∙ ap (λ l. open_tag ++ l) (append_assoc body (m.block_start ++ close) rest
      ∙ ap (λ l. body ++ l) (append_assoc m.block_start close rest)))))

  -- a piece, trimmed or not, and what follows it
  tile_piece : (start end : Bool) (p : Piece) (front bytes rest : List ℕ) (follows : List ℕ → Items) → IsPiece m p bytes rest → ((f : List ℕ) → Tile false f rest (follows f)) → Tile false front bytes (piece_tokens m front start end p follows)
  tile_piece start end (Text text) front bytes rest follows (e, some, none, ends) tile =
      tile_here (Content (trimmed start end text)) front text rest bytes (follows (front ++ text)) e some refl ([], text, [], start, end, sym (append-nil text), refl) (tile (front ++ text))
  tile_piece start end (Comment dash inside) front bytes rest follows (following, starts, e, none) tile =
      let text : List ℕ = comment_bytes m dash inside in
      let splits = comment_splits dash inside bytes rest (following, starts, e, none) in
      let some : 0 < length text = omega (arith, length-append m.comment_start (dash_bytes dash ++ (inside ++ m.comment_end)), valid.comment_start) in
      tile_here (Content []) front text rest bytes (follows (front ++ text)) splits (some_bytes text some) refl ([], [], text, false, false, refl, refl) (tile (front ++ text))
  tile_piece start end (Raw dash opening body closing) front bytes rest follows (following, inside, starts, opens, is) tile =
      let text : List ℕ = raw_bytes m dash opening body closing in
      let splits = raw_splits dash opening body closing bytes rest (following, inside, starts, opens, is) in
      let some : 0 < length text = omega (arith, ap length (raw_around m dash opening body closing), length-append (before_body m dash opening) (body ++ after_body m closing), length-append m.block_start (dash_bytes dash ++ word_tag_bytes raw_word m.block_end opening), valid.block_start) in
      tile_here (Content (trimmed (opening.dash_out || start) (closing.dash_in || end) body)) front text rest bytes (follows (front ++ text)) splits (some_bytes text some) refl
      (before_body m dash opening, body, after_body m closing, opening.dash_out || start, closing.dash_in || end, raw_around m dash opening body closing, refl) (tile (front ++ text))
  tile_piece start end (Tag kind dash items gap last) front bytes rest follows (inside, starts, opens, here) tile =
      tile_start kind front dash bytes inside (λ f. lexemes f items (λ g. tag_end m (g ++ gap) kind last follows)) starts
      (λ f. tile_end kind items gap last rest f inside follows here tile)

  tile_pieces : (trim : Bool) (ps : List Piece) (ending : Ending) (front bytes : List ℕ) → IsDivision m ps ending bytes → Tile false front bytes (tokens_by m front trim ps ending)
  tile_pieces trim [] ending front bytes is = tile_ending ending front bytes is
  tile_pieces trim (p ∷ ps) ending front bytes (rest, is, divides) =
      tile_piece trim (trims_end ps ending) p front bytes rest (λ f. tokens_by m f (trims_after trim p) ps ending) is (λ f. tile_pieces (trims_after trim p) ps ending f rest divides)

  -- the tokens that are left outside a tag, and those of a source
  tile_outside : (front : List ℕ) (trim : Bool) (rest : List ℕ) → Tile false front rest (left_outside m front trim rest)
  tile_outside front trim rest = tile_pieces trim (division_of m rest).0 (division_of m rest).1 front rest (division_sound m valid (suc (length rest)) rest (omega arith))

  pub tokens_tile : (source : List ℕ) (items : Items) → AreTokensOf m source items → Tile false [] source items
  tokens_tile source items are = subst (Tile false [] source) (sym (tokens_found m valid source items are)) (tile_outside [] false source)

-- the same of what a reading has left
is_open : Option Kind → Bool
is_open None = false
is_open (Some kind) = true

module _ (m : Marks) (valid : IsValid m) where
  tile_by : (kind : Kind) (front rest : List ℕ) (is : List Item) (close : Close) → IsInside (end_marker kind m) is close rest → Tile true front rest (left_by m kind front is close)
  tile_by kind front rest is (End gap dash following) here = tile_end m valid kind is gap dash following front rest (λ h. left_outside m h dash following) here (λ g. tile_outside m valid g dash following)
  tile_by kind front rest is (Open gap) here = tile_open (end_marker kind m) is gap front rest here
  tile_by kind front rest is (Bad gap fault at) here = tile_bad (end_marker kind m) is gap fault at front rest here

  tile_in : (tag : Option Kind) (front : List ℕ) (trim : Bool) (rest : List ℕ) → Tile (is_open tag) front rest (left_in m tag front trim rest)
  unfolding is_open
  tile_in None front trim rest = tile_outside m valid front trim rest
  tile_in (Some kind) front trim rest =
      tile_by kind front rest (inside_of (end_marker kind m) rest).0 (inside_of (end_marker kind m) rest).1 (inside_sound (end_marker kind m) (suc (length rest)) rest (omega arith))

-- at most one item a byte
length_some : (bytes : List ℕ) → bytes ≢ [] → 0 < length bytes
length_some [] some = absurd (some refl)
length_some (b ∷ bs) some = omega arith

pub tiles_count : (items : Items) (inside : Bool) (front rest : List ℕ) → Tile inside front rest items → item_count items ≤ length rest
tiles_count Ended inside front rest tile = omega arith
tiles_count (Failed text span) inside front rest (gap, at, e, between, some, start) = omega (arith, ap length e, length-append gap at, length_some at some)
tiles_count (Token t span items) inside front rest (gap, bytes, following, e, between, some, belongs, shows, is, tile) =
    omega (arith, ap length e, length-append gap (bytes ++ following), length-append bytes following, length_some bytes some, tiles_count items (in_tag_after inside t) ((front ++ gap) ++ bytes) following tile)

pub left_count : (r : Progress) → IsValid r.marks → item_count (left_of r) ≤ length (whole_of r)
unfolding ahead_of
left_count r valid =
    ⊎_elim
    (λ over. rw over (omega arith))
    (λ going. rw going (omega (arith, tiles_count (left_in r.marks r.tag r.front r.trim r.rest) (is_open r.tag) r.front r.rest (tile_in r.marks valid r.tag r.front r.trim r.rest), length-append r.front r.rest)))
    (cases_Bool r.failed)

-- what is so of them from any place on
tiles_nested : (items : Items) (inside : Bool) (front rest : List ℕ) → Tile inside front rest items → AreNested inside items
tiles_nested Ended inside front rest tile = tt
tiles_nested (Failed text span) inside front rest tile = tt
tiles_nested (Token t span items) inside front rest (gap, bytes, following, e, between, some, belongs, shows, is, tile) =
    (belongs, tiles_nested items (in_tag_after inside t) ((front ++ gap) ++ bytes) following tile)

number_more : (t : Tok) (span : Span) (items : Items) (bytes : List ℕ) → Shows t bytes → EachNumber IsCount items → EachNumber IsCount (Token t span items)
number_more (Integer n) span items bytes (is, fits) each = ((decimal bytes, is, fits), each)
number_more t span items bytes shows each = each

tiles_numbers : (items : Items) (inside : Bool) (front rest : List ℕ) → Tile inside front rest items → EachNumber IsCount items
tiles_numbers Ended inside front rest tile = tt
tiles_numbers (Failed text span) inside front rest tile = tt
tiles_numbers (Token t span items) inside front rest (gap, bytes, following, e, between, some, belongs, shows, is, tile) =
    number_more t span items bytes shows (tiles_numbers items (in_tag_after inside t) ((front ++ gap) ++ bytes) following tile)

tiles_lexed : (items : Items) (inside : Bool) (front rest : List ℕ) → Tile inside front rest items → AreLexed items
tiles_lexed items inside front rest tile = record { numbers = tiles_numbers items inside front rest tile; inside = inside; nested = tiles_nested items inside front rest tile }

pub left_lexed : (r : Progress) → IsValid r.marks → AreLexed (left_of r)
unfolding ahead_of
left_lexed r valid =
    ⊎_elim
    (λ over. rw over (record { numbers = tt; inside = false; nested = tt }))
    (λ going. rw going (tiles_lexed (left_in r.marks r.tag r.front r.trim r.rest) (is_open r.tag) r.front r.rest (tile_in r.marks valid r.tag r.front r.trim r.rest)))
    (cases_Bool r.failed)

-- after the first of them too
pub lexed_after : (t : Tok) (span : Span) (items : Items) → AreLexed (Token t span items) → AreLexed items
lexed_after t span items lexed = record { numbers = numbers_after t lexed.numbers; inside = in_tag_after lexed.inside t; nested = lexed.nested.1 }
  where
    numbers_after : (t : Tok) → EachNumber IsCount (Token t span items) → EachNumber IsCount items
    numbers_after (Integer n) each = each.1
    numbers_after t each = each

-- a fault is not a token
pub size_count : (items : Items) → size items ≤ item_count items
size_count Ended = omega arith
size_count (Failed text span) = omega arith
size_count (Token t span items) = omega (arith, size_count items)
