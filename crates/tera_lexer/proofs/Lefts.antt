-- The tokens that are left, one after another.
use Rattle.std.proofs.Common.{◌≡◌, ◌≢◌, ℕ, suc, ◌<◌, ◌≤◌, Bool, true, false, ◌||◌, List, [], ◌∷◌, ◌++◌, length, Option, Some, None, ⊎_elim, ap, sym, ◌∙◌, refl, subst, arith}
use Rattle.std.specs.Char.{is_ascii_whitespace}
use Rattle.std.proofs.lemmas.Bool.{cases_Bool}
use Rattle.std.proofs.lemmas.List.{append-nil, length-append}
use Rattle.tera_lexer.specs.grammar.Marks.{Marks, IsValid, start_marker, end_marker, begins, NowhereIn, dash_bytes}
use Rattle.tera_lexer.specs.grammar.Place.{span_of}
use Rattle.tera_lexer.specs.grammar.Lexeme.{StopsAt, IsGap, Lexeme, spelled, Fault, Item, Close, End, Open, Bad, is_at_end, IsEnd, IsInside}
use Rattle.tera_lexer.specs.grammar.Raw.{WordTag, OpensRaw, IsBody, IsOpenBody}
use Rattle.tera_lexer.specs.grammar.Division.{is_at_start, EndsText, Piece, Text, Comment, Raw, Tag, Ending, Complete, OpenTag, BadTag, OpenRaw, OpenComment, Starts, OpensTag, IsPiece, IsDivision}
use Rattle.tera_lexer.specs.grammar.Trimming.{ends_dashed, trims_start, trims_end, trimmed}
use Rattle.tera_lexer.specs.grammar.Tokens.{Items, Ended, Failed, Token, Content, token_of, tag_start, tag_end, failed, open_raw, open_comment, comment_bytes, raw_bytes, piece_tokens, tokens_of, AreTokensOf}
use Rattle.tera_lexer.specs.reading.Front.{Front, Reads, Breaks, front_of, Next, Ends, Closes, GoesOnWith, next_at, inside_step, inside_by, inside_of, division_of}
use Rattle.tera_lexer.specs.reading.State.{Progress}
use Rattle.tera_lexer.specs.reading.Left.{start_of, trims_after, tokens_by, starts_dashed, left_outside, left_by, left_inside, left_in, ahead_of, left_of, whole_of, stream_of}
use Rattle.tera_lexer.specs.declared.lexer.delimiters.Kind.{Kind}
use Rattle.tera_lexer.proofs.Insides.{spelled_some, inside_sound, inside_found, at_gap, next_sound, next_closes}
use Rattle.tera_lexer.proofs.Pieces.{end_two}
use Rattle.tera_lexer.proofs.Divisions.{division_sound, division_found}
use Rattle.tera_lexer.proofs.Fronts.{IsFront, front_sound}

-- of the pieces to the left one bit is kept
after_is : (left : List Piece) (p : Piece) → trims_after (trims_start left) p ≡ trims_start (p ∷ left)
after_is left (Text text) = refl
after_is left (Comment dash inside) = refl
after_is left (Raw dash opening body closing) = refl
after_is left (Tag kind dash items gap end) = refl

by_left : (m : Marks) (front : List ℕ) (left ps : List Piece) (ending : Ending) → tokens_by m front (trims_start left) ps ending ≡ tokens_of m front left ps ending
by_left m front left [] ending = refl
by_left m front left (p ∷ ps) ending =
    λ i. piece_tokens m front (trims_start left) (trims_end ps ending) p (λ f. (ap (λ t. tokens_by m f t ps ending) (after_is left p) ∙ by_left m f (p ∷ left) ps ending) i)

-- the tokens of a source are one list, and that is left at its start
pub tokens_found : (m : Marks) → IsValid m → (source : List ℕ) (items : Items) → AreTokensOf m source items → items ≡ left_outside m [] false source
tokens_found m valid source items (ps, e, division, is) =
    is ∙ sym (by_left m [] [] ps e) ∙ ap (λ (d : List Piece × Ending). tokens_by m [] false d.0 d.1) (sym (division_found m valid ps e (suc (length source)) source division (omega arith)))

pub tokens_sound : (m : Marks) → IsValid m → (source : List ℕ) → AreTokensOf m source (left_outside m [] false source)
tokens_sound m valid source =
    ((division_of m source).0, (division_of m source).1, division_sound m valid (suc (length source)) source (omega arith), by_left m [] [] (division_of m source).0 (division_of m source).1)

module _ (m : Marks) (valid : IsValid m) (kind : Kind) where
  -- steps that are enough are enough
  inside_enough : (n : ℕ) (bytes : List ℕ) → length bytes < n → inside_by n (end_marker kind m) bytes ≡ inside_of (end_marker kind m) bytes
  inside_enough n bytes lt =
      inside_found (end_marker kind m) (inside_of (end_marker kind m) bytes).0 (inside_of (end_marker kind m) bytes).1 n bytes (end_two m valid kind) (inside_sound (end_marker kind m) (suc (length bytes)) bytes (omega arith)) lt

  -- from what comes next in a tag, after front
  next_left : List ℕ → Next → Items
  next_left front Ends = Ended
  next_left front (Closes dash rest) = tag_end m front kind dash (λ h. left_outside m h dash rest)
  next_left front (GoesOnWith (Reads lexeme rest)) = Token (token_of lexeme) (span_of front (spelled lexeme)) (left_inside m kind (front ++ spelled lexeme) rest)
  next_left front (GoesOnWith (Breaks fault)) = failed front fault

  -- a lexeme more
  left_by_more : (front : List ℕ) (i : Item) (items : List Item) (close : Close)
      → left_by m kind front (i ∷ items) close ≡ Token (token_of i.lexeme) (span_of (front ++ i.gap) (spelled i.lexeme)) (left_by m kind ((front ++ i.gap) ++ spelled i.lexeme) items close)
  left_by_more front i items (End gap dash rest) = refl
  left_by_more front i items (Open gap) = refl
  left_by_more front i items (Bad gap fault at) = refl

  -- how the rest of a lexeme is shorter
  ShortensBy : ℕ → Next → Type 0
  ShortensBy n Ends = Unit {0}
  ShortensBy n (Closes dash rest) = Unit {0}
  ShortensBy n (GoesOnWith (Reads lexeme rest)) = length rest < n
  ShortensBy n (GoesOnWith (Breaks fault)) = Unit {0}

  step_left : (n : ℕ) (front gap at : List ℕ) (next : Next) → ShortensBy n next
      → left_by m kind front (inside_step (inside_by n (end_marker kind m)) gap at next).0 (inside_step (inside_by n (end_marker kind m)) gap at next).1 ≡ next_left (front ++ gap) next
  unfolding next_left ShortensBy
  step_left n front gap at Ends less = refl
  step_left n front gap at (Closes dash rest) less = refl
  step_left n front gap at (GoesOnWith (Breaks fault)) less = refl
  step_left n front gap at (GoesOnWith (Reads lexeme rest)) less =
      let item : Item = record { gap = gap; lexeme = lexeme } in
      let read = inside_by n (end_marker kind m) rest in
      left_by_more front item read.0 read.1
      ∙ ap (λ (p : List Item × Close). Token (token_of lexeme) (span_of (front ++ gap) (spelled lexeme)) (left_by m kind ((front ++ gap) ++ spelled lexeme) p.0 p.1)) (inside_enough n rest less)

  left_next : (front gap at bytes : List ℕ) (next : Next) → bytes ≡ gap ++ at → IsGap gap at → next_at (end_marker kind m) at ≡ next → ShortensBy (length bytes) next
      → left_inside m kind front bytes ≡ next_left (front ++ gap) next
  left_next front gap at bytes next e is_gap is less =
      ap (λ (p : List Item × Close). left_by m kind front p.0 p.1) (at_gap (end_marker kind m) (length bytes) gap at bytes e is_gap ∙ ap (inside_step (inside_by (length bytes) (end_marker kind m)) gap at) is)
      ∙ step_left (length bytes) front gap at next less

  shortens_more : (n k : ℕ) (next : Next) → n ≤ k → ShortensBy n next → ShortensBy k next
  unfolding ShortensBy
  shortens_more n k Ends le less = tt
  shortens_more n k (Closes dash rest) le less = tt
  shortens_more n k (GoesOnWith (Breaks fault)) le less = tt
  shortens_more n k (GoesOnWith (Reads lexeme rest)) le less = omega (arith, less)

  front_shortens : (at : List ℕ) (front : Front) → IsFront at front → ShortensBy (length at) (GoesOnWith front)
  unfolding ShortensBy
  front_shortens at (Breaks fault) is = tt
  front_shortens at (Reads lexeme rest) is = omega (arith, spelled_some lexeme rest is.1, ap length is.0, length-append (spelled lexeme) rest)

  next_shortens : (at : List ℕ) → ShortensBy (length at) (next_at (end_marker kind m) at)
  unfolding ShortensBy
  next_shortens [] = tt
  next_shortens (b ∷ bs) =
      ⊎_elim
      (λ dashed. rw dashed tt)
      (λ no_dash. rw no_dash (⊎_elim (λ closes. rw closes tt) (λ goes_on. rw goes_on (front_shortens (b ∷ bs) (front_of (b ∷ bs)) (front_sound b bs))) (cases_Bool (begins (end_marker kind m) (b ∷ bs)))))
      (cases_Bool (begins (45 ∷ (end_marker kind m)) (b ∷ bs)))

  at_next : (front gap at bytes : List ℕ) (next : Next) → bytes ≡ gap ++ at → IsGap gap at → next_at (end_marker kind m) at ≡ next → left_inside m kind front bytes ≡ next_left (front ++ gap) next
  at_next front gap at bytes next e is_gap is =
      let less = shortens_more (length at) (length bytes) next (omega (arith, ap length e, length-append gap at)) (subst (ShortensBy (length at)) is (next_shortens at)) in
      left_next front gap at bytes next e is_gap is less

  pub gap_left : (front gap at bytes : List ℕ) → bytes ≡ gap ++ at → IsGap gap at → left_inside m kind front bytes ≡ left_inside m kind (front ++ gap) at
  gap_left front gap at bytes e is_gap =
      at_next front gap at bytes (next_at (end_marker kind m) at) e is_gap refl
      ∙ ap (λ f. next_left f (next_at (end_marker kind m) at)) (sym (append-nil (front ++ gap)))
      ∙ sym (at_next (front ++ gap) [] at at (next_at (end_marker kind m) at) refl (tt, is_gap.1) refl)

  -- what is left where no gap comes first
  module _ (front at : List ℕ) (stops : StopsAt is_ascii_whitespace at) where
    here_left : (next : Next) → next_at (end_marker kind m) at ≡ next → left_inside m kind front at ≡ next_left front next
    here_left next is = at_next front [] at at next refl (tt, stops) is ∙ ap (λ f. next_left f next) (append-nil front)

    pub end_left : (dash : Bool) (rest : List ℕ) → IsEnd (end_marker kind m) dash at rest → left_inside m kind front at ≡ tag_end m front kind dash (λ h. left_outside m h dash rest)
    unfolding next_left
    end_left dash rest is = here_left (Closes dash rest) (next_closes (end_marker kind m) dash at rest (end_two m valid kind) is)

    pub lexeme_left : (lexeme : Lexeme) (rest : List ℕ) → 0 < length at → is_at_end (end_marker kind m) at ≡ false → front_of at ≡ Reads lexeme rest
        → left_inside m kind front at ≡ Token (token_of lexeme) (span_of front (spelled lexeme)) (left_inside m kind (front ++ spelled lexeme) rest)
    unfolding next_left
    lexeme_left lexeme rest some no_end is = here_left (GoesOnWith (Reads lexeme rest)) (next_sound (end_marker kind m) at some no_end ∙ ap GoesOnWith is)

    pub fault_left : (fault : Fault) → 0 < length at → is_at_end (end_marker kind m) at ≡ false → front_of at ≡ Breaks fault → left_inside m kind front at ≡ failed front fault
    unfolding next_left
    fault_left fault some no_end is = here_left (GoesOnWith (Breaks fault)) (next_sound (end_marker kind m) at some no_end ∙ ap GoesOnWith is)

  pub gap_ends : (front gap : List ℕ) → IsGap gap [] → left_inside m kind front gap ≡ Ended
  unfolding next_left
  gap_ends front gap is_gap = at_next front gap [] gap Ends (sym (append-nil gap)) is_gap refl

module _ (m : Marks) (valid : IsValid m) where
  -- what is left outside a tag
  division_is : (ps : List Piece) (ending : Ending) (bytes : List ℕ) → IsDivision m ps ending bytes → division_of m bytes ≡ (ps, ending)
  division_is ps ending bytes divides = division_found m valid ps ending (suc (length bytes)) bytes divides (omega arith)

  rest_divides : (rest : List ℕ) → IsDivision m (division_of m rest).0 (division_of m rest).1 rest
  rest_divides rest = division_sound m valid (suc (length rest)) rest (omega arith)

  left_is : (front : List ℕ) (trim : Bool) (ps : List Piece) (ending : Ending) (bytes : List ℕ) → IsDivision m ps ending bytes → left_outside m front trim bytes ≡ tokens_by m front trim ps ending
  left_is front trim ps ending bytes divides = ap (λ (d : List Piece × Ending). tokens_by m front trim d.0 d.1) (division_is ps ending bytes divides)

  pub nothing_left : (front : List ℕ) (trim : Bool) (bytes : List ℕ) → bytes ≡ [] → left_outside m front trim bytes ≡ Ended
  nothing_left front trim bytes e = left_is front trim [] Complete bytes e

  -- a piece, and what is after it
  piece_left : (front : List ℕ) (trim : Bool) (bytes rest : List ℕ) (p : Piece) → IsPiece m p bytes rest → left_outside m front trim bytes ≡ tokens_by m front trim (p ∷ (division_of m rest).0) (division_of m rest).1
  piece_left front trim bytes rest p is = left_is front trim (p ∷ (division_of m rest).0) (division_of m rest).1 bytes (rest, is, rest_divides rest)

  pub text_left : (front : List ℕ) (trim : Bool) (text rest bytes : List ℕ) → bytes ≡ text ++ rest → text ≢ [] → NowhereIn (is_at_start m) text rest → EndsText m rest
      → left_outside m front trim bytes ≡ Token (Content (trimmed trim (starts_dashed m rest) text)) (span_of front text) (left_outside m (front ++ text) false rest)
  text_left front trim text rest bytes e some none ends = piece_left front trim bytes rest (Text text) (e, some, none, ends)

  pub comment_left : (front : List ℕ) (trim dash : Bool) (inside rest bytes following : List ℕ) → Starts m.comment_start dash bytes following → following ≡ inside ++ (m.comment_end ++ rest) → NowhereIn (begins m.comment_end) inside (m.comment_end ++ rest)
      → left_outside m front trim bytes ≡ Token (Content []) (span_of front (comment_bytes m dash inside)) (left_outside m (front ++ comment_bytes m dash inside) (trim || ends_dashed inside) rest)
  comment_left front trim dash inside rest bytes following starts e none = piece_left front trim bytes rest (Comment dash inside) (following, starts, e, none)

  pub open_comment_left : (front : List ℕ) (trim dash : Bool) (bytes following : List ℕ) → Starts m.comment_start dash bytes following → NowhereIn (begins m.comment_end) following []
      → left_outside m front trim bytes ≡ Failed (open_comment m) (span_of front (m.comment_start ++ dash_bytes dash))
  open_comment_left front trim dash bytes following starts none = left_is front trim [] (OpenComment dash) bytes (following, starts, none)

  pub raw_left : (front : List ℕ) (trim dash : Bool) (opening : WordTag) (body : List ℕ) (closing : WordTag) (rest bytes following inside : List ℕ) → Starts m.block_start dash bytes following → OpensRaw m opening following inside → IsBody m body closing inside rest
      → left_outside m front trim bytes
      ≡ Token (Content (trimmed (opening.dash_out || trim) (closing.dash_in || starts_dashed m rest) body)) (span_of front (raw_bytes m dash opening body closing)) (left_outside m (front ++ raw_bytes m dash opening body closing) closing.dash_out rest)
  raw_left front trim dash opening body closing rest bytes following inside starts opens is = piece_left front trim bytes rest (Raw dash opening body closing) (following, inside, starts, opens, is)

  pub open_raw_left : (front : List ℕ) (trim dash : Bool) (opening : WordTag) (bytes following inside : List ℕ) → Starts m.block_start dash bytes following → OpensRaw m opening following inside → IsOpenBody m inside
      → left_outside m front trim bytes ≡ Failed open_raw (span_of front (m.block_start ++ dash_bytes dash))
  open_raw_left front trim dash opening bytes following inside starts opens is = left_is front trim [] (OpenRaw dash) bytes (following, inside, opening, starts, opens, is)

  tag_left : (kind : Kind) (front : List ℕ) (trim dash : Bool) (items : List Item) (close : Close) (bytes inside : List ℕ) → Starts (start_marker kind m) dash bytes inside → OpensTag m kind inside → IsInside (end_marker kind m) items close inside
      → left_outside m front trim bytes ≡ tag_start m front kind dash (λ f. left_by m kind f items close)
  tag_left kind front trim dash items (End gap end rest) bytes inside starts opens here = piece_left front trim bytes rest (Tag kind dash items gap end) (inside, starts, opens, here)
  tag_left kind front trim dash items (Open gap) bytes inside starts opens here = left_is front trim [] (OpenTag kind dash items gap) bytes (inside, starts, opens, here)
  tag_left kind front trim dash items (Bad gap fault at) bytes inside starts opens here = left_is front trim [] (BadTag kind dash items gap fault at) bytes (inside, starts, opens, here)

  pub start_left : (kind : Kind) (front : List ℕ) (trim dash : Bool) (bytes inside : List ℕ) → Starts (start_marker kind m) dash bytes inside → OpensTag m kind inside
      → left_outside m front trim bytes ≡ tag_start m front kind dash (λ f. left_inside m kind f inside)
  start_left kind front trim dash bytes inside starts opens =
      tag_left kind front trim dash (inside_of (end_marker kind m) inside).0 (inside_of (end_marker kind m) inside).1 bytes inside starts opens (inside_sound (end_marker kind m) (suc (length inside)) inside (omega arith))

-- where a reading is
pub ahead_in : (r : Progress) (tag : Option Kind) → r.tag ≡ tag → ahead_of r ≡ left_in r.marks tag r.front r.trim r.rest
unfolding ahead_of
ahead_in r tag e = ap (λ t. left_in r.marks t r.front r.trim r.rest) e

pub going_is : (r : Progress) → r.failed ≡ false → left_of r ≡ ahead_of r
going_is r going = rw going refl

pub going_stream : (r : Progress) → r.failed ≡ false → stream_of r ≡ record { source = whole_of r; left = ahead_of r; stopped = None }
going_stream r going = rw going refl

pub failed_stream : (r : Progress) → r.failed ≡ true → stream_of r ≡ record { source = whole_of r; left = Ended; stopped = Some (ahead_of r) }
failed_stream r over = rw over refl

pub ahead_failed : (r : Progress) → ahead_of (record r { failed = true }) ≡ ahead_of r
unfolding ahead_of
ahead_failed r = refl

pub start_is : (m : Marks) (source : List ℕ) → left_of (start_of m source) ≡ left_outside m [] false source
unfolding ahead_of
start_is m source = refl

-- the tokens that are left at the start are those of the source, which are one list
pub start_tokens : (m : Marks) → IsValid m → (source : List ℕ) (r : Progress) → r ≡ start_of m source → AreTokensOf m source (left_of r)
start_tokens m valid source r start = rw (ap left_of start ∙ start_is m source) (tokens_sound m valid source)

pub tokens_one : (m : Marks) → IsValid m → (source : List ℕ) (one other : Items) → AreTokensOf m source one → AreTokensOf m source other → one ≡ other
tokens_one m valid source one other a b = tokens_found m valid source one a ∙ sym (tokens_found m valid source other b)
