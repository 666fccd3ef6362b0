-- The layout changes white space in tags alone, and what has it is as it was.
use Rattle.std.specs.Prelude.{if◌then◌else◌}
use Rattle.std.proofs.Common.{◌≡◌, ℕ, suc, Bool, true, false, not, List, [], ◌∷◌, ◌++◌, length, map, Some, ◌↔◌, inr, ⊎_elim, sym, ap, ap₂, ◌∙◌, refl, subst, arith}
use Rattle.std.specs.List.{AllByRecursion}
use Rattle.std.specs.Char.{is_ascii_whitespace}
use Rattle.std.proofs.lemmas.Bool.{cases_Bool}
use Rattle.std.proofs.lemmas.Option.{same_Some}
use Rattle.tera_lexer.specs.grammar.Marks.{Marks, IsValid, default_marks, start_marker, end_marker, dash_bytes}
use Rattle.tera_lexer.specs.grammar.Lexeme.{Item, Lexeme, spelled, IsLexeme, End, IsInside}
use Rattle.tera_lexer.specs.grammar.Tokens.{token_of}
use Rattle.tera_lexer.specs.grammar.Division.{Piece, Text, Comment, Raw, Tag, Ending, Complete, OpenTag, BadTag, OpenRaw, OpenComment, IsPiece, IsDivision}
use Rattle.tera_lexer.specs.reading.Front.{division_of}
use Rattle.tera_lexer.proofs.Divisions.{division_sound, division_found}
use Rattle.tera_layout.specs.Respaced.{IsRespaced}
use Rattle.tera_layout.specs.Apart.{may_touch_first, meet_in_end, stay_apart}
use Rattle.tera_layout.specs.Steady.{is_steady}
use Rattle.tera_layout.specs.Widened.{pieces_bytes, Widens}
use Rattle.tera_layout.specs.Narrowed.{Narrows, AreNarrowedAfter, AreNarrowedItems, IsNarrowed, AreNarrowed}
use Rattle.tera_layout.specs.declared.sides.Side.{Side}
use Rattle.tera_layout.specs.declared.sides.Left.{Left}
use Rattle.tera_layout.specs.declared.sides.Join.{Join}
use Rattle.tera_layout.specs.declared.sides.Join.TheVariants.{Space, Nothing, Kept}
use Rattle.tera_layout.specs.Sides.{side_of, are_together, are_apart, placed, is_start, at_start, following}
use Rattle.tera_layout.specs.Layout.{has_line_feed, laid_edge, laid_gap, join_inside, unless_end, join_after, laid_items, laid_piece, laid_pieces, IsLaidOut, laid_out_by, laid_out}
use Rattle.tera_layout.proofs.Narrowed.{widens_narrows, narrowed_respaced, narrowed_divides}
use Rattle.tera_layout.proofs.Steadies.{pair_true}
use Rattle.tera_layout.proofs.Together.{together_apart}

-- It narrows
abbrev AreWhite : List ℕ → Type 0
AreWhite gap = AllByRecursion (λ b. is_ascii_whitespace b ≡ true) gap

edge_widens : (gap : List ℕ) → AreWhite gap → Widens gap (laid_edge gap)
edge_widens gap white = ⊎_elim (λ kept. rw kept (white, λ e. e)) (λ one. rw one ((refl, tt), λ e. cc)) (cases_Bool (has_line_feed gap))

kept_widens : (gap : List ℕ) → AreWhite gap → Widens gap (laid_gap Kept gap)
kept_widens [] white = (tt, λ e. refl)
kept_widens (b ∷ bs) white = edge_widens (b ∷ bs) white

none_white : (gap : List ℕ) → AreWhite gap → AreWhite (laid_gap Nothing gap)
none_white gap white = ⊎_elim (λ kept. rw kept white) (λ none. rw none tt) (cases_Bool (has_line_feed gap))

-- a gap between two lexemes
gap_narrows : (m : Marks) (l r : Lexeme) (gap : List ℕ) (join : Join) → AreWhite gap → (join ≡ Nothing → stay_apart m l r ≡ true) → Narrows m l r gap (laid_gap join gap)
gap_narrows m l r gap Space white apart = widens_narrows m l r gap (laid_edge gap) (edge_widens gap white)
gap_narrows m l r gap Nothing white apart = (none_white gap white, λ none. inr (apart refl))
gap_narrows m l r gap Kept white apart = widens_narrows m l r gap (laid_gap Kept gap) (kept_widens gap white)

nothing_joins : (start together apart : Bool) → (if start then Space else (if together then Nothing else (if apart then Space else Kept))) ≡ Nothing → together ≡ true
nothing_joins true together apart h = cc
nothing_joins false true apart h = refl
nothing_joins false false true h = cc
nothing_joins false false false h = cc

-- where nothing joins, no end of a tag comes of it
unless_nothing : (join : Join) (ends : Bool) → unless_end join ends ≡ Nothing → (join ≡ Nothing) × (not ends ≡ true)
unless_nothing Space ends h = cc
unless_nothing Kept ends h = cc
unless_nothing Nothing true h = cc
unless_nothing Nothing false h = (refl, refl)

unless_same : (join : Join) (ends : Bool) → (join ≡ Nothing → ends ≡ false) → unless_end join ends ≡ join
unless_same Space ends h = refl
unless_same Kept ends h = refl
unless_same Nothing ends h = rw (h refl) refl

-- between the default markers an end of a tag never comes of it
pub default_joins : (l r : Lexeme) (more rest : List ℕ) (before : Left) → IsLexeme l more → IsLexeme r rest →
    join_after default_marks (spelled l) (following before (token_of l)) r ≡ join_inside (following before (token_of l)) (token_of r)
default_joins l r more rest before left_is right_is =
    let left : Left = following before (token_of l) in
    let right : Side = placed left (side_of (token_of r)) in
    unless_same (join_inside left (token_of r)) (meet_in_end default_marks (spelled l) (spelled r))
    (λ none. (together_apart l r more rest left_is right_is before left refl
    (nothing_joins (is_start left.side) (are_together left.side right) (are_apart left.side right) none)).no_end)

-- the items of a tag, and the gap before its end
module _ (m : Marks) (end gap rest : List ℕ) (dash : Bool) where
  end_white : (is : List Item) (bytes : List ℕ) → IsInside end is (End gap dash rest) bytes → AreWhite gap
  end_white [] bytes (at, splits, is_gap, ends) = is_gap.0
  end_white (i ∷ is) bytes (following, splits, is_gap, no_end, sound, inside) = end_white is following inside

  others_narrow : (l : Lexeme) (after : List ℕ) → IsLexeme l after → (before left : Left) → left.side ≡ placed before (side_of (token_of l)) →
      (is : List Item) (bytes : List ℕ) →
      IsInside end is (End gap dash rest) bytes → AreNarrowedAfter m l is (laid_items m (spelled l) left is)
  others_narrow l after is_lexeme before left side [] bytes inside = tt
  others_narrow l after is_lexeme before left side (i ∷ is) bytes (more, splits, is_gap, no_end, sound, inside) =
      let right : Side = placed left (side_of (token_of i.lexeme)) in
      let join : Join = join_inside left (token_of i.lexeme) in
      let ends : Bool = meet_in_end m (spelled l) (spelled i.lexeme) in
      let touch : join ≡ Nothing → may_touch_first l (spelled i.lexeme) ≡ true =
      λ none. (together_apart l i.lexeme after more is_lexeme sound before left side
      (nothing_joins (is_start left.side) (are_together left.side right) (are_apart left.side right) none)).touch in
      let apart : unless_end join ends ≡ Nothing → stay_apart m l i.lexeme ≡ true =
      λ none. let (nothing, no_end) = unless_nothing join ends none in pair_true (may_touch_first l (spelled i.lexeme)) (not ends) (touch nothing) no_end in (
        gap_narrows m l i.lexeme i.gap (unless_end join ends) is_gap.0 apart,
        refl,
        others_narrow i.lexeme more sound left (following left (token_of i.lexeme)) refl is more inside,
      )

  items_narrow : (before : List ℕ) (is : List Item) (bytes : List ℕ) → IsInside end is (End gap dash rest) bytes →
      AreNarrowedItems m is (laid_items m before at_start is)
  items_narrow before [] bytes inside = tt
  items_narrow before (i ∷ is) bytes (more, splits, is_gap, no_end, sound, inside) = (
    edge_widens i.gap is_gap.0,
    refl,
    others_narrow i.lexeme more sound at_start (following at_start (token_of i.lexeme)) refl is more inside,
  )

piece_narrows : (m : Marks) (p : Piece) (bytes rest : List ℕ) → IsPiece m p bytes rest → IsNarrowed m p (laid_piece m p)
piece_narrows m (Text text) bytes rest h = refl
piece_narrows m (Comment dash inside) bytes rest h = refl
piece_narrows m (Raw dash opening body closing) bytes rest h = refl
piece_narrows m (Tag kind dash items gap last) bytes rest (inside, starts, opens, sound) =
    let end : List ℕ = end_marker kind m in
    let before : List ℕ = start_marker kind m ++ dash_bytes dash in (
      laid_items m before at_start items,
      laid_edge gap,
      refl,
      items_narrow m end gap rest last before items inside sound,
      edge_widens gap (end_white m end gap rest last items inside sound),
    )

pieces_narrow : (m : Marks) (ps : List Piece) (one : List ℕ) → IsDivision m ps Complete one → AreNarrowed m ps (laid_pieces m ps)
pieces_narrow m [] one h = tt
pieces_narrow m (p ∷ ps) one (rest, piece, more) = (piece_narrows m p one rest piece, pieces_narrow m ps rest more)

-- Twice is as once
edge_twice : (gap : List ℕ) → laid_edge (laid_edge gap) ≡ laid_edge gap
edge_twice gap = ⊎_elim (λ (kept : has_line_feed gap ≡ true). rw (kept, kept) refl) (λ one. rw one refl) (cases_Bool (has_line_feed gap))

kept_twice : (b : ℕ) (bs : List ℕ) → laid_gap Kept (laid_edge (b ∷ bs)) ≡ laid_edge (b ∷ bs)
kept_twice b bs = ⊎_elim (λ (kept : has_line_feed (b ∷ bs) ≡ true). rw (kept, kept) refl) (λ one. rw one refl) (cases_Bool (has_line_feed (b ∷ bs)))

gap_twice : (join : Join) (gap : List ℕ) → laid_gap join (laid_gap join gap) ≡ laid_gap join gap
gap_twice Space gap = edge_twice gap
gap_twice Nothing gap = ⊎_elim (λ (kept : has_line_feed gap ≡ true). rw (kept, kept) refl) (λ one. rw one refl) (cases_Bool (has_line_feed gap))
gap_twice Kept [] = refl
gap_twice Kept (b ∷ bs) = kept_twice b bs

items_twice : (m : Marks) (before : List ℕ) (l : Left) (is : List Item) → laid_items m before l (laid_items m before l is) ≡ laid_items m before l is
items_twice m before l [] = refl
items_twice m before l (i ∷ is) =
    ap₂ (λ g js. record { gap = g; lexeme = i.lexeme } ∷ js) (gap_twice (join_after m before l i.lexeme) i.gap)
    (items_twice m (spelled i.lexeme) (following l (token_of i.lexeme)) is)

piece_twice : (m : Marks) (p : Piece) → laid_piece m (laid_piece m p) ≡ laid_piece m p
piece_twice m (Text text) = refl
piece_twice m (Comment dash inside) = refl
piece_twice m (Raw dash opening body closing) = refl
piece_twice m (Tag kind dash items gap end) =
    ap₂ (λ js g. Tag kind dash js g end) (items_twice m (start_marker kind m ++ dash_bytes dash) at_start items) (edge_twice gap)

pieces_twice : (m : Marks) (ps : List Piece) → laid_pieces m (laid_pieces m ps) ≡ laid_pieces m ps
pieces_twice m [] = refl
pieces_twice m (p ∷ ps) = ap₂ (λ x xs. x ∷ xs) (piece_twice m p) (pieces_twice m ps)

-- the layout is divided into the pieces that are laid out
module _ (m : Marks) (valid : IsValid m) (steady : is_steady m ≡ true) where
  pub laid_respaced : (one other : List ℕ) → IsLaidOut m one other → IsRespaced m one other
  laid_respaced one other (ps, h, is) =
      subst (IsRespaced m one) (sym is) (narrowed_respaced m valid steady ps (laid_pieces m ps) one h (pieces_narrow m ps one h))

  laid_divides : (ps : List Piece) (one other : List ℕ) → IsDivision m ps Complete one →
      other ≡ pieces_bytes m (laid_pieces m ps) → IsDivision m (laid_pieces m ps) Complete other
  laid_divides ps one other h is =
      subst (IsDivision m (laid_pieces m ps) Complete) (sym is)
      (narrowed_divides m valid steady ps (laid_pieces m ps) one h (pieces_narrow m ps one h))

  one_division : (ps qs : List Piece) (bytes : List ℕ) → IsDivision m ps Complete bytes → IsDivision m qs Complete bytes → ps ≡ qs
  one_division ps qs bytes h k =
      ap (λ d. d.0)
      (sym (division_found m valid ps Complete (suc (length bytes)) bytes h (omega arith))
      ∙ division_found m valid qs Complete (suc (length bytes)) bytes k (omega arith))

  pub laid_twice : (one other third : List ℕ) → IsLaidOut m one other → IsLaidOut m other third → third ≡ other
  laid_twice one other third (ps, h, is) (qs, k, is_too) =
      let same = one_division qs (laid_pieces m ps) other k (laid_divides ps one other h is) in
      is_too ∙ ap (λ rs. pieces_bytes m (laid_pieces m rs)) same ∙ ap (pieces_bytes m) (pieces_twice m ps) ∙ sym is

  pub laid_settled : (one other : List ℕ) → IsLaidOut m one other → IsLaidOut m other other
  laid_settled one other (ps, h, is) =
      (laid_pieces m ps, laid_divides ps one other h is, is ∙ sym (ap (pieces_bytes m) (pieces_twice m ps)))

pub layout_of : (m : Marks) (ps : List Piece) (one : List ℕ) → IsDivision m ps Complete one → (other : List ℕ) × IsLaidOut m one other
layout_of m ps one h = (pieces_bytes m (laid_pieces m ps), (ps, h, refl))

-- The function lays out what can be laid out
laid_by : (m : Marks) (one other : List ℕ) (ps : List Piece) (ending : Ending) → IsDivision m ps ending one →
    laid_out_by m (ps, ending) ≡ Some other → IsLaidOut m one other
laid_by m one other ps Complete h e = (ps, h, sym (same_Some _ _ e))
laid_by m one other ps (OpenTag kind dash items gap) h e = cc
laid_by m one other ps (BadTag kind dash items gap fault at) h e = cc
laid_by m one other ps (OpenRaw dash) h e = cc
laid_by m one other ps (OpenComment dash) h e = cc

pub laid_out_is : (m : Marks) → IsValid m → (one other : List ℕ) → (laid_out m one ≡ Some other) ↔ IsLaidOut m one other
laid_out_is m valid one other = (
  laid_by m one other (division_of m one).0 (division_of m one).1
      (division_sound m valid (suc (length one)) one (omega arith)),
  λ (ps, h, is). ap (laid_out_by m) (division_found m valid ps Complete (suc (length one)) one h (omega arith)) ∙ ap Some (sym is),
)
