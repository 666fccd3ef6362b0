-- A source whose tags have other white space, where what touches stays apart, is divided into the same pieces.
use Rattle.std.proofs.Common.{◌≡◌, ◌<◌, ℕ, Bool, true, false, not, ◌&&◌, ◌||◌, List, [], ◌∷◌, ◌++◌, length, map, inl, inr, ⊎_elim, ap, ap₂, sym, ◌∙◌, refl, subst, arith}
use Rattle.std.specs.Prelude.{nat_eq}
use Rattle.std.specs.List.{AllByRecursion}
use Rattle.std.proofs.lemmas.Bool.Decides.{nat_tests}
use Rattle.std.specs.Char.{is_ascii_whitespace}
use Rattle.tera_lexer.specs.declared.lexer.delimiters.Kind.{Kind}
use Rattle.tera_lexer.specs.declared.lexer.delimiters.Kind.TheVariants.{Variable, Block}
use Rattle.tera_lexer.specs.grammar.Marks.{Marks, IsValid, begins, dash_bytes, TakesDash}
use Rattle.tera_lexer.specs.grammar.Lexeme.{StopsAt, IsGap, Item, Lexeme, spelled, IsLexeme, End, is_at_end, IsEnd, IsInside}
use Rattle.tera_lexer.specs.grammar.Division.{is_at_start, EndsText, Piece, Text, Comment, Raw, Tag, Complete, IsPiece, IsDivision}
use Rattle.tera_lexer.specs.grammar.Raw.{raw_word, endraw_word}
use Rattle.tera_lexer.proofs.Insides.{spelled_some}
use Rattle.tera_lexer.proofs.Markers.{or_false}
use Rattle.tera_layout.specs.Respaced.{without_gap, without_gaps, IsRespaced}
use Rattle.tera_layout.specs.Apart.{last_from, first_from, in_end, may_touch_first, meet_in_end, stay_apart}
use Rattle.tera_layout.specs.Steady.{is_steady}
use Rattle.tera_layout.specs.Widened.{items_bytes, word_tag_front, piece_bytes, pieces_bytes, Widens, AreWidenedItems, IsWidened, AreWidened}
use Rattle.tera_layout.specs.Narrowed.{Narrows, AreNarrowedAfter, AreNarrowedItems, IsNarrowed, AreNarrowed}
use Rattle.tera_layout.proofs.Likeness.{joins, and_ok, not_true, Agree, agree_less, agree_after, begins_agree, nowhere_agree, dash_agree, BeginAlike, begin_after, begin_gap, Like, IsSolid, IsShort, front_not, Beside, beside_like, beside_front, lexeme_beside}
use Rattle.tera_layout.proofs.Openings.{opens_no_raw}
use Rattle.tera_layout.proofs.RawPieces.{word_tag_moved, raw_dash, body_moved}
use Rattle.tera_layout.proofs.Steadies.{Two, Twelve, both, marks_by, twelve_of, Sign, SteadyEnd, Steady, steady_of, EndOf, variable_ends, block_ends}

-- no white space begins what some bytes begin, if that was so
stops_before : (p : ℕ → Bool) (front old new : List ℕ) → 0 < length front → StopsAt p (front ++ old) → StopsAt p (front ++ new)
stops_before p [] old new some h = absurd (omega (arith, some))
stops_before p (b ∷ bs) old new some h = h

-- The inside of a tag, before an end marker
module _ (m : Marks) (t : Two) (steady : SteadyEnd t) (ends : EndOf m t) where
  abbrev marker : List ℕ
  marker = both t

  at_end_like : (front old new : List ℕ) → 0 < length front → Like m (last_from 0 front) 2 old new →
      is_at_end marker (front ++ old) ≡ false → is_at_end marker (front ++ new) ≡ false
  at_end_like front old new some h none =
      let (first, second) = or_false (begins (45 ∷ marker) (front ++ old)) (begins marker (front ++ old)) none in
      ap₂ (λ a b. a || b)
      (front_not m front (45 ∷ marker) old new some (refl, steady.solid, (ends.dashed, (ends.linked, tt))) h first)
      (front_not m front marker old new some (refl, steady.solid.1, (ends.linked, tt)) h second)

  -- the end of the tag
  abbrev closed : Bool → List ℕ → List ℕ
  closed dash rest = dash_bytes dash ++ (marker ++ rest)

  end_begins : (dash : Bool) (r s : List ℕ) → BeginAlike (closed dash r) (closed dash s)
  end_begins true r s = inr (marker ++ r, refl)
  end_begins false r s = inr (t.two ∷ r, refl)

  end_beside : (l : Lexeme) (dash : Bool) (r s : List ℕ) → Beside m l (closed dash r) (closed dash s)
  end_beside l true r s = inr (inr (marker ++ r, refl, inr (inr (t.two ∷ r, refl, tt))))
  end_beside l false r s = inr (inr (t.two ∷ r, refl, inr (inr (r, refl, tt))))

  end_sound : (dash : Bool) (s : List ℕ) → IsEnd marker dash (closed dash s) s
  end_sound true s = refl
  end_sound false s = (refl, ap (λ b. b && begins marker (t.two ∷ s)) steady.sign.no_dash)

  end_stops : (dash : Bool) (s : List ℕ) → StopsAt is_ascii_whitespace (closed dash s)
  end_stops true s = refl
  end_stops false s = steady.solid.0

  end_is : (dash : Bool) (at r : List ℕ) → IsEnd marker dash at r → at ≡ closed dash r
  end_is true at r h = h
  end_is false at r h = h.0

  -- beside a lexeme: a gap in the place of another, before the same
  beside_gap : (l : Lexeme) (gap new a b : List ℕ) → Widens gap new → Beside m l a b → Beside m l (gap ++ a) (new ++ b)
  beside_gap l gap [] a b widens h = subst (λ g. Beside m l (g ++ a) b) (sym (widens.1 refl)) h
  beside_gap l gap (w ∷ new) a b widens h = inl widens.0.0

  touching : (l : Lexeme) (text old new : List ℕ) (r : Lexeme) → text ≡ spelled r → 0 < length text → stay_apart m l r ≡ true → Beside m l old (text ++ new)
  touching l [] old new r is some apart = absurd (omega (arith, some))
  touching l (c ∷ text) old new r is some apart =
      let (touch, no_end) = and_ok (may_touch_first l (spelled r)) (not (meet_in_end m (spelled l) (spelled r))) apart in
      inr (inl (
        ap (may_touch_first l) is ∙ touch,
        ap (λ b. in_end m (last_from 0 (spelled l)) (first_from b)) is ∙ not_true (meet_in_end m (spelled l) (spelled r)) no_end,
      ))

  beside_narrow : (l r : Lexeme) (gap new a b : List ℕ) → 0 < length (spelled r) → Narrows m l r gap new → Beside m l (spelled r ++ a) (spelled r ++ b) →
      Beside m l (gap ++ (spelled r ++ a)) (new ++ (spelled r ++ b))
  beside_narrow l r gap [] a b some narrows h =
      ⊎_elim
      (λ (none : gap ≡ []). subst (λ g. Beside m l (g ++ (spelled r ++ a)) (spelled r ++ b)) (sym none) h)
      (λ (apart : stay_apart m l r ≡ true). touching l (spelled r) (gap ++ (spelled r ++ a)) b r refl some apart)
      (narrows.1 refl)
  beside_narrow l r gap (w ∷ new) a b some narrows h = inl narrows.0.0

  -- it has the same lexemes after other white space, and after a lexeme
  record After (l : Lexeme) (js : List Item) (new : List ℕ) (dash : Bool) (bytes s : List ℕ) : Type 0 where
    pub sound : IsInside marker js (End new dash s) (items_bytes js (new ++ closed dash s))
    pub beside : Beside m l bytes (items_bytes js (new ++ closed dash s))

  -- one lexeme, before those after it
  item_sound : (i j : Item) (js : List Item) (new : List ℕ) (dash : Bool) (s rest : List ℕ) → j.lexeme ≡ i.lexeme →
      AllByRecursion (λ b. is_ascii_whitespace b ≡ true) j.gap → IsGap i.gap (spelled i.lexeme ++ rest) →
      is_at_end marker (spelled i.lexeme ++ rest) ≡ false → IsLexeme i.lexeme rest → After i.lexeme js new dash rest s →
      IsInside marker (j ∷ js) (End new dash s) (items_bytes (j ∷ js) (new ++ closed dash s))
  item_sound i j js new dash s rest lexeme white is_gap no_end sound more =
      let following : List ℕ = items_bytes js (new ++ closed dash s) in
      let some = spelled_some i.lexeme rest sound in
      let front : List ℕ = spelled i.lexeme in
      let like = beside_like m i.lexeme rest following sound more.beside in
      let back : (P : Lexeme → Type 0) → P i.lexeme → P j.lexeme = λ P h. subst P (sym lexeme) h in (
        following,
        refl,
        (white, back (λ l. StopsAt is_ascii_whitespace (spelled l ++ following)) (stops_before is_ascii_whitespace front rest following some is_gap.1)),
        back (λ l. is_at_end marker (spelled l ++ following) ≡ false) (at_end_like front rest following some like no_end),
        back (λ l. IsLexeme l following) (lexeme_beside m i.lexeme rest following more.beside sound),
        more.sound,
      )

  inside_after : (l : Lexeme) (is js : List Item) → AreNarrowedAfter m l is js → (gap new : List ℕ) → Widens gap new → (dash : Bool) (r s bytes : List ℕ) →
      IsInside marker is (End gap dash r) bytes → After l js new dash bytes s
  inside_after l [] [] same gap new widens dash r s bytes (at, splits, is_gap, ends) = record {
    sound = (closed dash s, refl, (widens.0, end_stops dash s), end_sound dash s);
    beside =
        let whole : bytes ≡ gap ++ closed dash r = splits ∙ ap (λ b. gap ++ b) (end_is dash at r ends) in
        subst (λ b. Beside m l b (new ++ closed dash s)) (sym whole) (beside_gap l gap new (closed dash r) (closed dash s) widens (end_beside l dash r s));
  }
  inside_after l [] (j ∷ js) same gap new widens dash r s bytes inside = absurd same
  inside_after l (i ∷ is) [] same gap new widens dash r s bytes inside = absurd same
  inside_after l (i ∷ is) (j ∷ js) (narrow, lexeme, same) gap new widens dash r s bytes (rest, splits, is_gap, no_end, sound, inside) =
      let more = inside_after i.lexeme is js same gap new widens dash r s rest inside in
      let following : List ℕ = items_bytes js (new ++ closed dash s) in
      let some = spelled_some i.lexeme rest sound in
      let front : List ℕ = spelled i.lexeme in
      let like = beside_like m i.lexeme rest following sound more.beside in
      record {
        sound = item_sound i j js new dash s rest lexeme narrow.0 is_gap no_end sound more;
        beside = subst (λ b. Beside m l b (j.gap ++ (spelled j.lexeme ++ following))) (sym splits)
            (subst (λ k. Beside m l (i.gap ++ (front ++ rest)) (j.gap ++ (spelled k ++ following))) (sym lexeme)
            (beside_narrow l i.lexeme i.gap j.gap rest following some narrow (beside_front m l front rest following some like)));
      }

  -- the whole inside, which begins after a marker
  record Inside (js : List Item) (new : List ℕ) (dash : Bool) (bytes s : List ℕ) : Type 0 where
    pub sound : IsInside marker js (End new dash s) (items_bytes js (new ++ closed dash s))
    pub begins : BeginAlike bytes (items_bytes js (new ++ closed dash s))

  inside_like : (is js : List Item) → AreNarrowedItems m is js → (gap new : List ℕ) → Widens gap new → (dash : Bool) (r s bytes : List ℕ) →
      IsInside marker is (End gap dash r) bytes → Inside js new dash bytes s
  inside_like [] [] same gap new widens dash r s bytes (at, splits, is_gap, ends) = record {
    sound = (closed dash s, refl, (widens.0, end_stops dash s), end_sound dash s);
    begins =
        let whole : bytes ≡ gap ++ closed dash r = splits ∙ ap (λ b. gap ++ b) (end_is dash at r ends) in
        subst (λ b. BeginAlike b (new ++ closed dash s)) (sym whole) (begin_gap gap new (closed dash r) (closed dash s) widens (end_begins dash r s));
  }
  inside_like [] (j ∷ js) same gap new widens dash r s bytes inside = absurd same
  inside_like (i ∷ is) [] same gap new widens dash r s bytes inside = absurd same
  inside_like (i ∷ is) (j ∷ js) (wide, lexeme, same) gap new widens dash r s bytes (rest, splits, is_gap, no_end, sound, inside) =
      let more = inside_after i.lexeme is js same gap new widens dash r s rest inside in
      let following : List ℕ = items_bytes js (new ++ closed dash s) in
      let some = spelled_some i.lexeme rest sound in
      let front : List ℕ = spelled i.lexeme in
      record {
        sound = item_sound i j js new dash s rest lexeme wide.0 is_gap no_end sound more;
        begins = subst (λ b. BeginAlike b (j.gap ++ (spelled j.lexeme ++ following))) (sym splits)
            (subst (λ k. BeginAlike (i.gap ++ (front ++ rest)) (j.gap ++ (spelled k ++ following))) (sym lexeme)
            (begin_gap i.gap j.gap (front ++ rest) (front ++ following) wide (begin_after front rest following some)));
      }

white_no_dash : (b : ℕ) → is_ascii_whitespace b ≡ true → nat_eq 45 b ≡ false
white_no_dash b h = grind (arith, nat_tests)

takes_like : (dash : Bool) (old new : List ℕ) → BeginAlike old new → TakesDash dash old → TakesDash dash new
takes_like true old new h takes = tt
takes_like false old [] h takes = refl
takes_like false old (c ∷ new) h takes =
    ⊎_elim
    (λ (white : is_ascii_whitespace c ≡ true). rw (white_no_dash c white) refl)
    (λ (same : (more : List ℕ) × (old ≡ c ∷ more)). subst (TakesDash false) same.1 takes)
    h

-- A piece, before other bytes that begin in the same way
module _ (t : Twelve) (steady : Steady t) where
  abbrev m : Marks
  m = marks_by t

  record Moved (q : Piece) (bytes rest : List ℕ) : Type 0 where
    pub sound : IsPiece m q (piece_bytes m q rest) rest
    pub agrees : Agree 2 bytes (piece_bytes m q rest)

  start_agree : (a b : List ℕ) → Agree 2 a b → is_at_start m a ≡ is_at_start m b
  start_agree a b h = ap₂ (λ x y. x || y) (begins_agree m.variable_start a b h) (ap₂ (λ x y. x || y) (begins_agree m.block_start a b h) (begins_agree m.comment_start a b h))

  ends_agree : (a b : List ℕ) → Agree 2 a b → EndsText m a → EndsText m b
  ends_agree [] [] h ends = tt
  ends_agree [] (y ∷ b) h ends = absurd h
  ends_agree (x ∷ a) [] h ends = absurd h
  ends_agree (x ∷ a) (y ∷ b) h ends = sym (start_agree (x ∷ a) (y ∷ b) h) ∙ ends

  tag_moved : (kind : Kind) (dash : Bool) (is : List Item) (gap : List ℕ) (end : Bool) (js : List Item) (new : List ℕ) →
      AreNarrowedItems m is js → Widens gap new → (bytes r s : List ℕ) →
      IsPiece m (Tag kind dash is gap end) bytes r → Moved (Tag kind dash js new end) bytes s
  tag_moved Variable dash is gap end js new same widens bytes r s (inside, (splits, takes), opens, sound) =
      let moved = inside_like m t.variable_end steady.variable (variable_ends t) is js same gap new widens end r s inside sound in record {
        sound = (_, (refl, takes_like dash inside _ moved.begins takes), tt, moved.sound);
        agrees = subst (λ b. Agree 2 b (piece_bytes m (Tag Variable dash js new end) s)) (sym splits) (refl, (refl, tt));
      }
  tag_moved Block dash is gap end js new same widens bytes r s (inside, (splits, takes), opens, sound) =
      let moved = inside_like m t.block_end steady.block (block_ends t) is js same gap new widens end r s inside sound in record {
        sound = (_, (refl, takes_like dash inside _ moved.begins takes), opens_no_raw t steady.block.sign gap new widens end r s is js same inside _ sound opens moved.sound, moved.sound);
        agrees = subst (λ b. Agree 2 b (piece_bytes m (Tag Block dash js new end) s)) (sym splits) (refl, (refl, tt));
      }

  piece_moved : (p q : Piece) → IsNarrowed m p q → (bytes r s : List ℕ) → Agree 2 r s → IsPiece m p bytes r → Moved q bytes s
  piece_moved (Text text) q w bytes r s h (splits, some, nowhere, ends) = subst (λ x. Moved x bytes s) (sym w) (record {
    sound = (refl, some, nowhere_agree (is_at_start m) start_agree text r s (agree_less 1 r s h) nowhere, ends_agree r s h ends);
    agrees = subst (λ b. Agree 2 b (text ++ s)) (sym splits) (agree_after 2 text r s h);
  })
  piece_moved (Comment dash inside) q w bytes r s h (following, (splits, takes), is, nowhere) = subst (λ x. Moved x bytes s) (sym w) (record {
    sound = (
      inside ++ (m.comment_end ++ s),
      (refl, dash_agree dash (inside ++ (m.comment_end ++ r)) (inside ++ (m.comment_end ++ s)) (agree_after 1 inside (m.comment_end ++ r) (m.comment_end ++ s) (refl, tt)) (subst (TakesDash dash) is takes)),
      refl,
      nowhere_agree (begins m.comment_end) (begins_agree m.comment_end) inside (m.comment_end ++ r) (m.comment_end ++ s) (refl, tt) nowhere,
    );
    agrees = subst (λ b. Agree 2 b (piece_bytes m (Comment dash inside) s)) (sym splits) (refl, (refl, tt));
  })
  piece_moved (Raw dash opening body closing) q w bytes r s h (following, inside, (splits, takes), opens, body_is) = subst (λ x. Moved x bytes s) (sym w) (record {
    sound =
        let whole = body ++ (m.block_start ++ word_tag_front endraw_word m.block_end closing s) in (
          word_tag_front raw_word m.block_end opening whole,
          whole,
          (refl, raw_dash t steady.start steady.block.sign dash opening following inside whole opens takes),
          word_tag_moved t steady.start steady.block.sign 114 (97 ∷ 119 ∷ []) refl opening following inside whole opens,
          body_moved t steady.start steady.block.sign body closing inside r s body_is,
        );
    agrees = subst (λ b. Agree 2 b (piece_bytes m (Raw dash opening body closing) s)) (sym splits) (refl, (refl, tt));
  })
  piece_moved (Tag kind dash is gap end) q (js, new, same_piece, same, widens) bytes r s h piece =
      subst (λ x. Moved x bytes s) (sym same_piece) (tag_moved kind dash is gap end js new same widens bytes r s piece)

  -- The pieces
  record Divided (qs : List Piece) (bytes : List ℕ) : Type 0 where
    pub divides : IsDivision m qs Complete (pieces_bytes m qs)
    pub agrees : Agree 2 bytes (pieces_bytes m qs)

  divided : (ps qs : List Piece) → AreNarrowed m ps qs → (bytes : List ℕ) → IsDivision m ps Complete bytes → Divided qs bytes
  divided [] [] w bytes h = record { divides = refl; agrees = subst (λ b. Agree 2 b []) (sym h) tt }
  divided [] (q ∷ qs) w bytes h = absurd w
  divided (p ∷ ps) [] w bytes h = absurd w
  divided (p ∷ ps) (q ∷ qs) w bytes (rest, piece, more) =
      let d = divided ps qs w.1 rest more in
      let moved = piece_moved p q w.0 bytes rest (pieces_bytes m qs) d.agrees piece in
      record { divides = (pieces_bytes m qs, moved.sound, d.divides); agrees = moved.agrees }

after_same : (m : Marks) (l : Lexeme) (is js : List Item) → AreNarrowedAfter m l is js → map without_gap is ≡ map without_gap js
after_same m l [] [] w = refl
after_same m l [] (j ∷ js) w = absurd w
after_same m l (i ∷ is) [] w = absurd w
after_same m l (i ∷ is) (j ∷ js) w = ap₂ (λ k ks. record { gap = []; lexeme = k } ∷ ks) (sym w.1) (after_same m i.lexeme is js w.2)

items_same : (m : Marks) (is js : List Item) → AreNarrowedItems m is js → map without_gap is ≡ map without_gap js
items_same m [] [] w = refl
items_same m [] (j ∷ js) w = absurd w
items_same m (i ∷ is) [] w = absurd w
items_same m (i ∷ is) (j ∷ js) w = ap₂ (λ k ks. record { gap = []; lexeme = k } ∷ ks) (sym w.1) (after_same m i.lexeme is js w.2)

piece_same : (m : Marks) (p q : Piece) → IsNarrowed m p q → without_gaps p ≡ without_gaps q
piece_same m (Text text) q w = ap without_gaps (sym w)
piece_same m (Comment dash inside) q w = ap without_gaps (sym w)
piece_same m (Raw dash opening body closing) q w = ap without_gaps (sym w)
piece_same m (Tag kind dash is gap end) q (js, new, same_piece, same, widens) =
    ap (λ x. Tag kind dash x [] end) (items_same m is js same) ∙ ap without_gaps (sym same_piece)

pieces_same : (m : Marks) (ps qs : List Piece) → AreNarrowed m ps qs → map without_gaps ps ≡ map without_gaps qs
pieces_same m [] [] w = refl
pieces_same m [] (q ∷ qs) w = absurd w
pieces_same m (p ∷ ps) [] w = absurd w
pieces_same m (p ∷ ps) (q ∷ qs) w = ap₂ (λ x xs. x ∷ xs) (piece_same m p q w.0) (pieces_same m ps qs w.1)

-- So it is between all steady markers
module _ (m : Marks) (valid : IsValid m) (steady : is_steady m ≡ true) where
  pub narrowed_divides : (ps qs : List Piece) (one : List ℕ) → IsDivision m ps Complete one → AreNarrowed m ps qs →
      IsDivision m qs Complete (pieces_bytes m qs)
  narrowed_divides ps qs one h w =
      let (t, is) = twelve_of m valid in
      subst (λ n. is_steady n ≡ true → IsDivision n ps Complete one → AreNarrowed n ps qs → IsDivision n qs Complete (pieces_bytes n qs)) (sym is)
      (λ known divides narrow. (divided t (steady_of t known) ps qs narrow one divides).divides) steady h w

  pub narrowed_respaced : (ps qs : List Piece) (one : List ℕ) → IsDivision m ps Complete one → AreNarrowed m ps qs →
      IsRespaced m one (pieces_bytes m qs)
  narrowed_respaced ps qs one h w = (ps, qs, h, narrowed_divides ps qs one h w, pieces_same m ps qs w)

-- What has other white space only where it had some is so
pub widens_narrows : (m : Marks) (l r : Lexeme) (gap new : List ℕ) → Widens gap new → Narrows m l r gap new
widens_narrows m l r gap new widens = (widens.0, λ none. inl (widens.1 none))

after_narrowed : (m : Marks) (l : Lexeme) (is js : List Item) → AreWidenedItems is js → AreNarrowedAfter m l is js
after_narrowed m l [] [] w = tt
after_narrowed m l [] (j ∷ js) w = absurd w
after_narrowed m l (i ∷ is) [] w = absurd w
after_narrowed m l (i ∷ is) (j ∷ js) w = (widens_narrows m l i.lexeme i.gap j.gap w.0, w.1, after_narrowed m i.lexeme is js w.2)

items_narrowed : (m : Marks) (is js : List Item) → AreWidenedItems is js → AreNarrowedItems m is js
items_narrowed m [] [] w = tt
items_narrowed m [] (j ∷ js) w = absurd w
items_narrowed m (i ∷ is) [] w = absurd w
items_narrowed m (i ∷ is) (j ∷ js) w = (w.0, w.1, after_narrowed m i.lexeme is js w.2)

piece_narrowed : (m : Marks) (p q : Piece) → IsWidened p q → IsNarrowed m p q
piece_narrowed m (Text text) q w = w
piece_narrowed m (Comment dash inside) q w = w
piece_narrowed m (Raw dash opening body closing) q w = w
piece_narrowed m (Tag kind dash is gap end) q (js, new, same_piece, same, widens) = (js, new, same_piece, items_narrowed m is js same, widens)

pieces_narrowed : (m : Marks) (ps qs : List Piece) → AreWidened ps qs → AreNarrowed m ps qs
pieces_narrowed m [] [] w = tt
pieces_narrowed m [] (q ∷ qs) w = absurd w
pieces_narrowed m (p ∷ ps) [] w = absurd w
pieces_narrowed m (p ∷ ps) (q ∷ qs) w = (piece_narrowed m p q w.0, pieces_narrowed m ps qs w.1)

pub widened_respaced : (m : Marks) → IsValid m → is_steady m ≡ true → (ps qs : List Piece) (one : List ℕ) → IsDivision m ps Complete one →
    AreWidened ps qs → IsRespaced m one (pieces_bytes m qs)
widened_respaced m valid steady ps qs one h w = narrowed_respaced m valid steady ps qs one h (pieces_narrowed m ps qs w)
