-- A tag that opens no raw piece opens none with other white space.
use Rattle.std.proofs.Common.{◌≡◌, ℕ, Bool, true, false, ◌&&◌, ◌||◌, List, [], ◌∷◌, ◌++◌, Some, None, ap, sym, ◌∙◌, refl, subst, arith}
use Rattle.std.specs.Prelude.{nat_eq}
use Rattle.std.specs.List.{AllByRecursion}
use Rattle.std.specs.Char.{is_ascii_whitespace, is_ascii_digit}
use Rattle.std.proofs.lemmas.Bool.{false≢true}
use Rattle.std.proofs.lemmas.Bool.Decides.{nat_tests}
use Rattle.tera_lexer.specs.declared.lexer.delimiters.Kind.TheVariants.{Block}
use Rattle.tera_lexer.specs.grammar.Marks.{Marks, begins, dash_bytes, TakesDash}
use Rattle.tera_lexer.specs.grammar.Lexeme.{StopsAt, IsGap, begins_name, goes_on_name, is_quote, operator_at, Item, Lexeme, Name, Number, Quoted, Operator, spelled, IsLexeme, End, is_at_end, IsEnd, IsInside}
use Rattle.tera_lexer.specs.grammar.Raw.{WordTag, raw_word, OpensRaw}
use Rattle.tera_lexer.specs.grammar.Division.{OpensTag}
use Rattle.tera_lexer.specs.reading.Front.{after_run}
use Rattle.tera_lexer.proofs.Markers.{splits_begins}
use Rattle.tera_lexer.proofs.Runs.{after_found}
use Rattle.tera_lexer.proofs.Operators.{name_no_operator}
use Rattle.tera_lexer.proofs.Insides.{spelled_some}
use Rattle.tera_layout.specs.Widened.{Widens}
use Rattle.tera_layout.specs.Narrowed.{AreNarrowedAfter, AreNarrowedItems}
use Rattle.tera_layout.proofs.Likeness.{white_no_name}
use Rattle.tera_layout.proofs.Steadies.{Twelve, both, marks_by, Sign}

none_some : {A : Type 0} {a : A} → None ≡ Some a → ⊥
none_some e = cc

-- two gaps at one place are one
after_gaps : (one other a b : List ℕ) → IsGap one a → IsGap other b → one ++ a ≡ other ++ b → a ≡ b
after_gaps one other a b is are e =
    sym (after_found is_ascii_whitespace one a is) ∙ ap (after_run is_ascii_whitespace) e ∙ after_found is_ascii_whitespace other b are

abbrev word : Lexeme
word = Name 114 (97 ∷ 119 ∷ [])

-- the lexeme that is where the word does is the word
is_word : (l : Lexeme) (rest x : List ℕ) → IsLexeme l rest → StopsAt goes_on_name x → spelled l ++ rest ≡ raw_word ++ x → (l ≡ word) × (rest ≡ x)
is_word (Name b []) rest x is stops e =
    let more : rest ≡ 97 ∷ 119 ∷ x = cc in let clash = subst (StopsAt goes_on_name) more is.1.1 in absurd (false≢true (sym clash))
is_word (Name b (c ∷ [])) rest x is stops e =
    let more : rest ≡ 119 ∷ x = cc in let clash = subst (StopsAt goes_on_name) more is.1.1 in absurd (false≢true (sym clash))
is_word (Name b (c ∷ d ∷ [])) rest x is stops e =
    let one : b ≡ 114 = cc in
    let two : c ≡ 97 = cc in
    let three : d ≡ 119 = cc in
    let more : rest ≡ x = cc in ((λ i. Name (one i) (two i ∷ three i ∷ [])), more)
is_word (Name b (c ∷ d ∷ f ∷ bs)) rest x is stops e =
    let more : x ≡ f ∷ (bs ++ rest) = cc in
    let other : goes_on_name f ≡ false = subst (StopsAt goes_on_name) more stops in absurd (false≢true (sym other ∙ is.1.0.1.1.0))
is_word (Number b bs) rest x is stops e =
    let one : b ≡ 114 = cc in absurd (false≢true (subst (λ c. is_ascii_digit c ≡ true) one is.0.0))
is_word (Quoted quote inner) rest x is stops e =
    let one : quote ≡ 114 = cc in absurd (false≢true (subst (λ c. is_quote c ≡ true) one is.0.0))
is_word (Operator []) rest x is stops e = let some = spelled_some (Operator []) rest is in absurd (omega (arith, some))
is_word (Operator (b ∷ bs)) rest x is stops e =
    let one : b ≡ 114 = cc in
    let none = name_no_operator b (bs ++ rest) (subst (λ c. begins_name c ≡ true) (sym one) refl) in
    absurd (none_some (sym none ∙ is))

white_no_dash : (b : ℕ) → is_ascii_whitespace b ≡ true → nat_eq 45 b ≡ false
white_no_dash b h = grind (arith, nat_tests)

-- no dash is before the word
takes_none : (dash : Bool) (gap rest : List ℕ) → AllByRecursion (λ b. is_ascii_whitespace b ≡ true) gap → TakesDash dash (gap ++ (raw_word ++ rest))
takes_none true gap rest white = tt
takes_none false [] rest white = refl
takes_none false (b ∷ bs) rest white = rw (white_no_dash b white.0) refl

-- a dash that is first is a lexeme
is_dash : (l : Lexeme) (rest x : List ℕ) → IsLexeme l rest → spelled l ++ rest ≡ 45 ∷ x → (l ≡ Operator (45 ∷ [])) × (rest ≡ x)
is_dash (Name b bs) rest x is e = let one : b ≡ 45 = cc in absurd (false≢true (subst (λ c. begins_name c ≡ true) one is.0))
is_dash (Number b bs) rest x is e = let one : b ≡ 45 = cc in absurd (false≢true (subst (λ c. is_ascii_digit c ≡ true) one is.0.0))
is_dash (Quoted quote inner) rest x is e = let one : quote ≡ 45 = cc in absurd (false≢true (subst (λ c. is_quote c ≡ true) one is.0.0))
is_dash (Operator []) rest x is e = let some = spelled_some (Operator []) rest is in absurd (omega (arith, some))
is_dash (Operator (b ∷ bs)) rest x is e =
    let found : Some (45 ∷ []) ≡ Some (b ∷ bs) = sym (ap operator_at e) ∙ is in
    let same : 45 ∷ [] ≡ b ∷ bs = cc in
    let none : bs ≡ [] = cc in
    let more : bs ++ rest ≡ x = cc in (ap Operator (sym same), sym (ap (λ l. l ++ rest) none) ∙ more)

-- the white space around it is none
none_before : (gap rest x : List ℕ) → AllByRecursion (λ b. is_ascii_whitespace b ≡ true) gap → gap ++ rest ≡ 45 ∷ x → gap ≡ []
none_before [] rest x white e = refl
none_before (g ∷ gs) rest x white e = let one : g ≡ 45 = cc in absurd (false≢true (subst (λ c. is_ascii_whitespace c ≡ true) one white.0))

-- the same lexemes
abbrev SameLexemes : List Item → List Item → Type 0
SameLexemes [] [] = Unit {0}
SameLexemes (i ∷ is) (j ∷ js) = (j.lexeme ≡ i.lexeme) × SameLexemes is js
SameLexemes _ _ = ⊥

same_after : (m : Marks) (l : Lexeme) (is js : List Item) → AreNarrowedAfter m l is js → SameLexemes is js
same_after m l [] [] same = tt
same_after m l [] (j ∷ js) same = absurd same
same_after m l (i ∷ is) [] same = absurd same
same_after m l (i ∷ is) (j ∷ js) same = (same.1, same_after m i.lexeme is js same.2)

same_items : (m : Marks) (is js : List Item) → AreNarrowedItems m is js → SameLexemes is js
same_items m [] [] same = tt
same_items m [] (j ∷ js) same = absurd same
same_items m (i ∷ is) [] same = absurd same
same_items m (i ∷ is) (j ∷ js) same = (same.1, same_after m i.lexeme is js same.2)

-- Between markers of which the end of a statement's tag begins with a sign
module _ (t : Twelve) (sign : Sign t.block_end.one) where
  -- the end of a tag
  abbrev end : List ℕ
  end = both t.block_end

  abbrev m : Marks
  m = marks_by t

  abbrev closed : Bool → List ℕ → List ℕ
  closed dash rest = dash_bytes dash ++ (end ++ rest)

  end_is : (dash : Bool) (at rest : List ℕ) → IsEnd end dash at rest → at ≡ closed dash rest
  end_is true at rest h = h
  end_is false at rest h = h.0

  closed_no_word : (dash : Bool) (rest x : List ℕ) → closed dash rest ≡ raw_word ++ x → ⊥
  closed_no_word true rest x e = false≢true (ap (begins (114 ∷ [])) e)
  closed_no_word false rest x e =
      let one : t.block_end.one ≡ 114 = cc in false≢true (sym sign.no_name ∙ ap goes_on_name one)

  at_closed : (dash : Bool) (rest : List ℕ) → is_at_end end (closed dash rest) ≡ true
  at_closed true rest = ap (λ b. b || begins end (closed true rest)) (splits_begins (45 ∷ end) (closed true rest) rest refl)
  at_closed false rest =
      ap (λ b. (b && begins (both t.block_end) (t.block_end.two ∷ rest)) || begins end (closed false rest)) sign.no_dash
      ∙ splits_begins end (closed false rest) rest refl

  closed_stops : (dash : Bool) (rest : List ℕ) → StopsAt goes_on_name (closed dash rest)
  closed_stops true rest = refl
  closed_stops false rest = sign.no_name

  gap_stops : (gap : List ℕ) (dash : Bool) (rest : List ℕ) → IsGap gap (closed dash rest) → StopsAt goes_on_name (gap ++ closed dash rest)
  gap_stops [] dash rest h = closed_stops dash rest
  gap_stops (g ∷ gs) dash rest h = white_no_name g h.0.0

  -- where the word and the end of a tag are, the word is the one lexeme
  word_alone : (js : List Item) (new : List ℕ) (e : Bool) (s bytes before gap : List ℕ) (dash : Bool) (last : List ℕ) → IsInside end js (End new e s) bytes →
      IsGap before (raw_word ++ (gap ++ closed dash last)) → IsGap gap (closed dash last) → bytes ≡ before ++ (raw_word ++ (gap ++ closed dash last)) →
      (j : Item) × (js ≡ j ∷ []) × (j.lexeme ≡ word)
  word_alone [] new e s bytes before gap dash last (at, splits, is_gap, ends) first second is =
      absurd (closed_no_word e s (gap ++ closed dash last)
      (sym (end_is e at s ends) ∙ after_gaps new before at (raw_word ++ (gap ++ closed dash last)) is_gap first (sym splits ∙ is)))
  word_alone (j ∷ js) new e s bytes before gap dash last (rest, splits, is_gap, no_end, sound, more) first second is =
      let here = after_gaps j.gap before (spelled j.lexeme ++ rest) (raw_word ++ (gap ++ closed dash last)) is_gap first (sym splits ∙ is) in
      let (same, following) = is_word j.lexeme rest (gap ++ closed dash last) sound (gap_stops gap dash last second) here in
      (j, ap (λ x. j ∷ x) (no_more js more following), same)
    where
      no_more : (js : List Item) → IsInside end js (End new e s) rest → rest ≡ gap ++ closed dash last → js ≡ []
      no_more [] inside following = refl
      no_more (k ∷ ks) (rest', splits', is_gap', no_end', sound', more') following =
          let there = after_gaps k.gap gap (spelled k.lexeme ++ rest') (closed dash last) is_gap' second (sym splits' ∙ following) in
          absurd (false≢true (sym no_end' ∙ ap (is_at_end end) there ∙ at_closed dash last))

  out_taken : (dash : Bool) (rest : List ℕ) → TakesDash dash (end ++ rest)
  out_taken true rest = tt
  out_taken false rest = ap (λ b. b && true) sign.no_dash

  abbrev tag : Bool → List ℕ → List ℕ → Bool → WordTag
  tag dash before following out = record { dash_in = dash; before = before; following = following; dash_out = out }

  word_opens : (i : Item) (gap : List ℕ) (e : Bool) (r bytes : List ℕ) → IsInside end (i ∷ []) (End gap e r) bytes → i.lexeme ≡ word → (dash : Bool) →
      OpensRaw m (tag dash i.gap gap e) (dash_bytes dash ++ bytes) r
  word_opens i gap e r bytes (rest, splits, is_gap, no_end, sound, (at, splits', is_gap', ends)) is dash =
      let whole : bytes ≡ i.gap ++ (raw_word ++ (gap ++ closed e r)) =
      splits ∙ ap (λ l. i.gap ++ (spelled l ++ rest)) is ∙ ap (λ b. i.gap ++ (raw_word ++ b)) (splits' ∙ ap (λ b. gap ++ b) (end_is e at r ends)) in
      record {
        splits = ap (λ b. dash_bytes dash ++ b) whole;
        takes_in = takes_none dash i.gap (gap ++ closed e r) is_gap.0;
        gap_before = (is_gap.0, refl);
        gap_after = subst (IsGap gap) (end_is e at r ends) is_gap';
        takes_out = out_taken e r;
      }

  closed_dash : (e : Bool) (s x : List ℕ) → closed e s ≡ 45 ∷ x → end ++ s ≡ x
  closed_dash true s x h = cc
  closed_dash false s x h =
      let one : t.block_end.one ≡ 45 = cc in absurd (false≢true (sym sign.no_dash ∙ ap (nat_eq 45) one))

  module _ (gap new : List ℕ) (widens : Widens gap new) (e : Bool) (r s : List ℕ) where
    -- what is one word with other white space was one
    was_word : (is js : List Item) → SameLexemes is js → (j : Item) → js ≡ j ∷ [] → j.lexeme ≡ word → (old : List ℕ) → IsInside end is (End gap e r) old → (dash : Bool) →
        (w : WordTag) × OpensRaw m w (dash_bytes dash ++ old) r
    was_word [] js same j one lexeme old inside dash = let clash = subst (SameLexemes []) one same in absurd clash
    was_word (i ∷ []) js same j one lexeme old inside dash =
        let widened = subst (SameLexemes (i ∷ [])) one same in
        (tag dash i.gap gap e, word_opens i gap e r old inside (sym widened.0 ∙ lexeme) dash)
    was_word (i ∷ k ∷ is) js same j one lexeme old inside dash = let clash = subst (SameLexemes (i ∷ k ∷ is)) one same in absurd clash.1

    dash_before : (is js : List Item) → AreNarrowedItems m is js → (old bytes : List ℕ) → IsInside end is (End gap e r) old → IsInside end js (End new e s) bytes →
        (before following : List ℕ) (out : Bool) (last : List ℕ) → OpensRaw m (tag true before following out) bytes last → (w : WordTag) × OpensRaw m w old r
    dash_before [] [] same old bytes inside (at, splits, is_gap, ends) before following out last opens =
        let x = before ++ (raw_word ++ (following ++ closed out last)) in
        let none = none_before new at x is_gap.0 (sym splits ∙ opens.splits) in
        let all : at ≡ 45 ∷ x = sym (ap (λ g. g ++ at) none) ∙ sym splits ∙ opens.splits in
        let tail = closed_dash e s x (sym (end_is e at s ends) ∙ all) in
        absurd (closed_no_word false s (following ++ closed out last)
        (after_gaps [] before (end ++ s) (raw_word ++ (following ++ closed out last)) (tt, sign.solid) opens.gap_before tail))
    dash_before (i ∷ is) [] same old bytes inside new_inside before following out last opens = absurd same
    dash_before [] (j ∷ js) same old bytes inside new_inside before following out last opens = absurd same
    dash_before (i ∷ is) (j ∷ js) same old bytes (rest, splits, is_gap, no_end, sound, more) (rest', splits', is_gap', no_end', sound', more') before following out last opens =
        let x = before ++ (raw_word ++ (following ++ closed out last)) in
        let none = none_before j.gap (spelled j.lexeme ++ rest') x is_gap'.0 (sym splits' ∙ opens.splits) in
        let all : spelled j.lexeme ++ rest' ≡ 45 ∷ x = sym (ap (λ g. g ++ (spelled j.lexeme ++ rest')) none) ∙ sym splits' ∙ opens.splits in
        let (dash, tail) = is_dash j.lexeme rest' x sound' all in
        let (k, one, is_word_too) = word_alone js new e s rest' before following out last more' opens.gap_before opens.gap_after tail in
        let (w, opens_old) = was_word is js (same_after m i.lexeme is js same.2) k one is_word_too rest more true in
        let begun : old ≡ 45 ∷ rest = splits ∙ ap (λ g. g ++ (spelled i.lexeme ++ rest)) (same.0.1 none) ∙ ap (λ l. spelled l ++ rest) (sym same.1 ∙ dash) in
        (w, subst (λ b. OpensRaw m w b r) (sym begun) opens_old)

    opened_before : (is js : List Item) → AreNarrowedItems m is js → (old bytes : List ℕ) → IsInside end is (End gap e r) old → IsInside end js (End new e s) bytes →
        (dash : Bool) (before following : List ℕ) (out : Bool) (last : List ℕ) → OpensRaw m (tag dash before following out) bytes last → (w : WordTag) × OpensRaw m w old r
    opened_before is js same old bytes inside new_inside false before following out last opens =
        let (j, one, lexeme) = word_alone js new e s bytes before following out last new_inside opens.gap_before opens.gap_after opens.splits in
        was_word is js (same_items m is js same) j one lexeme old inside false
    opened_before is js same old bytes inside new_inside true before following out last opens =
        dash_before is js same old bytes inside new_inside before following out last opens

    pub opens_no_raw : (is js : List Item) → AreNarrowedItems m is js → (old bytes : List ℕ) → IsInside end is (End gap e r) old → OpensTag m Block old →
        IsInside end js (End new e s) bytes → OpensTag m Block bytes
    opens_no_raw is js same old bytes inside none new_inside = λ w last opens.
        let (u, opened) = opened_before is js same old bytes inside new_inside w.dash_in w.before w.following w.dash_out last opens in none u r opened
