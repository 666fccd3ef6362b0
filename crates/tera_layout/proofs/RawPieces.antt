-- A raw piece, before other bytes.
use Rattle.std.proofs.Common.{◌≡◌, ℕ, Bool, true, false, List, [], ◌∷◌, ◌++◌, append_assoc, ap, sym, ◌∙◌, refl, subst, ⊎_elim, codes, arith}
use Rattle.std.specs.List.{AllByRecursion}
use Rattle.std.specs.Char.{is_ascii_whitespace}
use Rattle.std.proofs.lemmas.Bool.{cases_Bool, eqb-true, eq-eqb, false≢true}
use Rattle.std.specs.Prelude.{nat_eq}
use Rattle.tera_lexer.specs.grammar.Marks.{Marks, begins, dash_bytes, TakesDash}
use Rattle.tera_lexer.specs.grammar.Lexeme.{StopsAt, goes_on_name}
use Rattle.tera_lexer.specs.grammar.Raw.{WordTag, IsWordTag, raw_word, endraw_word, OpensRaw, ClosesRaw, ClosesNothing, body_of, AreParts, IsBody}
use Rattle.tera_layout.specs.Widened.{word_tag_front}
use Rattle.tera_layout.proofs.Likeness.{agree_after, begins_agree, nowhere_agree, dash_agree}
use Rattle.tera_layout.proofs.Steadies.{Two, Twelve, both, marks_by, Sign}

-- a byte that passes no test that another does is not that one
other_byte : (p : ℕ → Bool) (a b : ℕ) → p a ≡ true → p b ≡ false → nat_eq a b ≡ false
other_byte p a b passes fails =
    ⊎_elim
    (λ (same : nat_eq a b ≡ true). absurd (false≢true (sym fails ∙ ap p (sym (eqb-true a b same)) ∙ passes)))
    (λ other. other) (cases_Bool (nat_eq a b))

-- what is in front of the end of a tag that holds a word
abbrev front_of : List ℕ → WordTag → List ℕ
front_of word t = dash_bytes t.dash_in ++ (t.before ++ (word ++ (t.following ++ dash_bytes t.dash_out)))

front_splits : (word : List ℕ) (t : WordTag) (z : List ℕ) →
    front_of word t ++ z ≡ dash_bytes t.dash_in ++ (t.before ++ (word ++ (t.following ++ (dash_bytes t.dash_out ++ z))))
front_splits word t z =
    append_assoc (dash_bytes t.dash_in) (t.before ++ (word ++ (t.following ++ dash_bytes t.dash_out))) z
    ∙ ap (λ l. dash_bytes t.dash_in ++ l) (append_assoc t.before (word ++ (t.following ++ dash_bytes t.dash_out)) z
    ∙ ap (λ l. t.before ++ l) (append_assoc word (t.following ++ dash_bytes t.dash_out) z
    ∙ ap (λ l. word ++ l) (append_assoc t.following (dash_bytes t.dash_out) z)))

same_after : (xs a b : List ℕ) → xs ++ a ≡ xs ++ b → a ≡ b
same_after [] a b e = e
same_after (x ∷ xs) a b e = let more : xs ++ a ≡ xs ++ b = cc in same_after xs a b more

-- Between markers of which the start of a statement's tag and its end begin with a sign
module _ (t : Twelve) (start_sign : Sign t.block_start.one) (end_sign : Sign t.block_end.one) where
  abbrev m : Marks
  m = marks_by t

  abbrev start : List ℕ
  start = both t.block_start

  abbrev end : List ℕ
  end = both t.block_end

  -- a tag that holds a word, before other bytes
  gap_stops : (dash : Bool) (r s : List ℕ) → StopsAt is_ascii_whitespace (dash_bytes dash ++ (end ++ r)) → StopsAt is_ascii_whitespace (dash_bytes dash ++ (end ++ s))
  gap_stops true r s h = h
  gap_stops false r s h = h

  out_taken : (dash : Bool) (r s : List ℕ) → TakesDash dash (end ++ r) → TakesDash dash (end ++ s)
  out_taken true r s h = tt
  out_taken false r s h = h

  module _ (w : ℕ) (ws : List ℕ) (solid : is_ascii_whitespace w ≡ false) where
    pub word_tag_moved : (o : WordTag) (bytes r s : List ℕ) → IsWordTag (w ∷ ws) end o bytes r →
        IsWordTag (w ∷ ws) end o (word_tag_front (w ∷ ws) end o s) s
    word_tag_moved o bytes r s h =
        let old = (w ∷ ws) ++ (o.following ++ (dash_bytes o.dash_out ++ (end ++ r))) in
        let new = (w ∷ ws) ++ (o.following ++ (dash_bytes o.dash_out ++ (end ++ s))) in record {
          splits = refl;
          takes_in = dash_agree o.dash_in (o.before ++ old) (o.before ++ new) (agree_after 1 o.before old new (refl, tt)) h.takes_in;
          gap_before = (h.gap_before.0, solid);
          gap_after = (h.gap_after.0, gap_stops o.dash_out r s h.gap_after.1);
          takes_out = out_taken o.dash_out r s h.takes_out;
        }

  -- the dash before it
  pub raw_dash : (dash : Bool) (o : WordTag) (bytes r s : List ℕ) → OpensRaw m o bytes r → TakesDash dash bytes →
      TakesDash dash (word_tag_front raw_word end o s)
  raw_dash dash o bytes r s h takes =
      let old = raw_word ++ (o.following ++ (dash_bytes o.dash_out ++ (end ++ r))) in
      let new = raw_word ++ (o.following ++ (dash_bytes o.dash_out ++ (end ++ s))) in
      dash_agree dash (dash_bytes o.dash_in ++ (o.before ++ old)) (dash_bytes o.dash_in ++ (o.before ++ new))
      (agree_after 1 (dash_bytes o.dash_in) (o.before ++ old) (o.before ++ new) (agree_after 1 o.before old new (refl, tt))) (subst (TakesDash dash) h.splits takes)

  -- Bytes without the first byte of a start are before the first one
  abbrev HasNoStart : List ℕ → Type 0
  HasNoStart bytes = AllByRecursion (λ b. nat_eq b t.block_start.one ≡ false) bytes

  startless : (xs ys : List ℕ) → HasNoStart xs → HasNoStart ys → HasNoStart (xs ++ ys)
  startless [] ys h g = g
  startless (x ∷ xs) ys h g = (h.0, startless xs ys h.1 g)

  dash_startless : (dash : Bool) → HasNoStart (dash_bytes dash)
  dash_startless true = (start_sign.no_dash, tt)
  dash_startless false = tt

  gap_startless : (gap : List ℕ) → AllByRecursion (λ b. is_ascii_whitespace b ≡ true) gap → HasNoStart gap
  gap_startless [] h = tt
  gap_startless (b ∷ bs) h = (other_byte is_ascii_whitespace b t.block_start.one h.0 start_sign.solid, gap_startless bs h.1)

  letter : (b : ℕ) → goes_on_name b ≡ true → nat_eq b t.block_start.one ≡ false
  letter b h = other_byte goes_on_name b t.block_start.one h start_sign.no_name

  front_startless : (o : WordTag) (bytes r : List ℕ) → ClosesRaw m o bytes r → HasNoStart (front_of endraw_word o)
  front_startless o bytes r h =
      startless (dash_bytes o.dash_in) _ (dash_startless o.dash_in)
      (startless o.before _ (gap_startless o.before h.gap_before.0)
      (startless endraw_word _
      (letter 101 refl, (letter 110 refl, (letter 100 refl, (letter 114 refl, (letter 97 refl, (letter 119 refl, tt))))))
      (startless o.following _ (gap_startless o.following h.gap_after.0) (dash_startless o.dash_out))))

  before_start : (xs bytes rest more : List ℕ) → HasNoStart xs → xs ++ rest ≡ bytes ++ (start ++ more) → (between : List ℕ) × (bytes ≡ xs ++ between)
  before_start [] bytes rest more none e = (bytes, refl)
  before_start (x ∷ xs) [] rest more none e =
      let same : x ≡ t.block_start.one = cc in absurd (false≢true (sym none.0 ∙ eq-eqb x t.block_start.one same))
  before_start (x ∷ xs) (b ∷ bytes) rest more none e =
      let same : b ≡ x = cc in
      let following : xs ++ rest ≡ bytes ++ (start ++ more) = cc in
      let (between, is) = before_start xs bytes rest more none.1 following in (between, λ i. same i ∷ is i)

  -- an end that begins before a start, or with it, ends with it at the latest
  end_within : (between rest more : List ℕ) → end ++ rest ≡ between ++ (start ++ more) →
      (last : List ℕ) × ((z : List ℕ) → end ++ (last ++ z) ≡ between ++ (start ++ z))
  end_within [] rest more e =
      let one : t.block_end.one ≡ t.block_start.one = cc in
      let two : t.block_end.two ≡ t.block_start.two = cc in ([], λ z i. one i ∷ two i ∷ z)
  end_within (b ∷ []) rest more e =
      let one : t.block_end.one ≡ b = cc in
      let two : t.block_end.two ≡ t.block_start.one = cc in (t.block_start.two ∷ [], λ z i. one i ∷ two i ∷ t.block_start.two ∷ z)
  end_within (b ∷ c ∷ between) rest more e =
      let one : t.block_end.one ≡ b = cc in
      let two : t.block_end.two ≡ c = cc in (
        between ++ start,
        λ z. ap (λ l. t.block_end.one ∷ t.block_end.two ∷ l) (append_assoc between start z) ∙ (λ i. one i ∷ two i ∷ (between ++ (start ++ z))),
      )

  -- nothing closes there, whatever follows a start
  closes_nothing : (bytes x y : List ℕ) → ClosesNothing m (bytes ++ (start ++ x)) → ClosesNothing m (bytes ++ (start ++ y))
  closes_nothing bytes x y none = λ o rest closes.
      let front : List ℕ = front_of endraw_word o in
      let whole : front ++ (end ++ rest) ≡ bytes ++ (start ++ y) = front_splits endraw_word o (end ++ rest) ∙ sym closes.splits in
      let (between, is) = before_start front bytes (end ++ rest) y (front_startless o (bytes ++ (start ++ y)) rest closes) whole in
      let tail : end ++ rest ≡ between ++ (start ++ y) =
      same_after front (end ++ rest) (between ++ (start ++ y))
      (whole ∙ ap (λ l. l ++ (start ++ y)) is ∙ append_assoc front between (start ++ y)) in
      let (last, ends) = end_within between rest y tail in
      let moved = word_tag_moved 101 (codes "ndraw") refl o (bytes ++ (start ++ y)) rest (last ++ x) closes in
      let same : word_tag_front endraw_word end o (last ++ x) ≡ bytes ++ (start ++ x) =
      sym (front_splits endraw_word o (end ++ (last ++ x))) ∙ ap (λ l. front ++ l) (ends x)
      ∙ sym (append_assoc front between (start ++ x)) ∙ ap (λ l. l ++ (start ++ x)) (sym is) in
      none o (last ++ x) (subst (λ b. ClosesRaw m o b (last ++ x)) same moved)

  -- The body, with its closing tag
  parts_are : (parts : List (List ℕ)) (last : List ℕ) (close : WordTag) (bytes r : List ℕ) → AreParts m parts last close bytes r →
      (more : List ℕ) × (bytes ≡ body_of m parts last ++ (start ++ more))
  parts_are [] last close bytes r (following, (splits, nowhere), closes) = (following, splits)
  parts_are (part ∷ parts) last close bytes r (following, (splits, nowhere), none, are) =
      let (more, is) = parts_are parts last close following r are in
      (more, splits ∙ ap (λ b. part ++ (start ++ b)) is ∙ sym (append_assoc part (start ++ body_of m parts last) (start ++ more)))

  parts_moved : (parts : List (List ℕ)) (last : List ℕ) (close : WordTag) (bytes r s : List ℕ) → AreParts m parts last close bytes r →
      AreParts m parts last close (body_of m parts last ++ (start ++ word_tag_front endraw_word end close s)) s
  parts_moved [] last close bytes r s (following, (splits, nowhere), closes) = (
    word_tag_front endraw_word end close s,
    (refl, nowhere_agree (begins start) (begins_agree start) last (start ++ following) (start ++ word_tag_front endraw_word end close s) (refl, tt) nowhere),
    word_tag_moved 101 (codes "ndraw") refl close following r s closes,
  )
  parts_moved (part ∷ parts) last close bytes r s (following, (splits, nowhere), none, are) =
      let body : List ℕ = body_of m parts last in
      let tag : List ℕ = word_tag_front endraw_word end close s in
      let (more, is) = parts_are parts last close following r are in (
        body ++ (start ++ tag),
        (
          append_assoc part (start ++ body) (start ++ tag),
          nowhere_agree (begins start) (begins_agree start) part (start ++ following) (start ++ (body ++ (start ++ tag))) (refl, tt) nowhere,
        ),
        closes_nothing body more tag (subst (ClosesNothing m) is none),
        parts_moved parts last close following r s are,
      )

  pub body_moved : (body : List ℕ) (close : WordTag) (bytes r s : List ℕ) → IsBody m body close bytes r →
      IsBody m body close (body ++ (start ++ word_tag_front endraw_word end close s)) s
  body_moved body close bytes r s (parts, last, is, are) = (
    parts,
    last,
    is,
    subst (λ b. AreParts m parts last close (b ++ (start ++ word_tag_front endraw_word end close s)) s) (sym is)
        (parts_moved parts last close bytes r s are),
  )
