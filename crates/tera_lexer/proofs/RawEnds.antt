-- The end of a raw piece.
use Rattle.std.proofs.Common.{◌≡◌, ℕ, zero, suc, ◌+◌, ◌<◌, ◌≤◌, true, false, List, [], ◌∷◌, ◌++◌, length, drop, Option, Some, None, ⊎_elim, sym, ap, ◌∙◌, refl, subst, arith, append_assoc}
use Rattle.std.proofs.lemmas.Bool.{cases_Bool}
use Rattle.std.proofs.lemmas.List.{append-nil, drop_all, drop-drop, length-append}
use Rattle.memchr.specs.Find.{OccursAt, Nowhere, FindsNeedle}
use Rattle.tera_lexer.specs.grammar.Marks.{Marks, begins, NowhereIn}
use Rattle.tera_lexer.specs.grammar.Raw.{WordTag, endraw_word, IsBodyPart, ClosesRaw, ClosesNothing, body_of, AreParts, IsBody, AreOpen, IsOpenBody}
use Rattle.tera_lexer.specs.reading.Front.{after_marker, word_tag_at, RawEnd, longer, closed_or, raw_end}
use Rattle.tera_lexer.specs.code.Markers.{IsWordTagOf, IsRawEndOf, further_end}
use Rattle.tera_lexer.specs.declared.lexer.markers.WordTag.{WordTag as WordTagOfCode}
use Rattle.tera_lexer.proofs.Markers.{begins_splits, splits_begins, after_is}
use Rattle.tera_lexer.proofs.Finding.{begins_nowhere, begins_where_occurs}
use Rattle.tera_lexer.proofs.WordTags.{IsTagAt, word_tag_sound, word_tag_found, word_tag_none}

-- a marker of two bytes
two_bytes : (marker : List ℕ) → length marker ≡ 2 → (x : ℕ) × (y : ℕ) × (marker ≡ x ∷ y ∷ [])
two_bytes [] two = absurd (omega arith)
two_bytes (x ∷ []) two = absurd (omega arith)
two_bytes (x ∷ y ∷ []) two = (x, y, refl)
two_bytes (x ∷ y ∷ z ∷ zs) two = absurd (omega arith)

pub further_zero : (o : Option RawEnd) → further_end 0 o ≡ o
unfolding further_end
further_zero None = refl
further_zero (Some e) = let same : 0 + e.len ≡ e.len = omega arith in ap (λ k. Some (record e { len = k })) same

further_suc : (n : ℕ) (o : Option RawEnd) → longer (further_end n o) ≡ further_end (suc n) o
unfolding further_end
further_suc n None = refl
further_suc n (Some e) = let same : suc (n + e.len) ≡ suc n + e.len = omega arith in ap (λ k. Some (record e { len = k })) same

further_longer : (n : ℕ) (o : Option RawEnd) → further_end n (longer o) ≡ further_end (n + 1) o
unfolding further_end
further_longer n None = refl
further_longer n (Some e) = let same : n + suc e.len ≡ n + 1 + e.len = omega arith in ap (λ k. Some (record e { len = k })) same

module _ (m : Marks) (two : length m.block_start ≡ 2) where
  -- what is found is there
  unfoldable pub IsEndAt : List ℕ → Option RawEnd → Type 0
  IsEndAt bytes None = IsOpenBody m bytes
  IsEndAt bytes (Some e) = (body : List ℕ) × (e.len ≡ length body) × IsBody m body e.close bytes e.rest

  -- a byte more that begins no block start
  open_longer : (b : ℕ) (bs : List ℕ) → begins m.block_start (b ∷ bs) ≡ false → IsOpenBody m bs → IsOpenBody m (b ∷ bs)
  open_longer b bs other ([], none) = ([], (subst (λ l. begins m.block_start (b ∷ l) ≡ false) (sym (append-nil bs)) other, none))
  open_longer b bs other (part ∷ parts, (following, (e, none), nothing, are)) =
      ((b ∷ part) ∷ parts, (following, (ap (λ l. b ∷ l) e, (subst (λ l. begins m.block_start (b ∷ l) ≡ false) e other, none)), nothing, are))

  body_longer : (b : ℕ) (bs : List ℕ) (body : List ℕ) (close : WordTag) (rest : List ℕ) → begins m.block_start (b ∷ bs) ≡ false → IsBody m body close bs rest → IsBody m (b ∷ body) close (b ∷ bs) rest
  body_longer b bs body close rest other ([], last, is, (following, (e, none), closes)) =
      ([], b ∷ last, ap (λ l. b ∷ l) is, (following, (ap (λ l. b ∷ l) e, (subst (λ l. begins m.block_start (b ∷ l) ≡ false) e other, none)), closes))
  body_longer b bs body close rest other (part ∷ parts, last, is, (following, (e, none), nothing, are)) =
      ((b ∷ part) ∷ parts, last, ap (λ l. b ∷ l) is, (following, (ap (λ l. b ∷ l) e, (subst (λ l. begins m.block_start (b ∷ l) ≡ false) e other, none)), nothing, are))

  end_longer : (b : ℕ) (bs : List ℕ) (o : Option RawEnd) → begins m.block_start (b ∷ bs) ≡ false → IsEndAt bs o → IsEndAt (b ∷ bs) (longer o)
  unfolding IsEndAt
  end_longer b bs None other is = open_longer b bs other is
  end_longer b bs (Some e) other (body, len, is) = (b ∷ body, ap suc len, body_longer b bs body e.close e.rest other is)

  -- a block start that closes nothing
  end_missed : (bytes following : List ℕ) (o : Option RawEnd) → bytes ≡ m.block_start ++ following → ClosesNothing m following → IsEndAt following o → IsEndAt bytes (longer (longer o))
  unfolding IsEndAt
  end_missed bytes following None e nothing (parts, are) = ([] ∷ parts, (following, (e, tt), nothing, are))
  end_missed bytes following (Some o) e nothing (body, len, (parts, last, is, are)) =
      let longer_by : suc (suc o.len) ≡ length (m.block_start ++ body) = omega (arith, length-append m.block_start body, len, two) in
      (m.block_start ++ body, longer_by, ([] ∷ parts, last, ap (λ l. m.block_start ++ l) is, (following, (e, tt), nothing, are)))

  -- the second byte of a block start
  second_byte : (bs following : List ℕ) (b : ℕ) → b ∷ bs ≡ m.block_start ++ following → raw_end m.block_start m.block_end true bs ≡ longer (raw_end m.block_start m.block_end false following)
  second_byte bs following b e = by (two_bytes m.block_start two)
    where
      same : (x y : ℕ) → b ∷ bs ≡ x ∷ y ∷ following → bs ≡ y ∷ following
      same x y e = cc

      by : ((x : ℕ) × (y : ℕ) × (m.block_start ≡ x ∷ y ∷ [])) → raw_end m.block_start m.block_end true bs ≡ longer (raw_end m.block_start m.block_end false following)
      by (x, y, is) = ap (raw_end m.block_start m.block_end true) (same x y (e ∙ ap (λ l. l ++ following) is))

  begin_sound : (b : ℕ) (bs following : List ℕ) (o : Option (WordTag × List ℕ)) → b ∷ bs ≡ m.block_start ++ following → word_tag_at endraw_word m.block_end following ≡ o
      → IsEndAt following (raw_end m.block_start m.block_end false following) → IsEndAt (b ∷ bs) (closed_or o (longer (raw_end m.block_start m.block_end true bs)))
  unfolding IsEndAt
  begin_sound b bs following None e none is =
      subst (λ o. IsEndAt (b ∷ bs) (longer o)) (sym (second_byte bs following b e)) (end_missed (b ∷ bs) following (raw_end m.block_start m.block_end false following) e (word_tag_none endraw_word m.block_end following none) is)
  begin_sound b bs following (Some p) e some is =
      let sound : IsTagAt endraw_word m.block_end following (Some p) = subst (IsTagAt endraw_word m.block_end following) some (word_tag_sound endraw_word m.block_end following) in
      ([], refl, ([], [], refl, (following, (e, tt), sound)))

  pub raw_sound : (n : ℕ) (bytes : List ℕ) → length bytes < n → IsEndAt bytes (raw_end m.block_start m.block_end false bytes)
  unfolding IsEndAt
  raw_sound n [] lt = ([], tt)
  raw_sound zero (b ∷ bs) lt = absurd (omega arith)
  raw_sound (suc n) (b ∷ bs) lt =
      ⊎_elim
      (λ here.
      let following : List ℕ = after_marker m.block_start (b ∷ bs) in
      let e : b ∷ bs ≡ m.block_start ++ following = begins_splits m.block_start (b ∷ bs) here in
      let less : length following < n = omega (arith, ap length e, length-append m.block_start following) in
      rw here (begin_sound b bs following (word_tag_at endraw_word m.block_end following) e refl (raw_sound n following less)))
      (λ other. rw other (end_longer b bs (raw_end m.block_start m.block_end false bs) other (raw_sound n bs (omega arith))))
      (cases_Bool (begins m.block_start (b ∷ bs)))

  -- what is there is found
  part_passed : (part bytes following : List ℕ) → IsBodyPart m part bytes following → raw_end m.block_start m.block_end false bytes ≡ further_end (length part) (raw_end m.block_start m.block_end false (m.block_start ++ following))
  part_passed [] bytes following (e, none) = ap (raw_end m.block_start m.block_end false) e ∙ sym (further_zero _)
  part_passed (b ∷ part) bytes following (e, none) =
      let tail : List ℕ = part ++ (m.block_start ++ following) in
      let step : raw_end m.block_start m.block_end false (b ∷ tail) ≡ longer (raw_end m.block_start m.block_end false tail) = rw none.0 refl in
      ap (raw_end m.block_start m.block_end false) e ∙ step ∙ ap longer (part_passed part tail following (refl, none.1)) ∙ further_suc (length part) _

  at_start : (bytes following : List ℕ) → bytes ≡ m.block_start ++ following → raw_end m.block_start m.block_end false bytes ≡ closed_or (word_tag_at endraw_word m.block_end following) (longer (longer (raw_end m.block_start m.block_end false following)))
  at_start [] following e = absurd (omega (arith, ap length e, length-append m.block_start following))
  at_start (b ∷ bs) following e =
      let here : begins m.block_start (b ∷ bs) ≡ true = splits_begins m.block_start (b ∷ bs) following e in
      rw here (λ i. closed_or (word_tag_at endraw_word m.block_end (after_is m.block_start (b ∷ bs) following e i)) (longer (second_byte bs following b e i)))

  none_at : (following : List ℕ) → ClosesNothing m following → word_tag_at endraw_word m.block_end following ≡ None
  none_at following nothing = by (word_tag_at endraw_word m.block_end following) refl
    where
      by : (o : Option (WordTag × List ℕ)) → word_tag_at endraw_word m.block_end following ≡ o → o ≡ None
      by None e = refl
      by (Some p) e = absurd (nothing p.0 p.1 (subst (IsTagAt endraw_word m.block_end following) e (word_tag_sound endraw_word m.block_end following)))

  parts_found : (parts : List (List ℕ)) (last : List ℕ) (close : WordTag) (bytes rest : List ℕ) → AreParts m parts last close bytes rest
      → raw_end m.block_start m.block_end false bytes ≡ Some (record { len = length (body_of m parts last); close = close; rest = rest })
  unfolding further_end
  parts_found [] last close bytes rest (following, part, closes) =
      let here : raw_end m.block_start m.block_end false (m.block_start ++ following) ≡ Some (record { len = 0; close = close; rest = rest })
      = at_start (m.block_start ++ following) following refl ∙ ap (λ o. closed_or o (longer (longer (raw_end m.block_start m.block_end false following)))) (word_tag_found endraw_word m.block_end close following rest closes) in
      let len : length last + 0 ≡ length last = omega arith in
      part_passed last bytes following part ∙ ap (further_end (length last)) here ∙ ap (λ n. Some (record { len = n; close = close; rest = rest })) len
  parts_found (first ∷ parts) last close bytes rest (following, part, nothing, are) =
      let body : List ℕ = body_of m parts last in
      let here : raw_end m.block_start m.block_end false (m.block_start ++ following) ≡ Some (record { len = suc (suc (length body)); close = close; rest = rest })
      = at_start (m.block_start ++ following) following refl ∙ ap (λ o. closed_or o (longer (longer (raw_end m.block_start m.block_end false following)))) (none_at following nothing)
      ∙ ap (λ o. longer (longer o)) (parts_found parts last close following rest are) in
      let len : length first + suc (suc (length body)) ≡ length (first ++ (m.block_start ++ body)) = omega (arith, length-append first (m.block_start ++ body), length-append m.block_start body, two) in
      part_passed first bytes following part ∙ ap (further_end (length first)) here ∙ ap (λ n. Some (record { len = n; close = close; rest = rest })) len

  pub body_found : (body : List ℕ) (close : WordTag) (bytes rest : List ℕ) → IsBody m body close bytes rest → raw_end m.block_start m.block_end false bytes ≡ Some (record { len = length body; close = close; rest = rest })
  body_found body close bytes rest (parts, last, is, are) =
      parts_found parts last close bytes rest are ∙ ap (λ l. Some (record { len = length l; close = close; rest = rest })) (sym is)

  all_passed : (bytes : List ℕ) → NowhereIn (begins m.block_start) bytes [] → raw_end m.block_start m.block_end false bytes ≡ None
  all_passed [] none = refl
  all_passed (b ∷ bs) none =
      let here : begins m.block_start (b ∷ bs) ≡ false = subst (λ l. begins m.block_start (b ∷ l) ≡ false) (append-nil bs) none.0 in
      rw here (ap longer (all_passed bs none.1))

  open_parts : (parts : List (List ℕ)) (bytes : List ℕ) → AreOpen m parts bytes → raw_end m.block_start m.block_end false bytes ≡ None
  unfolding further_end
  open_parts [] bytes none = all_passed bytes none
  open_parts (first ∷ parts) bytes (following, part, nothing, are) =
      part_passed first bytes following part
      ∙ ap (further_end (length first)) (at_start (m.block_start ++ following) following refl ∙ ap (λ o. closed_or o (longer (longer (raw_end m.block_start m.block_end false following)))) (none_at following nothing) ∙ ap (λ o. longer (longer o)) (open_parts parts following are))

  pub open_found : (bytes : List ℕ) → IsOpenBody m bytes → raw_end m.block_start m.block_end false bytes ≡ None
  open_found bytes (parts, are) = open_parts parts bytes are

  -- the bytes of the body, its closing tag and the rest
  pub parts_split : (parts : List (List ℕ)) (last : List ℕ) (close : WordTag) (bytes rest : List ℕ) → AreParts m parts last close bytes rest
      → (following : List ℕ) × (bytes ≡ body_of m parts last ++ (m.block_start ++ following)) × ClosesRaw m close following rest
  parts_split [] last close bytes rest (following, (e, none), closes) = (following, e, closes)
  parts_split (first ∷ parts) last close bytes rest (next, (e, none), nothing, are) =
      let (following, e', closes) = parts_split parts last close next rest are in
      let body : List ℕ = body_of m parts last in (
        following,
        e ∙ ap (λ l. first ++ (m.block_start ++ l)) e' ∙ sym (append_assoc first (m.block_start ++ body) (m.block_start ++ following) ∙ ap (λ l. first ++ l) (append_assoc m.block_start body (m.block_start ++ following))),
        closes,
      )

-- block starts, one after another
module _ (start end : List ℕ) where
  -- bytes at which none begins
  raw_skips : (n : ℕ) (bytes : List ℕ) → n ≤ length bytes → ((k : ℕ) → k < n → begins start (drop k bytes) ≡ false) → raw_end start end false bytes ≡ further_end n (raw_end start end false (drop n bytes))
  raw_skips zero bytes le none = sym (further_zero (raw_end start end false bytes))
  raw_skips (suc n) [] le none = absurd (omega arith)
  raw_skips (suc n) (b ∷ bs) le none =
      let here : begins start (b ∷ bs) ≡ false = none 0 (omega arith) in
      let step : raw_end start end false (b ∷ bs) ≡ longer (raw_end start end false bs) = rw here refl in
      step ∙ ap longer (raw_skips n bs (omega arith) (λ k lt. none (suc k) (omega arith))) ∙ further_suc n (raw_end start end false (drop n bs))

  -- one that begins them
  raw_starts : (bytes : List ℕ) → length start ≡ 2 → begins start bytes ≡ true → raw_end start end false bytes ≡ closed_or (word_tag_at endraw_word end (drop 2 bytes)) (longer (longer (raw_end start end false (drop 2 bytes))))
  raw_starts bytes two here = by bytes refl
    where
      long : 2 ≤ length bytes
      long = omega (arith, ap length (begins_splits start bytes here), length-append start (drop (length start) bytes))

      by : (l : List ℕ) → bytes ≡ l → raw_end start end false l ≡ closed_or (word_tag_at endraw_word end (drop 2 l)) (longer (longer (raw_end start end false (drop 2 l))))
      by [] e = absurd (omega (arith, ap length e, long))
      by (b ∷ []) e = absurd (omega (arith, ap length e, long))
      by (b ∷ c ∷ cs) e =
          let here' : begins start (b ∷ c ∷ cs) ≡ true = subst (λ l. begins start l ≡ true) e here in
          let following : after_marker start (b ∷ c ∷ cs) ≡ cs = ap (λ n. drop n (b ∷ c ∷ cs)) two in
          rw here' (ap (λ l. closed_or (word_tag_at endraw_word end l) (longer (longer (raw_end start end false cs)))) following)

further_both : (a b : ℕ) (o : Option RawEnd) → further_end a (further_end b o) ≡ further_end (a + b) o
unfolding further_end
further_both a b None = refl
further_both a b (Some e) = let same : a + (b + e.len) ≡ a + b + e.len = omega arith in ap (λ k. Some (record e { len = k })) same

module _ (start end bytes : List ℕ) where
  pub raw_start : raw_end start end false bytes ≡ further_end 0 (raw_end start end false bytes)
  raw_start = sym (further_zero (raw_end start end false bytes))

  module _ (from : ℕ) (two : length start ≡ 2) (e : raw_end start end false bytes ≡ further_end from (raw_end start end false (drop from bytes))) where
    -- no block start is left
    pub raw_nowhere : Nowhere (OccursAt (drop from bytes) start) 0 (length (drop from bytes) + 1) → raw_end start end false bytes ≡ None
    unfolding further_end
    raw_nowhere nowhere =
        let rest : List ℕ = drop from bytes in
        let n : ℕ = length rest in
        let skips = raw_skips start end n rest (omega arith) (λ k lt. begins_nowhere start rest (n + 1) two (omega arith) nowhere k (omega arith)) in
        e ∙ ap (further_end from) (skips ∙ ap (λ l. further_end n (raw_end start end false l)) (drop_all n rest (omega arith)))

    -- the next one
    module _ (len : ℕ) (before : Nowhere (OccursAt (drop from bytes) start) 0 len) (occurs : OccursAt (drop from bytes) start len) where
      following : List ℕ
      following = drop (from + len + 2) bytes

      found : raw_end start end false bytes ≡ further_end (from + len) (closed_or (word_tag_at endraw_word end following) (longer (longer (raw_end start end false following))))
      unfolding following
      found =
          let rest : List ℕ = drop from bytes in
          let fits : len ≤ length rest = omega (arith, occurs.fits) in
          let skips = raw_skips start end len rest fits (begins_nowhere start rest len two (omega arith) before) in
          let starts = raw_starts start end (drop len rest) two (begins_where_occurs start rest len occurs) in
          let there : drop 2 (drop len rest) ≡ drop (from + len + 2) bytes = ap (drop 2) (drop-drop len from bytes) ∙ drop-drop 2 (from + len) bytes in
          e ∙ ap (further_end from) (skips ∙ ap (further_end len) (starts ∙ ap (λ l. closed_or (word_tag_at endraw_word end l) (longer (longer (raw_end start end false l)))) there))
          ∙ further_both from len (closed_or (word_tag_at endraw_word end (drop (from + len + 2) bytes)) (longer (longer (raw_end start end false (drop (from + len + 2) bytes)))))

      pub raw_missed : word_tag_at endraw_word end (drop (from + len + 2) bytes) ≡ None → raw_end start end false bytes ≡ further_end (from + len + 2) (raw_end start end false (drop (from + len + 2) bytes))
      unfolding following
      raw_missed none =
          let left : Option RawEnd = raw_end start end false (drop (from + len + 2) bytes) in
          let twice : from + len + 1 + 1 ≡ from + len + 2 = omega arith in
          found ∙ ap (λ o. further_end (from + len) (closed_or o (longer (longer left)))) none ∙ further_longer (from + len) (longer left) ∙ further_longer (from + len + 1) left ∙ ap (λ n. further_end n left) twice

      pub raw_closed : (p : WordTag × List ℕ) → word_tag_at endraw_word end (drop (from + len + 2) bytes) ≡ Some p → raw_end start end false bytes ≡ Some (record { len = from + len; close = p.0; rest = p.1 })
      unfolding following further_end
      raw_closed p some =
          let left : Option RawEnd = raw_end start end false (drop (from + len + 2) bytes) in
          let same : from + len + 0 ≡ from + len = omega arith in
          found ∙ ap (λ o. further_end (from + len) (closed_or o (longer (longer left)))) some ∙ ap (λ n. Some (record { len = n; close = p.0; rest = p.1 })) same

  -- the first one
  module _ (two : length start ≡ 2) (len : ℕ) (found : FindsNeedle bytes start 0 (Some len)) where
    pub first_missed : word_tag_at endraw_word end (drop (len + 2) bytes) ≡ None → raw_end start end false bytes ≡ further_end (len + 2) (raw_end start end false (drop (len + 2) bytes))
    first_missed =
        let same : 0 + len ≡ len = omega arith in
        subst (λ n. word_tag_at endraw_word end (drop (n + 2) bytes) ≡ None → raw_end start end false bytes ≡ further_end (n + 2) (raw_end start end false (drop (n + 2) bytes))) same
        (raw_missed 0 two raw_start len found.0.before found.1)

    pub first_closed : (p : WordTag × List ℕ) → word_tag_at endraw_word end (drop (len + 2) bytes) ≡ Some p → raw_end start end false bytes ≡ Some (record { len = len; close = p.0; rest = p.1 })
    first_closed =
        let same : 0 + len ≡ len = omega arith in
        subst (λ n. (p : WordTag × List ℕ) → word_tag_at endraw_word end (drop (n + 2) bytes) ≡ Some p → raw_end start end false bytes ≡ Some (record { len = n; close = p.0; rest = p.1 })) same
        (raw_closed 0 two raw_start len found.0.before found.1)

-- what the code finds there
pub closed_by : (end : List ℕ) (tag : WordTagOfCode) (i : ℕ) (o : Option (WordTag × List ℕ)) (looked_for : Option RawEnd) → IsWordTagOf endraw_word end (Some tag) o
    → ((p : WordTag × List ℕ) → o ≡ Some p → looked_for ≡ Some (record { len = i; close = p.0; rest = p.1 })) → IsRawEndOf end (Some (i, tag)) looked_for
closed_by end tag i None looked_for is closes = absurd is
closed_by end tag i (Some p) looked_for is closes = subst (IsRawEndOf end (Some (i, tag))) (sym (closes p refl)) (refl, is)

pub missed_by : (end : List ℕ) (o : Option (WordTag × List ℕ)) → IsWordTagOf endraw_word end None o → o ≡ None
missed_by end None is = refl
missed_by end (Some p) is = absurd is
