-- Every source has a division, and only one.
use Rattle.std.proofs.Common.{◌≡◌, ◌≢◌, ℕ, zero, suc, ◌<◌, Bool, true, false, ◌||◌, List, [], ◌∷◌, ◌++◌, length, take, drop, Option, Some, None, ⊎_elim, ap, sym, ◌∙◌, refl, arith}
use Rattle.std.proofs.lemmas.Bool.{cases_Bool, false_from_ne_true}
use Rattle.std.proofs.lemmas.List.{drop_at, take_at, length-append}
use Rattle.tera_lexer.specs.grammar.Marks.{Marks, IsValid, start_marker, end_marker, begins, NowhereIn, dash_bytes}
use Rattle.tera_lexer.specs.grammar.Lexeme.{Item, Close, End, Open, Bad, IsInside}
use Rattle.tera_lexer.specs.grammar.Raw.{WordTag, word_tag_bytes, raw_word, endraw_word, OpensRaw}
use Rattle.tera_lexer.specs.grammar.Division.{is_at_start, EndsText, Piece, Text, Comment, Raw, Tag, Ending, Complete, OpenTag, BadTag, OpenRaw, OpenComment, Starts, OpensTag, IsDivision}
use Rattle.tera_lexer.specs.reading.Front.{inside_of, find_marker, at_dash, after_dash, after_marker, word_tag_at, raw_end, tag_step, tag_front, comment_step, raw_step, block_step, text_len, text_step, division_by}
use Rattle.tera_lexer.specs.declared.lexer.delimiters.Kind.{Kind}
use Rattle.tera_lexer.specs.declared.lexer.delimiters.Kind.TheVariants.{Variable, Block}
use Rattle.tera_lexer.proofs.Markers.{begins_splits, splits_begins, marker_sound, dash_found, after_is, or_false}
use Rattle.tera_lexer.proofs.Insides.{inside_found}
use Rattle.tera_lexer.proofs.WordTags.{IsTagAt, word_tag_sound, word_tag_found}
use Rattle.tera_lexer.proofs.Finding.{after_at, find_found, find_none}
use Rattle.tera_lexer.proofs.RawEnds.{body_found, open_found}
use Rattle.tera_lexer.proofs.Pieces.{text_length, end_two, body_splits, piece_shortens, tag_front_sound, comment_sound, block_sound, text_divides}

same_marker : (a b bytes x : List ℕ) → length a ≡ 2 → length b ≡ 2 → bytes ≡ a ++ x → begins b bytes ≡ true → b ≡ a
same_marker a b bytes x two two' e h =
    let e' = begins_splits b bytes h in
    sym (take_at b (drop (length b) bytes) 2 two') ∙ ap (take 2) (sym e' ∙ e) ∙ take_at a x 2 two

-- where one marker begins no other does
no_other : (a b bytes rest : List ℕ) → length a ≡ 2 → length b ≡ 2 → b ≢ a → bytes ≡ a ++ rest → begins b bytes ≡ false
no_other a b bytes rest two two' other e = false_from_ne_true (begins b bytes) (λ h. other (same_marker a b bytes rest two two' e h))

starts_some : (marker : List ℕ) (dash : Bool) (bytes following : List ℕ) → length marker ≡ 2 → Starts marker dash bytes following → 0 < length bytes
starts_some marker dash bytes following two starts = omega (arith, ap length starts.0, length-append marker (dash_bytes dash ++ following))

module _ (m : Marks) (valid : IsValid m) where
  -- what is found is there
  pub division_sound : (n : ℕ) (bytes : List ℕ) → length bytes < n → IsDivision m (division_by n m bytes).0 (division_by n m bytes).1 bytes
  unfolding division_by
  division_sound zero bytes lt = absurd (omega arith)
  division_sound (suc n) [] lt = refl
  division_sound (suc n) (b ∷ bs) lt =
      let bytes : List ℕ = b ∷ bs in
      let divides : (rest : List ℕ) → length rest < length bytes → IsDivision m (division_by n m rest).0 (division_by n m rest).1 rest
      = λ rest less. division_sound n rest (omega arith) in
      let following : List ℕ → List ℕ = λ marker. after_marker marker bytes in
      ⊎_elim
      (λ variable. rw variable (tag_front_sound m valid (division_by n m) bytes divides Variable (at_dash (following m.variable_start)) (after_dash (following m.variable_start)) (marker_sound m.variable_start bytes variable) tt))
      (λ no_variable. rw no_variable (⊎_elim
      (λ block. rw block (block_sound m valid (division_by n m) bytes divides (at_dash (following m.block_start)) (after_dash (following m.block_start)) (marker_sound m.block_start bytes block)))
      (λ no_block. rw no_block (⊎_elim
      (λ comment. rw comment (comment_sound m valid (division_by n m) bytes divides (at_dash (following m.comment_start)) (after_dash (following m.comment_start)) (marker_sound m.comment_start bytes comment)))
      (λ no_comment. rw no_comment (text_divides m valid (division_by n m) b bs divides (rw (no_variable, no_block, no_comment) refl)))
      (cases_Bool (begins m.comment_start bytes))))
      (cases_Bool (begins m.block_start bytes))))
      (cases_Bool (begins m.variable_start bytes))

  -- what is there is found: at each start marker
  pub at_variable : (n : ℕ) (dash : Bool) (bytes following : List ℕ) → Starts m.variable_start dash bytes following → division_by (suc n) m bytes ≡ tag_front (division_by n m) m Variable dash following
  unfolding division_by
  at_variable n dash [] following starts = absurd (omega (arith, starts_some m.variable_start dash [] following valid.variable_start starts))
  at_variable n dash (b ∷ bs) following starts =
      let here = splits_begins m.variable_start (b ∷ bs) (dash_bytes dash ++ following) starts.0 in
      let is = after_is m.variable_start (b ∷ bs) (dash_bytes dash ++ following) starts.0 in
      let dashed = dash_found dash following starts.1 in
      rw here (λ i. tag_front (division_by n m) m Variable ((ap at_dash is ∙ dashed.0) i) ((ap after_dash is ∙ dashed.1) i))

  pub at_block : (n : ℕ) (dash : Bool) (bytes following : List ℕ) → Starts m.block_start dash bytes following
      → division_by (suc n) m bytes ≡ block_step (division_by n m) m dash following (word_tag_at raw_word m.block_end following)
  unfolding division_by
  at_block n dash [] following starts = absurd (omega (arith, starts_some m.block_start dash [] following valid.block_start starts))
  at_block n dash (b ∷ bs) following starts =
      let variable = no_other m.block_start m.variable_start (b ∷ bs) (dash_bytes dash ++ following) valid.block_start valid.variable_start (λ s. valid.block_variable (sym s)) starts.0 in
      let here = splits_begins m.block_start (b ∷ bs) (dash_bytes dash ++ following) starts.0 in
      let is = after_is m.block_start (b ∷ bs) (dash_bytes dash ++ following) starts.0 in
      let dashed = dash_found dash following starts.1 in
      rw (variable, here) (λ i. block_step (division_by n m) m ((ap at_dash is ∙ dashed.0) i) ((ap after_dash is ∙ dashed.1) i) (word_tag_at raw_word m.block_end ((ap after_dash is ∙ dashed.1) i)))

  pub at_comment : (n : ℕ) (dash : Bool) (bytes following : List ℕ) → Starts m.comment_start dash bytes following
      → division_by (suc n) m bytes ≡ comment_step (division_by n m) m dash following (find_marker m.comment_end following)
  unfolding division_by
  at_comment n dash [] following starts = absurd (omega (arith, starts_some m.comment_start dash [] following valid.comment_start starts))
  at_comment n dash (b ∷ bs) following starts =
      let variable = no_other m.comment_start m.variable_start (b ∷ bs) (dash_bytes dash ++ following) valid.comment_start valid.variable_start valid.variable_comment starts.0 in
      let block = no_other m.comment_start m.block_start (b ∷ bs) (dash_bytes dash ++ following) valid.comment_start valid.block_start valid.block_comment starts.0 in
      let here = splits_begins m.comment_start (b ∷ bs) (dash_bytes dash ++ following) starts.0 in
      let is = after_is m.comment_start (b ∷ bs) (dash_bytes dash ++ following) starts.0 in
      let dashed = dash_found dash following starts.1 in
      rw (variable, block, here) (λ i. comment_step (division_by n m) m ((ap at_dash is ∙ dashed.0) i) ((ap after_dash is ∙ dashed.1) i) (find_marker m.comment_end ((ap after_dash is ∙ dashed.1) i)))

  -- where no raw piece opens
  none_opens : (following : List ℕ) → OpensTag m Block following → word_tag_at raw_word m.block_end following ≡ None
  none_opens following opens = by (word_tag_at raw_word m.block_end following) (word_tag_sound raw_word m.block_end following)
    where
      by : (o : Option (WordTag × List ℕ)) → IsTagAt raw_word m.block_end following o → o ≡ None
      by None is = refl
      by (Some p) is = absurd (opens p.0 p.1 is)

  at_front : (n : ℕ) (kind : Kind) (dash : Bool) (bytes inside : List ℕ) → Starts (start_marker kind m) dash bytes inside → OpensTag m kind inside
      → division_by (suc n) m bytes ≡ tag_front (division_by n m) m kind dash inside
  at_front n Variable dash bytes inside starts opens = at_variable n dash bytes inside starts
  at_front n Block dash bytes inside starts opens =
      at_block n dash bytes inside starts ∙ ap (block_step (division_by n m) m dash inside) (none_opens inside opens)

  at_tag : (n : ℕ) (kind : Kind) (dash : Bool) (items : List Item) (close : Close) (bytes inside : List ℕ) → Starts (start_marker kind m) dash bytes inside → OpensTag m kind inside → IsInside (end_marker kind m) items close inside
      → division_by (suc n) m bytes ≡ tag_step (division_by n m) kind dash items close
  at_tag n kind dash items close bytes inside starts opens here =
      let found : inside_of (end_marker kind m) inside ≡ (items, close) = inside_found (end_marker kind m) items close (suc (length inside)) inside (end_two m valid kind) here (omega arith) in
      at_front n kind dash bytes inside starts opens ∙ (λ i. tag_step (division_by n m) kind dash (found i).0 (found i).1)

  at_raw : (n : ℕ) (dash : Bool) (opening : WordTag) (bytes following inside : List ℕ) → Starts m.block_start dash bytes following → OpensRaw m opening following inside
      → division_by (suc n) m bytes ≡ raw_step (division_by n m) dash opening inside (raw_end m.block_start m.block_end false inside)
  at_raw n dash opening bytes following inside starts opens =
      at_block n dash bytes following starts ∙ ap (block_step (division_by n m) m dash following) (word_tag_found raw_word m.block_end opening following inside opens)

  at_text : (n : ℕ) (text rest bytes : List ℕ) → bytes ≡ text ++ rest → text ≢ [] → NowhereIn (is_at_start m) text rest → EndsText m rest
      → division_by (suc n) m bytes ≡ (Text text ∷ (division_by n m rest).0, (division_by n m rest).1)
  unfolding division_by
  at_text n [] rest bytes e some none ends = absurd (some refl)
  at_text n (b ∷ text) rest bytes e some none ends =
      let tests = or_false (begins m.variable_start (b ∷ (text ++ rest))) (begins m.block_start (b ∷ (text ++ rest)) || begins m.comment_start (b ∷ (text ++ rest))) none.0 in
      let others = or_false (begins m.block_start (b ∷ (text ++ rest))) (begins m.comment_start (b ∷ (text ++ rest))) tests.1 in
      let len : suc (text_len m (text ++ rest)) ≡ suc (length text) = ap suc (text_length m text rest none.1 ends) in
      ap (division_by (suc n) m) e
      ∙ rw (tests.0, others.0, others.1)
      (ap (λ k. text_step (division_by n m) k (b ∷ (text ++ rest))) len
      ∙ (λ i. (Text (take_at (b ∷ text) rest (suc (length text)) refl i) ∷ (division_by n m (drop_at (b ∷ text) rest (suc (length text)) refl i)).0, (division_by n m (drop_at (b ∷ text) rest (suc (length text)) refl i)).1)))

  pub division_found : (ps : List Piece) (ending : Ending) (n : ℕ) (bytes : List ℕ) → IsDivision m ps ending bytes → length bytes < n → division_by n m bytes ≡ (ps, ending)
  unfolding division_by
  division_found ps ending zero bytes divides lt = absurd (omega arith)
  division_found [] Complete (suc n) bytes divides lt = ap (division_by (suc n) m) divides
  division_found [] (OpenTag kind dash items gap) (suc n) bytes (inside, starts, opens, here) lt = at_tag n kind dash items (Open gap) bytes inside starts opens here
  division_found [] (BadTag kind dash items gap fault at) (suc n) bytes (inside, starts, opens, here) lt = at_tag n kind dash items (Bad gap fault at) bytes inside starts opens here
  division_found [] (OpenRaw dash) (suc n) bytes (following, inside, opening, starts, opens, is) lt =
      at_raw n dash opening bytes following inside starts opens ∙ ap (raw_step (division_by n m) dash opening inside) (open_found m valid.block_start inside is)
  division_found [] (OpenComment dash) (suc n) bytes (following, starts, none) lt =
      at_comment n dash bytes following starts ∙ ap (comment_step (division_by n m) m dash following) (find_none m.comment_end following none)
  division_found (Text text ∷ ps) ending (suc n) bytes (rest, (e, some, none, ends), divides) lt =
      let less = piece_shortens m valid (Text text) bytes rest (e, some, none, ends) in
      at_text n text rest bytes e some none ends ∙ ap (λ d. (Text text ∷ d.0, d.1)) (division_found ps ending n rest divides (omega arith))
  division_found (Comment dash inside ∷ ps) ending (suc n) bytes (rest, (following, starts, e, none), divides) lt =
      let less = piece_shortens m valid (Comment dash inside) bytes rest (following, starts, e, none) in
      let found : find_marker m.comment_end following ≡ Some (length inside) = ap (find_marker m.comment_end) e ∙ find_found m.comment_end inside rest valid.comment_end none in
      let text : take (length inside) following ≡ inside = ap (take (length inside)) e ∙ take_at inside (m.comment_end ++ rest) (length inside) refl in
      let after : after_at m.comment_end (length inside) following ≡ rest
      = ap (after_at m.comment_end (length inside)) e ∙ ap (drop (length m.comment_end)) (drop_at inside (m.comment_end ++ rest) (length inside) refl) ∙ drop_at m.comment_end rest (length m.comment_end) refl in
      at_comment n dash bytes following starts ∙ ap (comment_step (division_by n m) m dash following) found
      ∙ (λ i. (Comment dash (text i) ∷ (division_by n m (after i)).0, (division_by n m (after i)).1))
      ∙ ap (λ d. (Comment dash inside ∷ d.0, d.1)) (division_found ps ending n rest divides (omega arith))
  division_found (Raw dash opening body closing ∷ ps) ending (suc n) bytes (rest, (following, inside, starts, opens, is), divides) lt =
      let less = piece_shortens m valid (Raw dash opening body closing) bytes rest (following, inside, starts, opens, is) in
      let after : List ℕ = m.block_start ++ (word_tag_bytes endraw_word m.block_end closing ++ rest) in
      let text : take (length body) inside ≡ body = ap (take (length body)) (body_splits m valid body closing inside rest is) ∙ take_at body after (length body) refl in
      at_raw n dash opening bytes following inside starts opens ∙ ap (raw_step (division_by n m) dash opening inside) (body_found m valid.block_start body closing inside rest is)
      ∙ ap (λ l. (Raw dash opening l closing ∷ (division_by n m rest).0, (division_by n m rest).1)) text
      ∙ ap (λ d. (Raw dash opening body closing ∷ d.0, d.1)) (division_found ps ending n rest divides (omega arith))
  division_found (Tag kind dash items gap end ∷ ps) ending (suc n) bytes (rest, (inside, starts, opens, here), divides) lt =
      let less = piece_shortens m valid (Tag kind dash items gap end) bytes rest (inside, starts, opens, here) in
      at_tag n kind dash items (End gap end rest) bytes inside starts opens here
      ∙ ap (λ d. (Tag kind dash items gap end ∷ d.0, d.1)) (division_found ps ending n rest divides (omega arith))

  pub division_one : (ps qs : List Piece) (e f : Ending) (bytes : List ℕ) → IsDivision m ps e bytes → IsDivision m qs f bytes → (ps ≡ qs) × (e ≡ f)
  division_one ps qs e f bytes a b =
      let same = sym (division_found ps e (suc (length bytes)) bytes a (omega arith)) ∙ division_found qs f (suc (length bytes)) bytes b (omega arith) in
      (ap (λ d. d.0) same, ap (λ d. d.1) same)
