-- The inside of a tag is found, and only that.
use Rattle.std.proofs.Common.{◌≡◌, ℕ, zero, suc, ◌<◌, Bool, true, false, List, [], ◌∷◌, ◌++◌, length, drop, ⊎_elim, ap, sym, ◌∙◌, refl, subst, arith}
use Rattle.std.specs.Char.{is_ascii_whitespace}
use Rattle.std.proofs.lemmas.Bool.{cases_Bool}
use Rattle.std.proofs.lemmas.List.{append-nil, drop_at, length-append}
use Rattle.tera_lexer.specs.grammar.Marks.{begins}
use Rattle.tera_lexer.specs.grammar.Lexeme.{IsGap, Lexeme, Name, Number, Quoted, Operator, spelled, IsLexeme, Fault, Unexpected, Unclosed, UnknownEscape, TooGreat, Float, IsFault, Item, Close, End, Open, Bad, is_at_end, IsEnd, IsInside}
use Rattle.tera_lexer.specs.reading.Front.{Front, Reads, Breaks, run_of, after_run, front_of, Closes, GoesOnWith, next_at, inside_step, inside_by}
use Rattle.tera_lexer.proofs.Runs.{run_sound, run_splits, run_found, after_found}
use Rattle.tera_lexer.proofs.Markers.{begins_splits, splits_begins, or_false}
use Rattle.tera_lexer.proofs.Operators.{operator_sound}
use Rattle.tera_lexer.proofs.Fronts.{IsFront, front_sound, lexeme_found, fault_found}

-- a lexeme has bytes, and a fault is at some
pub spelled_some : (l : Lexeme) (rest : List ℕ) → IsLexeme l rest → 0 < length (spelled l)
spelled_some (Name b bs) rest is = omega arith
spelled_some (Number b bs) rest is = omega arith
spelled_some (Quoted quote inner) rest is = omega arith
spelled_some (Operator (b ∷ bs)) rest is = omega arith
spelled_some (Operator []) [] is = cc
spelled_some (Operator []) (b ∷ bs) is = (operator_sound b bs [] is).some

pub fault_some : (f : Fault) → IsFault f [] → ⊥
fault_some Unexpected here = here
fault_some (Unclosed quote) here = let e = here.1 in cc
fault_some (UnknownEscape quote inner) here = let e = here.1 in cc
fault_some (TooGreat b bs) here = let e = here.1 in cc
fault_some (Float b bs more) here = let e = here.1 in cc

module _ (end : List ℕ) where
  -- what is found is there
  front_step : (go : List ℕ → List Item × Close) (gap at bytes : List ℕ) (front : Front) → bytes ≡ gap ++ at → IsGap gap at → is_at_end end at ≡ false → IsFront at front
      → ((rest : List ℕ) → length rest < length at → IsInside end (go rest).0 (go rest).1 rest)
      → IsInside end (inside_step go gap at (GoesOnWith front)).0 (inside_step go gap at (GoesOnWith front)).1 bytes
  front_step go gap at bytes (Breaks f) e is_gap no_end here reads = (e, is_gap, no_end, here)
  front_step go gap at bytes (Reads l rest) e is_gap no_end (splits, is) reads =
      let less : length rest < length at = omega (arith, ap length splits, length-append (spelled l) rest, spelled_some l rest is) in
      (rest, e ∙ ap (λ a. gap ++ a) splits, subst (IsGap gap) splits is_gap, subst (λ a. is_at_end end a ≡ false) splits no_end, is, reads rest less)

  next_step : (go : List ℕ → List Item × Close) (gap at bytes : List ℕ) → bytes ≡ gap ++ at → IsGap gap at
      → ((rest : List ℕ) → length rest < length at → IsInside end (go rest).0 (go rest).1 rest)
      → IsInside end (inside_step go gap at (next_at end at)).0 (inside_step go gap at (next_at end at)).1 bytes
  next_step go gap [] bytes e is_gap reads = (e ∙ append-nil gap, is_gap)
  next_step go gap (b ∷ bs) bytes e is_gap reads =
      ⊎_elim
      (λ dashed. rw dashed (b ∷ bs, e, is_gap, begins_splits (45 ∷ end) (b ∷ bs) dashed))
      (λ no_dash. rw no_dash (⊎_elim
      (λ closes. rw closes (b ∷ bs, e, is_gap, (begins_splits end (b ∷ bs) closes, no_dash)))
      (λ goes_on. rw goes_on (front_step go gap (b ∷ bs) bytes (front_of (b ∷ bs)) e is_gap (rw (no_dash, goes_on) refl) (front_sound b bs) reads))
      (cases_Bool (begins end (b ∷ bs)))))
      (cases_Bool (begins (45 ∷ end) (b ∷ bs)))

  pub inside_sound : (n : ℕ) (bytes : List ℕ) → length bytes < n → IsInside end (inside_by n end bytes).0 (inside_by n end bytes).1 bytes
  unfolding inside_by
  inside_sound zero bytes lt = absurd (omega arith)
  inside_sound (suc n) bytes lt =
      let splits = run_splits is_ascii_whitespace bytes in
      next_step (inside_by n end) (run_of is_ascii_whitespace bytes) (after_run is_ascii_whitespace bytes) bytes splits (run_sound is_ascii_whitespace bytes)
      (λ rest less. inside_sound n rest (omega (arith, ap length splits, length-append (run_of is_ascii_whitespace bytes) (after_run is_ascii_whitespace bytes))))

  -- what is there is found
  pub at_gap : (n : ℕ) (gap at bytes : List ℕ) → bytes ≡ gap ++ at → IsGap gap at → inside_by (suc n) end bytes ≡ inside_step (inside_by n end) gap at (next_at end at)
  unfolding inside_by
  at_gap n gap at bytes e is_gap =
      ap (inside_by (suc n) end) e
      ∙ (λ i. inside_step (inside_by n end) (run_found is_ascii_whitespace gap at is_gap i) (after_found is_ascii_whitespace gap at is_gap i) (next_at end (after_found is_ascii_whitespace gap at is_gap i)))

  pub next_sound : (at : List ℕ) → 0 < length at → is_at_end end at ≡ false → next_at end at ≡ GoesOnWith (front_of at)
  next_sound [] some no_end = absurd (omega arith)
  next_sound (b ∷ bs) some no_end =
      let parts = or_false (begins (45 ∷ end) (b ∷ bs)) (begins end (b ∷ bs)) no_end in rw (parts.0, parts.1) refl

  pub next_closes : (dash : Bool) (at rest : List ℕ) → length end ≡ 2 → IsEnd end dash at rest → next_at end at ≡ Closes dash rest
  next_closes true at rest two is =
      let passes = splits_begins (45 ∷ end) (45 ∷ (end ++ rest)) rest refl in
      ap (next_at end) is ∙ rw passes (ap (Closes true) (drop_at end rest (length end) refl))
  next_closes false [] rest two is = absurd (omega (arith, ap length is.0, length-append end rest))
  next_closes false (b ∷ bs) rest two is =
      let passes = splits_begins end (b ∷ bs) rest is.0 in
      rw (is.1, passes) (ap (Closes false) (ap (drop (length end)) is.0 ∙ drop_at end rest (length end) refl))

  fault_at : (f : Fault) (at : List ℕ) → IsFault f at → 0 < length at
  fault_at f [] here = absurd (fault_some f here)
  fault_at f (b ∷ bs) here = omega arith

  pub inside_found : (is : List Item) (c : Close) (n : ℕ) (bytes : List ℕ) → length end ≡ 2 → IsInside end is c bytes → length bytes < n → inside_by n end bytes ≡ (is, c)
  inside_found [] c zero bytes two inside lt = absurd (omega arith)
  inside_found (i ∷ is) c zero bytes two inside lt = absurd (omega arith)
  inside_found [] (End gap dash rest) (suc n) bytes two (at, e, is_gap, ends) lt =
      at_gap n gap at bytes e is_gap ∙ ap (inside_step (inside_by n end) gap at) (next_closes dash at rest two ends)
  inside_found [] (Open gap) (suc n) bytes two (e, is_gap) lt = at_gap n gap [] bytes (e ∙ sym (append-nil gap)) is_gap
  inside_found [] (Bad gap f at) (suc n) bytes two (e, is_gap, no_end, here) lt =
      at_gap n gap at bytes e is_gap ∙ ap (inside_step (inside_by n end) gap at) (next_sound at (fault_at f at here) no_end ∙ ap GoesOnWith (fault_found f at here))
  inside_found (i ∷ is) c (suc n) bytes two (rest, e, is_gap, no_end, here, inside) lt =
      let some = spelled_some i.lexeme rest here in
      let at : List ℕ = spelled i.lexeme ++ rest in
      let long = length-append (spelled i.lexeme) rest in
      let whole = length-append i.gap at in
      at_gap n i.gap at bytes e is_gap
      ∙ ap (inside_step (inside_by n end) i.gap at) (next_sound at (omega arith) no_end ∙ ap GoesOnWith (lexeme_found i.lexeme rest here))
      ∙ ap (λ p. (i ∷ p.0, p.1)) (inside_found is c n rest two inside (omega (arith, ap length e)))

  -- what follows the end of a tag is shorter
  pub end_shortens : (is : List Item) (gap : List ℕ) (dash : Bool) (rest bytes : List ℕ) → length end ≡ 2 → IsInside end is (End gap dash rest) bytes → length rest < length bytes
  end_shortens [] gap true rest bytes two (at, e, is_gap, ends) =
      omega (arith, ap length e, ap length ends, length-append gap at, length-append end rest)
  end_shortens [] gap false rest bytes two (at, e, is_gap, ends) =
      omega (arith, ap length e, ap length ends.0, length-append gap at, length-append end rest)
  end_shortens (i ∷ is) gap dash rest bytes two (following, e, is_gap, no_end, here, inside) =
      omega (arith, end_shortens is gap dash rest following two inside, ap length e, length-append i.gap (spelled i.lexeme ++ following), length-append (spelled i.lexeme) following)
