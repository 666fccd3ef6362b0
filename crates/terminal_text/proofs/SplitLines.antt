-- The lines of a text are what `split_inclusive` gives.
use Rattle.std.proofs.Common.{◌≡◌, ◌≢◌, ℕ, ◌<◌, suc, inl, inr, false, eqb, cond, List, [], ◌∷◌, ◌++◌, length, get_or, take, drop, refl, sym, ap, subst, ◌∙◌, lit<, Some, None, arith, append_assoc, append-nil}
use Rattle.std.proofs.lemmas.Bool.Decides.{eqb_tells}
use Rattle.std.proofs.lemmas.List.{append_cancel_left, append_cancel_right, take-append-drop}
use Rattle.std.proofs.lemmas.Str.Pattern.{NoCharPasses-char, drop_at_char}
use Rattle.std.proofs.lemmas.Iterator.{YieldsList}
use Rattle.std.proofs.lemmas.Iterator.Splits.{YieldsList-from_shown_while}
use Rattle.std.specs.List.{onto_first}
use Rattle.std.specs.declared.str.SplitInclusive.{SplitInclusive}
use Rattle.std.specs.Str.Iter.{split_inclusive_steps, split_inclusive_text, split_inclusive_pattern}
use Rattle.std.specs.Str.Pattern.{FindsChar, EndsAtFirstMatch}
use Rattle.terminal_text.specs.Edits.{lines_of}

-- no byte of the text is a line feed
abbrev pub Lacks : List ℕ → Type 0
Lacks [] = Unit {0}
Lacks (b ∷ bs) = (eqb b 10 ≡ false) × Lacks bs

other_byte : (b : ℕ) → b ≢ 10 → eqb b 10 ≡ false
other_byte b h = elim (eqb_tells b 10) [ inl w ↦ absurd (h w.1) | inr w ↦ w.0 ]

lacks : (bs : List ℕ) → ((i : ℕ) → i < length bs → get_or bs i 0 ≢ 10) → Lacks bs
lacks [] h = tt
lacks (b ∷ bs) h = (other_byte b (h 0 (omega arith)), lacks bs (λ i p. h (suc i) (omega arith)))

-- a line is what is before a line feed, with that
pub line_before : (front rest : List ℕ) → Lacks front → lines_of (front ++ 10 ∷ rest) ≡ (front ++ 10 ∷ []) ∷ lines_of rest
line_before [] rest h = refl
line_before (b ∷ bs) rest h =
    ap (λ t. cond t ((b ∷ []) ∷ lines_of (bs ++ 10 ∷ rest)) (onto_first b (lines_of (bs ++ 10 ∷ rest)))) h.0
    ∙ ap (onto_first b) (line_before bs rest h.1)

-- .. or the whole text
pub one_line : (b : ℕ) (bs : List ℕ) → Lacks (b ∷ bs) → lines_of (b ∷ bs) ≡ (b ∷ bs) ∷ []
one_line b [] h = ap (λ t. cond t ((b ∷ []) ∷ []) ((b ∷ []) ∷ [])) h.0
one_line b (c ∷ cs) h =
    ap (λ t. cond t ((b ∷ []) ∷ lines_of (c ∷ cs)) (onto_first b (lines_of (c ∷ cs)))) h.0
    ∙ ap (onto_first b) (one_line c cs h.1)

whole : (w : List ℕ) → 0 < length w → Lacks w → lines_of w ≡ w ∷ []
whole [] some h = absurd (omega arith)
whole (b ∷ bs) some h = one_line b bs h

-- the first line is what ends at the first line feed
pub first_line : (w x rest : List ℕ) → w ≡ x ++ rest → EndsAtFirstMatch (FindsChar 10) w x → lines_of w ≡ x ∷ lines_of rest
first_line w x rest e (None, found, (all, some)) =
    let none : rest ≡ [] = append_cancel_left x rest [] (sym e ∙ (sym all ∙ sym (append-nil x))) in
    whole w some (lacks w (λ i p. NoCharPasses-char 10 w i found (lit< tt) p)) ∙ ap (λ l. l ∷ []) (sym all) ∙ ap (λ r. x ∷ lines_of r) (sym none)
first_line w x rest e (Some (i, j), (before, at), ends) =
    let cut : x ≡ take j w = ends (omega (arith, at.ends)) in
    let left : rest ≡ drop j w =
    append_cancel_left x rest (drop j w)
    (sym e ∙ sym (take-append-drop j w) ∙ ap (λ t. t ++ drop j w) (sym cut)) in
    let parts : w ≡ (take i w ++ 10 ∷ []) ++ drop j w =
    sym (take-append-drop i w) ∙ ap (λ t. take i w ++ t) (drop_at_char 10 w i j at (lit< tt))
    ∙ sym (append_assoc (take i w) (10 ∷ []) (drop j w)) in
    let line : x ≡ take i w ++ 10 ∷ [] =
    append_cancel_right x (take i w ++ 10 ∷ []) (drop j w)
    (ap (λ t. t ++ drop j w) cut ∙ take-append-drop j w ∙ parts) in
    ap lines_of (parts ∙ append_assoc (take i w) (10 ∷ []) (drop j w))
    ∙ line_before (take i w) (drop j w) (lacks (take i w) (λ k p. NoCharPasses-char 10 (take i w) k before (lit< tt) p))
    ∙ ap (λ l. l ∷ lines_of (drop j w)) (sym line)
    ∙ ap (λ r. x ∷ lines_of r) (sym left)

none_left : (w : List ℕ) → length w ≡ 0 → length (lines_of w) ≡ 0
none_left [] e = refl
none_left (b ∷ bs) e = absurd (omega arith)

pub lines_come : {s : SplitInclusive ℕ} (bs : List ℕ) → split_inclusive_text s ≡ bs → split_inclusive_pattern s ≡ 10 → YieldsList (split_inclusive_steps FindsChar (λ a b. b ≡ a)) (λ x. x.now) s (lines_of bs)
lines_come {s} bs text pattern =
    subst (λ t. YieldsList (split_inclusive_steps FindsChar (λ a b. b ≡ a)) (λ x. x.now) s (lines_of t)) text
    (YieldsList-from_shown_while (split_inclusive_steps FindsChar (λ a b. b ≡ a)) (λ x. x.now)
    (λ (t : SplitInclusive ℕ). lines_of (split_inclusive_text t)) (λ (t : SplitInclusive ℕ). split_inclusive_pattern t ≡ 10)
    (λ u v p steps. none_left (split_inclusive_text u) steps.1.0)
    (λ u x v p steps. (
      steps.0 ∙ p,
      first_line (split_inclusive_text u) x.now (split_inclusive_text v) steps.1.0
          (subst (λ c. EndsAtFirstMatch (FindsChar c) (split_inclusive_text u) x.now) p steps.1.1),
    ))
    s pattern)
