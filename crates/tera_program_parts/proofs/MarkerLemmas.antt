-- The words of a text, and the markers that they give.
use Rattle.std.proofs.Common.{◌≡◌, ◌∷◌, ℕ, zero, suc, List, [], Bor, Bool, true, false, None, get_or, length, map, refl, sym, ap, subst, arith}
use Rattle.std.specs.Prelude.{◌&&◌, ⊤}
use Rattle.std.specs.Char.{is_not_whitespace}
use Rattle.std.specs.Iterator.{DrainsIf, Yields}
use Rattle.std.specs.Str.{NoCharPasses, bytes_eq}
use Rattle.std.specs.Str.Iter.{split_whitespace_rest, split_whitespace_steps}
use Rattle.std.specs.declared.str.SplitWhitespace.{SplitWhitespace}
use Rattle.std.proofs.lemmas.Slice.Eq.{bytes_eq-Decides}
use Rattle.tera_lexer.specs.grammar.Marks.{Marks}
use Rattle.tera_program_parts.specs.Markers.{AreWords}

abbrev pub texts_of : List (Bor (List ℕ)) → List (List ℕ)
texts_of words = map (λ w. w.now) words

-- ---- what the iterator gives

come : (xs : List (Bor (List ℕ))) (s t u : SplitWhitespace) → Yields split_whitespace_steps s xs t → split_whitespace_steps t None u → AreWords (split_whitespace_rest s) (texts_of xs)
come [] s t u same end = subst (λ j. NoCharPasses is_not_whitespace (split_whitespace_rest j)) (sym same) end.1
come (x ∷ xs) s t u (j, step, more) end = (
  split_whitespace_rest j,
  record { gap = step.0; split = step.1; some = step.2; blank = step.3; solid = step.4; ends = step.5 },
  come xs j t u more end,
)

pub all_words : (text : List ℕ) (words xs : List (Bor (List ℕ))) (s : SplitWhitespace) → split_whitespace_rest s ≡ text → words ≡ xs → DrainsIf split_whitespace_steps ⊤ s xs → AreWords text (texts_of words)
all_words text words xs s reads are (t, some, end) =
    let (u, last) = end tt in
    subst (λ b. AreWords b (texts_of words)) reads (subst (λ ys. AreWords (split_whitespace_rest s) (texts_of ys)) (sym are) (come xs s t u some last))

-- ---- six of them

abbrev firsts : {X : Type 0} → ℕ → (ℕ → X) → List X
firsts zero f = []
firsts (suc n) f = f 0 ∷ firsts n (λ k. f (suc k))

by_places : {X : Type 0} (d : X) (n : ℕ) (xs : List X) → length xs ≡ n → xs ≡ firsts n (λ k. get_or xs k d)
by_places d zero [] e = refl
by_places d zero (x ∷ xs) e = absurd (omega (arith, e))
by_places d (suc n) [] e = absurd (omega (arith, e))
by_places d (suc n) (x ∷ xs) e = ap (λ ys. x ∷ ys) (by_places d n xs (omega (arith, e)))

pub six_words : (text : List ℕ) (words : List (Bor (List ℕ))) (none : Bor (List ℕ)) {a b c d e f : List ℕ} → length words ≡ 6 → a ≡ (get_or words 0 none).now → b ≡ (get_or words 1 none).now → c ≡ (get_or words 2 none).now
    → d ≡ (get_or words 3 none).now → e ≡ (get_or words 4 none).now → f ≡ (get_or words 5 none).now → AreWords text (texts_of words) → AreWords text (a ∷ b ∷ c ∷ d ∷ e ∷ f ∷ [])
six_words text words none number a_is b_is c_is d_is e_is f_is are =
    subst (AreWords text) (λ i. sym a_is i ∷ sym b_is i ∷ sym c_is i ∷ sym d_is i ∷ sym e_is i ∷ sym f_is i ∷ [])
    (subst (λ ws. AreWords text (texts_of ws)) (by_places none 6 words number) are)

-- ---- the same markers

no_way : false ≡ true → ⊥
no_way e = cc

both : (a b : Bool) → (a && b) ≡ true → (a ≡ true) × (b ≡ true)
both true b e = (refl, e)
both false b e = absurd (no_way e)

pub same_marks : (m n : Marks)
    → (bytes_eq m.block_start n.block_start && (bytes_eq m.block_end n.block_end && (bytes_eq m.variable_start n.variable_start && (bytes_eq m.variable_end n.variable_end && (bytes_eq m.comment_start n.comment_start && bytes_eq m.comment_end n.comment_end))))) ≡ true
    → m ≡ n
same_marks m n e =
    let (one, more) = both _ _ e in
    let (two, more2) = both _ _ more in
    let (three, more3) = both _ _ more2 in
    let (four, more4) = both _ _ more3 in
    let (five, last) = both _ _ more4 in
    λ i. record {
      block_start = (bytes_eq-Decides m.block_start n.block_start).0 one i;
      block_end = (bytes_eq-Decides m.block_end n.block_end).0 two i;
      variable_start = (bytes_eq-Decides m.variable_start n.variable_start).0 three i;
      variable_end = (bytes_eq-Decides m.variable_end n.variable_end).0 four i;
      comment_start = (bytes_eq-Decides m.comment_start n.comment_start).0 five i;
      comment_end = (bytes_eq-Decides m.comment_end n.comment_end).0 last i;
    }
