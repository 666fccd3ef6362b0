-- Texts before a start marker.
use Rattle.std.proofs.Common.{◌≡◌, ℕ, zero, suc, ◌+◌, ◌-◌, ◌<◌, ◌≤◌, Bool, true, false, ◌||◌, List, [], ◌∷◌, length, take, drop, get_or, ⊎_elim, subst, sym, ap, refl, add-zero, ◌∙◌, arith, take-append-drop}
use Rattle.std.specs.Prelude.{◌==◌}
use Rattle.std.proofs.lemmas.Bool.{cases_Bool, cases_lt, eq-eqb}
use Rattle.std.proofs.lemmas.List.{drop_more, drop_all, get_or-drop}
use Rattle.memchr.specs.Find.{Nowhere, Passes, is_byte3}
use Rattle.tera_lexer.specs.grammar.Marks.{Marks, IsValid, NowhereIn, begins}
use Rattle.tera_lexer.specs.grammar.Division.{is_at_start, EndsText}
use Rattle.tera_lexer.specs.code.Markers.{ArePairs}
use Rattle.tera_lexer.specs.declared.lexer.markers.Pairs.{Pairs}
use Rattle.tera_lexer.proofs.Markers.{first_bytes, or_true}

-- what begins at no place begins nowhere before the rest
pub nowhere_before : (test : List ℕ → Bool) (bytes : List ℕ) (n : ℕ) → n ≤ length bytes → ((k : ℕ) → k < n → test (drop k bytes) ≡ false) → NowhereIn test (take n bytes) (drop n bytes)
nowhere_before test bytes zero le none = tt
nowhere_before test [] (suc n) le none = absurd (omega arith)
nowhere_before test (b ∷ bs) (suc n) le none =
    (subst (λ l. test (b ∷ l) ≡ false) (sym (take-append-drop n bs)) (none 0 (omega arith)), nowhere_before test bs n (omega arith) (λ k lt. none (suc k) (omega arith)))

-- the byte is one of three
any_first : (p q r : Bool) → p ≡ true → (p || q || r) ≡ true
any_first true q r e = refl
any_first false q r e = cc

any_second : (p q r : Bool) → q ≡ true → (p || q || r) ≡ true
any_second true true r e = refl
any_second false true r e = refl
any_second p false r e = cc

any_third : (p q r : Bool) → r ≡ true → (p || q || r) ≡ true
any_third true q true e = refl
any_third false true true e = refl
any_third false false true e = refl
any_third p q false e = cc

-- the first bytes of the start markers
pub record FirstBytes (m : Marks) (v b c : ℕ) : Type 0 where
  pub variable : v ≡ get_or m.variable_start 0 0
  pub block : b ≡ get_or m.block_start 0 0
  pub comment : c ≡ get_or m.comment_start 0 0

pub firsts : (m : Marks) (p : Pairs) → ArePairs m p → FirstBytes m p.variable.first p.block.first p.comment.first
firsts m p pairs = record { variable = pairs.variable.first; block = pairs.block.first; comment = pairs.comment.first }

module _ (m : Marks) (valid : IsValid m) (variable block comment : ℕ) (first : FirstBytes m variable block comment) (bytes : List ℕ) where
  -- where a start marker begins is one of them
  passes_at_start : (k : ℕ) → is_at_start m (drop k bytes) ≡ true → Passes (is_byte3 variable block comment) bytes k
  passes_at_start k here =
      let at : get_or (drop k bytes) 0 0 ≡ get_or bytes k 0 = get_or-drop k bytes 0 0 ∙ ap (λ i. get_or bytes i 0) (add-zero k) in
      ⊎_elim
      (λ v. any_first (get_or bytes k 0 == variable) (get_or bytes k 0 == block) (get_or bytes k 0 == comment) (eq-eqb (get_or bytes k 0) variable (sym at ∙ (first_bytes m.variable_start (drop k bytes) valid.variable_start v).0 ∙ sym first.variable)))
      (λ other. ⊎_elim
      (λ b. any_second (get_or bytes k 0 == variable) (get_or bytes k 0 == block) (get_or bytes k 0 == comment) (eq-eqb (get_or bytes k 0) block (sym at ∙ (first_bytes m.block_start (drop k bytes) valid.block_start b).0 ∙ sym first.block)))
      (λ c. any_third (get_or bytes k 0 == variable) (get_or bytes k 0 == block) (get_or bytes k 0 == comment) (eq-eqb (get_or bytes k 0) comment (sym at ∙ (first_bytes m.comment_start (drop k bytes) valid.comment_start c).0 ∙ sym first.comment)))
      (or_true (begins m.block_start (drop k bytes)) (begins m.comment_start (drop k bytes)) other))
      (or_true (begins m.variable_start (drop k bytes)) (begins m.block_start (drop k bytes) || begins m.comment_start (drop k bytes)) here)

  -- none begins before the place that the search answers, nor before that at which it began
  pub none_passed : (from n : ℕ) → ((k : ℕ) → k < from → is_at_start m (drop k bytes) ≡ false) → Nowhere (Passes (is_byte3 variable block comment) (drop from bytes)) 0 n → (k : ℕ) → k < from + n → is_at_start m (drop k bytes) ≡ false
  none_passed from n before nowhere k lt =
      ⊎_elim
      (λ less. before k less)
      (λ le.
      let j : ℕ = k - from in
      let same : from + j ≡ k = omega arith in
      ⊎_elim
      (λ here. absurd (nowhere j (omega arith) (omega arith) (ap (is_byte3 variable block comment) (get_or-drop from bytes j 0 ∙ ap (λ i. get_or bytes i 0) same) ∙ passes_at_start k here)))
      (λ none. none)
      (cases_Bool (is_at_start m (drop k bytes))))
      (cases_lt k from)

  pub none_passed_yet : (at : ℕ) → ((k : ℕ) → k < at → is_at_start m (drop k bytes) ≡ false) → is_at_start m (drop at bytes) ≡ false → (k : ℕ) → k < at + 1 → is_at_start m (drop k bytes) ≡ false
  none_passed_yet at before here k lt = ⊎_elim (λ less. before k less) (λ le. subst (λ i. is_at_start m (drop i bytes) ≡ false) (omega arith) here) (cases_lt k at)

pub text_ends_here : (m : Marks) (bytes : List ℕ) (i : ℕ) → i < length bytes → is_at_start m (drop i bytes) ≡ true → EndsText m (drop i bytes)
text_ends_here m bytes i lt here =
    let at = drop_more bytes i 0 lt in
    rw at (subst (λ d. is_at_start m d ≡ true) at here)

pub text_ends_all : (m : Marks) (bytes : List ℕ) (i : ℕ) → length bytes ≤ i → EndsText m (drop i bytes)
text_ends_all m bytes i le = rw (drop_all i bytes le) tt
