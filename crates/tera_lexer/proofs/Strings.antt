-- What a string has between its quotes.
use Rattle.std.proofs.Common.{◌≡◌, ◌≢◌, ℕ, true, false, List, [], ◌∷◌, ◌++◌, Option, Some, None, ⊎_elim, inl, inr, sym, ap, ◌∙◌, refl, subst}
use Rattle.std.specs.Prelude.{◌==◌}
use Rattle.std.specs.List.{AllByRecursion}
use Rattle.std.proofs.lemmas.Bool.{cases_Bool, eqb-true, eqb-false}
use Rattle.std.proofs.lemmas.Bool.Decides.{Decides-eqb}
use Rattle.tera_lexer.specs.grammar.Lexeme.{Inner, Plain, Escape, IsInner, written, IsUnclosed}
use Rattle.std.proofs.lemmas.List.{append-nil}
use Rattle.tera_lexer.specs.reading.Front.{string_at, with_inner}

-- what is found after a quote is there
abbrev pub IsStringAt : ℕ → List ℕ → Option (List Inner × List ℕ) → Type 0
IsStringAt quote bytes None = IsUnclosed quote bytes
IsStringAt quote bytes (Some p) = (bytes ≡ written p.0 ++ quote ∷ p.1) × AllByRecursion (IsInner quote) p.0

with_plain : (quote b : ℕ) (bytes : List ℕ) (o : Option (List Inner × List ℕ)) → b ≢ quote → b ≢ 92 → IsStringAt quote bytes o → IsStringAt quote (b ∷ bytes) (with_inner (Plain b) o)
with_plain quote b bytes None other no_escape (is, all, ends) =
    (Plain b ∷ is, ((other, no_escape), all), ⊎_elim (λ e. inl (ap (λ l. b ∷ l) e)) (λ e. inr (ap (λ l. b ∷ l) e)) ends)
with_plain quote b bytes (Some p) other no_escape (e, all) = (ap (λ l. b ∷ l) e, ((other, no_escape), all))

with_escape : (quote b : ℕ) (bytes : List ℕ) (o : Option (List Inner × List ℕ)) → IsStringAt quote bytes o → IsStringAt quote (92 ∷ b ∷ bytes) (with_inner (Escape b) o)
with_escape quote b bytes None (is, all, ends) =
    (Escape b ∷ is, (tt, all), ⊎_elim (λ e. inl (ap (λ l. 92 ∷ b ∷ l) e)) (λ e. inr (ap (λ l. 92 ∷ b ∷ l) e)) ends)
with_escape quote b bytes (Some p) (e, all) = (ap (λ l. 92 ∷ b ∷ l) e, (tt, all))

pub string_sound : (quote : ℕ) (bytes : List ℕ) → IsStringAt quote bytes (string_at quote bytes)
string_sound quote [] = ([], tt, inl refl)
string_sound quote (b ∷ []) =
    ⊎_elim
    (λ closes. rw closes (ap (λ c. c ∷ []) (eqb-true b quote closes), tt))
    (λ other. rw other (⊎_elim
    (λ escape. ([], tt, inr (ap (λ c. c ∷ []) (eqb-true b 92 escape))))
    (λ plain. (Plain b ∷ [], ((eqb-false b quote other, eqb-false b 92 plain), tt), inl refl))
    (cases_Bool (b == 92))))
    (cases_Bool (b == quote))
string_sound quote (b ∷ c ∷ cs) =
    ⊎_elim
    (λ closes. rw closes (ap (λ d. d ∷ c ∷ cs) (eqb-true b quote closes), tt))
    (λ other. rw other (⊎_elim
    (λ escape. rw escape (subst (λ d. IsStringAt quote (d ∷ c ∷ cs) (with_inner (Escape c) (string_at quote cs))) (sym (eqb-true b 92 escape)) (with_escape quote c cs (string_at quote cs) (string_sound quote cs))))
    (λ plain. rw plain (with_plain quote b (c ∷ cs) (string_at quote (c ∷ cs)) (eqb-false b quote other) (eqb-false b 92 plain) (string_sound quote (c ∷ cs))))
    (cases_Bool (b == 92))))
    (cases_Bool (b == quote))

not_equal : (a b : ℕ) → a ≢ b → (a == b) ≡ false
not_equal a b other = ⊎_elim (λ same. absurd (other (eqb-true a b same))) (λ no. no) (cases_Bool (a == b))

equal : (a : ℕ) → (a == a) ≡ true
equal a = (Decides-eqb a a).1 refl

-- one step of the search
at_plain : (quote b : ℕ) (bytes : List ℕ) → b ≢ quote → b ≢ 92 → string_at quote (b ∷ bytes) ≡ with_inner (Plain b) (string_at quote bytes)
at_plain quote b [] other plain = rw (not_equal b quote other) refl
at_plain quote b (c ∷ cs) other plain = rw (not_equal b quote other, not_equal b 92 plain) refl

at_escape : (quote b : ℕ) (bytes : List ℕ) → quote ≢ 92 → string_at quote (92 ∷ b ∷ bytes) ≡ with_inner (Escape b) (string_at quote bytes)
at_escape quote b bytes other = rw (not_equal 92 quote (λ e. other (sym e))) refl

at_close : (quote : ℕ) (rest : List ℕ) → string_at quote (quote ∷ rest) ≡ Some ([], rest)
at_close quote [] = rw (equal quote) refl
at_close quote (c ∷ cs) = rw (equal quote) refl

-- a string that is there is found
pub string_found : (quote : ℕ) (is : List Inner) (rest : List ℕ) → quote ≢ 92 → AllByRecursion (IsInner quote) is → string_at quote (written is ++ quote ∷ rest) ≡ Some (is, rest)
string_found quote [] rest other all = at_close quote rest
string_found quote (Plain b ∷ is) rest other all =
    at_plain quote b (written is ++ quote ∷ rest) all.0.0 all.0.1 ∙ ap (with_inner (Plain b)) (string_found quote is rest other all.1)
string_found quote (Escape b ∷ is) rest other all =
    at_escape quote b (written is ++ quote ∷ rest) other ∙ ap (with_inner (Escape b)) (string_found quote is rest other all.1)

unclosed_by : (quote : ℕ) (is : List Inner) (tail : List ℕ) → quote ≢ 92 → AllByRecursion (IsInner quote) is → string_at quote tail ≡ None → string_at quote (written is ++ tail) ≡ None
unclosed_by quote [] tail other all none = none
unclosed_by quote (Plain b ∷ is) tail other all none =
    at_plain quote b (written is ++ tail) all.0.0 all.0.1 ∙ ap (with_inner (Plain b)) (unclosed_by quote is tail other all.1 none)
unclosed_by quote (Escape b ∷ is) tail other all none =
    at_escape quote b (written is ++ tail) other ∙ ap (with_inner (Escape b)) (unclosed_by quote is tail other all.1 none)

-- and where none closes, none is
pub unclosed_found : (quote : ℕ) (bytes : List ℕ) → quote ≢ 92 → IsUnclosed quote bytes → string_at quote bytes ≡ None
unclosed_found quote bytes other (is, all, ends) =
    ⊎_elim
    (λ e. ap (string_at quote) (e ∙ sym (append-nil (written is))) ∙ unclosed_by quote is [] other all refl)
    (λ e. ap (string_at quote) e ∙ unclosed_by quote is (92 ∷ []) other all (rw (not_equal 92 quote (λ e. other (sym e))) refl))
    ends
