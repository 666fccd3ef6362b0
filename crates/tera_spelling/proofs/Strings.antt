-- The inside of a string that is spelled.
use Rattle.std.proofs.Common.{◌≡◌, ◌≢◌, ℕ, true, false, not, ◌||◌, List, [], ◌∷◌, ⊎_elim, ap, ◌∙◌, refl, arith}
use Rattle.std.specs.Prelude.{if◌then◌else◌}
use Rattle.std.specs.List.{AllByRecursion, list_any}
use Rattle.std.proofs.lemmas.Bool.{cases_Bool}
use Rattle.std.proofs.lemmas.Bool.Decides.{nat_tests}
use Rattle.tera_lexer.specs.grammar.Lexeme.{Inner, Plain, Escape, IsInner, written, has_escape, is_known, has_unknown_escape, escaped, value_of}
use Rattle.tera_spelling.specs.Spelling.{is_special, with_escapes}

abbrev pub inner_of : ℕ → Inner
inner_of b = if is_special b then Escape b else Plain b

abbrev pub inside_of : List ℕ → List Inner
inside_of [] = []
inside_of (b ∷ bs) = inner_of b ∷ inside_of bs

special_known : (b : ℕ) → is_special b ≡ true → is_known b ≡ true
special_known b h = grind (arith, nat_tests)

special_stays : (b : ℕ) → is_special b ≡ true → escaped b ≡ b
special_stays b h = grind (arith, nat_tests)

plain_fits : (b : ℕ) → is_special b ≡ false → (b ≢ 34) × (b ≢ 92)
plain_fits b h = (λ e. grind (arith, nat_tests), λ e. grind (arith, nat_tests))

pub written_is : (text : List ℕ) → written (inside_of text) ≡ with_escapes text
written_is [] = refl
written_is (b ∷ bs) =
    ⊎_elim
    (λ special. rw special (ap (λ l. 92 ∷ b ∷ l) (written_is bs)))
    (λ plain. rw plain (ap (λ l. b ∷ l) (written_is bs)))
    (cases_Bool (is_special b))

pub value_is : (text : List ℕ) → value_of (inside_of text) ≡ text
value_is [] = refl
value_is (b ∷ bs) =
    ⊎_elim
    (λ special. rw special (λ i. special_stays b special i ∷ value_is bs i))
    (λ plain. rw plain (ap (λ l. b ∷ l) (value_is bs)))
    (cases_Bool (is_special b))

pub inside_fits : (text : List ℕ) → AllByRecursion (IsInner 34) (inside_of text)
inside_fits [] = tt
inside_fits (b ∷ bs) =
    ⊎_elim
    (λ special. rw special (tt, inside_fits bs))
    (λ plain. rw plain (plain_fits b plain, inside_fits bs))
    (cases_Bool (is_special b))

pub inside_known : (text : List ℕ) → has_unknown_escape (inside_of text) ≡ false
inside_known [] = refl
inside_known (b ∷ bs) =
    ⊎_elim
    (λ special. rw special (ap (λ k. not k || has_unknown_escape (inside_of bs)) (special_known b special) ∙ inside_known bs))
    (λ plain. rw plain (inside_known bs))
    (cases_Bool (is_special b))

pub escapes_are : (text : List ℕ) → has_escape (inside_of text) ≡ list_any is_special text
escapes_are [] = refl
escapes_are (b ∷ bs) =
    ⊎_elim
    (λ special. rw special refl)
    (λ plain. rw plain (escapes_are bs))
    (cases_Bool (is_special b))

-- a text with nothing special is written as it is
pub plain_stays : (text : List ℕ) → list_any is_special text ≡ false → with_escapes text ≡ text
plain_stays [] none = refl
plain_stays (b ∷ bs) none =
    ⊎_elim
    (λ special. let clash : true ≡ false = rw special at none in cc)
    (λ plain. rw plain (ap (λ l. b ∷ l) (plain_stays bs (rw plain at none))))
    (cases_Bool (is_special b))
