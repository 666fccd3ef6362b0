-- The escapes of strings, one after another.
use Rattle.std.proofs.Common.{◌≡◌, ℕ, ◌<◌, ◌≤◌, true, false, List, [], ◌∷◌, ◌++◌, length, drop, get_or, ⊎_elim, sym, ap, ◌∙◌, refl, subst, arith, IsUtf8}
use Rattle.std.specs.Prelude.{◌==◌}
use Rattle.std.specs.List.{AllByRecursion, prefix_len}
use Rattle.std.specs.Str.{IsCharBoundary}
use Rattle.std.proofs.lemmas.Bool.{cases_Bool}
use Rattle.std.proofs.lemmas.Bool.Decides.{nat_tests, Decides-eqb}
use Rattle.std.proofs.lemmas.Str.{IsCharBoundary-end}
use Rattle.std.proofs.lemmas.List.{append-nil}
use Rattle.std.proofs.lemmas.List.Folds.{length-prefix_len}
use Rattle.tera_lexer.specs.grammar.Lexeme.{StopsAt, Inner, Plain, Escape, IsInner, written, is_known, escaped, value_of, has_unknown_escape}
use Rattle.tera_lexer.specs.reading.Front.{run_of, after_run, is_plain, unescaped, unknown_in}
use Rattle.tera_lexer.proofs.Runs.{run_sound, run_splits}
use Rattle.tera_lexer.proofs.Closings.{not_equal}
use Rattle.tera_lexer.proofs.Cuts.{cut_after_ascii, cut_before_byte}

-- a backslash or another byte, at the front
unknown_backslash : (b : ℕ) (bs : List ℕ) → (b == 92) ≡ true → unknown_in false (b ∷ bs) ≡ unknown_in true bs
unknown_backslash b bs here = rw here refl

unknown_other : (b : ℕ) (bs : List ℕ) → (b == 92) ≡ false → unknown_in false (b ∷ bs) ≡ unknown_in false bs
unknown_other b bs other = rw other refl

unescaped_other : (b : ℕ) (bs : List ℕ) → (b == 92) ≡ false → unescaped (b ∷ bs) ≡ b ∷ unescaped bs
unescaped_other b [] other = refl
unescaped_other b (c ∷ cs) other = rw other refl

-- what is written between quotes
pub unescaped_written : (quote : ℕ) (is : List Inner) → AllByRecursion (IsInner quote) is → unescaped (written is) ≡ value_of is
unescaped_written quote [] all = refl
unescaped_written quote (Plain b ∷ is) all =
    unescaped_other b (written is) (not_equal b 92 all.0.1) ∙ ap (λ l. b ∷ l) (unescaped_written quote is all.1)
unescaped_written quote (Escape b ∷ is) all = ap (λ l. escaped b ∷ l) (unescaped_written quote is all.1)

pub unknown_written : (quote : ℕ) (is : List Inner) → AllByRecursion (IsInner quote) is → unknown_in false (written is) ≡ has_unknown_escape is
unknown_written quote [] all = refl
unknown_written quote (Plain b ∷ is) all = unknown_other b (written is) (not_equal b 92 all.0.1) ∙ unknown_written quote is all.1
unknown_written quote (Escape b ∷ is) all =
    ⊎_elim (λ known. rw known (unknown_written quote is all.1)) (λ unknown. rw unknown refl) (cases_Bool (is_known b))

-- the bytes before the next backslash stand for themselves
plain_is : (b : ℕ) → is_plain b ≡ true → (b == 92) ≡ false
plain_is b h = grind (arith, nat_tests)

backslash_is : (b : ℕ) → is_plain b ≡ false → b ≡ 92
backslash_is b h = grind (arith, nat_tests)

plain_unescaped : (run following : List ℕ) → AllByRecursion (λ b. is_plain b ≡ true) run → unescaped (run ++ following) ≡ run ++ unescaped following
plain_unescaped [] following all = refl
plain_unescaped (b ∷ run) following all = unescaped_other b (run ++ following) (plain_is b all.0) ∙ ap (λ l. b ∷ l) (plain_unescaped run following all.1)

plain_unknown : (run following : List ℕ) → AllByRecursion (λ b. is_plain b ≡ true) run → unknown_in false (run ++ following) ≡ unknown_in false following
plain_unknown [] following all = refl
plain_unknown (b ∷ run) following all = unknown_other b (run ++ following) (plain_is b all.0) ∙ plain_unknown run following all.1

pub run_unescaped : (bytes : List ℕ) → unescaped bytes ≡ run_of is_plain bytes ++ unescaped (after_run is_plain bytes)
run_unescaped bytes = ap unescaped (run_splits is_plain bytes) ∙ plain_unescaped (run_of is_plain bytes) (after_run is_plain bytes) (run_sound is_plain bytes).0

pub run_unknown : (bytes : List ℕ) → unknown_in false bytes ≡ unknown_in false (after_run is_plain bytes)
run_unknown bytes = ap (unknown_in false) (run_splits is_plain bytes) ∙ plain_unknown (run_of is_plain bytes) (after_run is_plain bytes) (run_sound is_plain bytes).0

-- and then comes an escape, if two bytes are left
pub record IsEscapeAt (bytes : List ℕ) : Type 0 where
  pub splits : bytes ≡ 92 ∷ get_or bytes 1 0 ∷ drop 2 bytes
  pub known : is_known (get_or bytes 1 0) ≡ true
  pub value : unescaped bytes ≡ escaped (get_or bytes 1 0) ∷ unescaped (drop 2 bytes)
  pub rest : unknown_in false (drop 2 bytes) ≡ false

known_or : (b : ℕ) (bs : List ℕ) → unknown_in true (b ∷ bs) ≡ false → (is_known b ≡ true) × (unknown_in false bs ≡ false)
known_or b bs none = ⊎_elim (λ known. (known, rw known at none)) (λ unknown. let clash : true ≡ false = rw unknown at none in cc) (cases_Bool (is_known b))

pub short_unescaped : (bytes : List ℕ) → length bytes < 2 → unescaped bytes ≡ bytes
short_unescaped [] short = refl
short_unescaped (b ∷ []) short = refl
short_unescaped (b ∷ c ∷ cs) short = absurd (omega arith)

escape_front : (bytes : List ℕ) → 2 ≤ length bytes → is_plain (get_or bytes 0 0) ≡ false → unknown_in false bytes ≡ false → IsEscapeAt bytes
escape_front [] two first none = absurd (omega arith)
escape_front (b ∷ []) two first none = absurd (omega arith)
escape_front (b ∷ c ∷ cs) two first none =
    let is = backslash_is b first in
    let test : (b == 92) ≡ true = (Decides-eqb b 92).1 is in
    let (known, rest) = known_or c cs (sym (unknown_backslash b (c ∷ cs) test) ∙ none) in
    record { splits = ap (λ x. x ∷ c ∷ cs) is; known = known; value = rw test refl; rest = rest }

stop_front : (bytes : List ℕ) → 0 < length bytes → StopsAt is_plain bytes → is_plain (get_or bytes 0 0) ≡ false
stop_front [] some stops = absurd (omega arith)
stop_front (b ∷ bs) some stops = stops

pub escape_at : (bytes : List ℕ) → 2 ≤ length (after_run is_plain bytes) → unknown_in false bytes ≡ false → IsEscapeAt (after_run is_plain bytes)
escape_at bytes two none =
    escape_front (after_run is_plain bytes) two (stop_front (after_run is_plain bytes) (omega arith) (run_sound is_plain bytes).1) (sym (run_unknown bytes) ∙ none)

-- where the text may be cut
known_ascii : (b : ℕ) → is_known b ≡ true → b < 128
known_ascii b h = grind (arith, nat_tests)

pub escape_cut : (bytes : List ℕ) → IsUtf8 bytes → IsEscapeAt bytes → IsCharBoundary bytes 2
escape_cut bytes utf8 at = cut_after_ascii bytes (92 ∷ get_or bytes 1 0 ∷ []) (drop 2 bytes) utf8 at.splits (omega arith, (known_ascii (get_or bytes 1 0) at.known, tt))

pub backslash_cut : (bytes rest : List ℕ) → IsUtf8 bytes → bytes ≡ 92 ∷ rest → IsCharBoundary bytes 1
backslash_cut bytes rest utf8 e = cut_after_ascii bytes (92 ∷ []) rest utf8 e (omega arith, tt)

pub run_cut_plain : (bytes : List ℕ) → IsUtf8 bytes → IsCharBoundary bytes (prefix_len is_plain bytes)
run_cut_plain bytes utf8 = subst (IsCharBoundary bytes) (length-prefix_len is_plain bytes) (by (after_run is_plain bytes) (run_splits is_plain bytes) (run_sound is_plain bytes).1)
  where
    by : (following : List ℕ) → bytes ≡ run_of is_plain bytes ++ following → StopsAt is_plain following → IsCharBoundary bytes (length (run_of is_plain bytes))
    by [] e stops = subst (λ n. IsCharBoundary bytes n) (ap length (e ∙ append-nil (run_of is_plain bytes))) (IsCharBoundary-end bytes)
    by (b ∷ bs) e stops = cut_before_byte bytes (run_of is_plain bytes) bs b e (omega (arith, backslash_is b stops))
