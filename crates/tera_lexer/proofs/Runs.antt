-- The longest run of bytes that pass a test.
use Rattle.std.proofs.Common.{◌≡◌, ℕ, suc, Bool, true, false, List, [], ◌∷◌, ◌++◌, length, take, drop, ⊎_elim, sym, ap, ◌∙◌, refl, subst, one-add}
use Rattle.std.specs.List.{prefix_len}
use Rattle.std.proofs.lemmas.Bool.{cases_Bool}
use Rattle.std.proofs.lemmas.List.{take_at, drop_at, take-append-drop}
use Rattle.tera_lexer.specs.grammar.Lexeme.{IsRun}
use Rattle.tera_lexer.specs.reading.Front.{run_of, after_run}

-- one byte more, or none
pub run_grows : (p : ℕ → Bool) (b : ℕ) (bs : List ℕ) → p b ≡ true → prefix_len p (b ∷ bs) ≡ suc (prefix_len p bs)
run_grows p b bs here = rw here (one-add (prefix_len p bs))

pub run_ends : (p : ℕ → Bool) (b : ℕ) (bs : List ℕ) → p b ≡ false → prefix_len p (b ∷ bs) ≡ 0
run_ends p b bs other = rw other refl

pub run_sound : (p : ℕ → Bool) (bytes : List ℕ) → IsRun p (run_of p bytes) (after_run p bytes)
run_sound p [] = (tt, tt)
run_sound p (b ∷ bs) =
    let sound : ℕ → Type 0 = λ n. IsRun p (take n (b ∷ bs)) (drop n (b ∷ bs)) in
    ⊎_elim
    (λ here. let rec = run_sound p bs in subst sound (sym (run_grows p b bs here)) ((here, rec.0), rec.1))
    (λ other. subst sound (sym (run_ends p b bs other)) (tt, other))
    (cases_Bool (p b))

pub run_splits : (p : ℕ → Bool) (bytes : List ℕ) → bytes ≡ run_of p bytes ++ after_run p bytes
run_splits p bytes = sym (take-append-drop (prefix_len p bytes) bytes)

-- a run that is the longest is found
run_length : (p : ℕ → Bool) (run rest : List ℕ) → IsRun p run rest → prefix_len p (run ++ rest) ≡ length run
run_length p [] [] is = refl
run_length p [] (b ∷ bs) is = run_ends p b bs is.1
run_length p (b ∷ bs) rest is = run_grows p b (bs ++ rest) is.0.0 ∙ ap suc (run_length p bs rest (is.0.1, is.1))

pub run_found : (p : ℕ → Bool) (run rest : List ℕ) → IsRun p run rest → run_of p (run ++ rest) ≡ run
run_found p run rest is = take_at run rest (prefix_len p (run ++ rest)) (sym (run_length p run rest is))

pub after_found : (p : ℕ → Bool) (run rest : List ℕ) → IsRun p run rest → after_run p (run ++ rest) ≡ rest
after_found p run rest is = drop_at run rest (prefix_len p (run ++ rest)) (sym (run_length p run rest is))
