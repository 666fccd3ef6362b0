-- How far bytes are UTF-8.
use Rattle.std.proofs.Common.{◌≡◌, ◌<◌, ◌≤◌, ◌++◌, ℕ, zero, suc, List, [], length, take, ⊎_elim, subst, sym, ap, ◌∙◌, arith, Option, Some, None, IfSome, IsUtf8}
use Rattle.std.specs.Str.{IsValidUpTo, is_utf8}
use Rattle.std.specs.Str.Lossy.{valid_len_up_to, utf8_valid_len}
use Rattle.std.proofs.lemmas.Bool.{cases_Bool, cases_lt}
use Rattle.std.proofs.lemmas.List.{take_all}
use Rattle.std.proofs.lemmas.Str.{IsUtf8-nil, IsUtf8-from_is_utf8, is_utf8-from_IsUtf8, utf8_valid_len_le}

front_is : (bytes : List ℕ) (n : ℕ) → IsUtf8 (take (valid_len_up_to bytes n) bytes)
front_is bytes zero = IsUtf8-nil
front_is bytes (suc n) =
    ⊎_elim
    (λ yes. rw yes (IsUtf8-from_is_utf8 (take (suc n) bytes) yes))
    (λ no'. rw no' (front_is bytes n))
    (cases_Bool (is_utf8 (take (suc n) bytes)))

longest_is : (bytes : List ℕ) (n m : ℕ) → valid_len_up_to bytes n < m → m ≤ n → ¬ (IsUtf8 (take m bytes))
longest_is bytes zero m above below text = omega arith
longest_is bytes (suc n) m above below text =
    ⊎_elim
    (λ yes. let h = rw yes at above in omega (arith, h))
    (λ no'. let h = rw no' at above in
    ⊎_elim
    (λ less. longest_is bytes n m h (omega arith) text)
    (λ last. let same : m ≡ suc n = omega arith in
    let is = is_utf8-from_IsUtf8 (take (suc n) bytes) (subst (λ k. IsUtf8 (take k bytes)) same text) in cc)
    (cases_lt m (suc n)))
    (cases_Bool (is_utf8 (take (suc n) bytes)))

-- bytes that are not text stop to be one at a place
pub valid_up_to : (bytes : List ℕ) → ¬ (IsUtf8 bytes) → IsValidUpTo bytes (utf8_valid_len bytes)
unfolding utf8_valid_len
valid_up_to bytes none =
    let n = valid_len_up_to bytes (length bytes) in
    let front = front_is bytes (length bytes) in
    let within = utf8_valid_len_le bytes in
    record {
      short = ⊎_elim (λ less. less) (λ all. absurd (none (subst IsUtf8 (take_all n bytes all) front))) (cases_lt n (length bytes));
      front = front;
      longest = λ m above. ⊎_elim
          (λ inside. longest_is bytes (length bytes) m above (omega arith))
          (λ past. λ text. none (subst IsUtf8 (take_all m bytes past) text))
          (cases_lt m (length bytes));
    }

-- the same of all that a reader had left
pub valid_of_left : (left : Option (List ℕ)) (old bytes : List ℕ) (n : ℕ) → IfSome left (λ xs. bytes ≡ old ++ xs) → old ≡ []
    → ¬ (IsUtf8 bytes) → n ≡ utf8_valid_len bytes → IfSome left (λ xs. IsValidUpTo xs n)
valid_of_left None old bytes n read empty none is = tt
valid_of_left (Some xs) old bytes n read empty none is =
    let same : bytes ≡ xs = read ∙ ap (λ l. l ++ xs) empty in
    subst (λ l. IsValidUpTo l n) same (subst (λ k. IsValidUpTo bytes k) (sym is) (valid_up_to bytes none))
