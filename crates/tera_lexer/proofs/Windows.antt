-- What a search of a window of some bytes says of them.
use Rattle.std.proofs.Common.{◌≡◌, ℕ, ◌+◌, ◌-◌, ◌<◌, ◌≤◌, Bool, List, length, take, drop, get_or, ⊎_elim, ap, sym, ◌∙◌, arith}
use Rattle.std.proofs.lemmas.Bool.{cases_lt}
use Rattle.std.proofs.lemmas.List.{get_or-drop, get_or-take}
use Rattle.memchr.specs.Find.{Nowhere, NoneBefore, Passes}

-- no byte before the window passes the test
module _ (test : ℕ → Bool) (bytes window : List ℕ) (from n : ℕ) (is : window ≡ take n (drop from bytes)) (passed : Nowhere (Passes test bytes) 0 from) where
  there : (k : ℕ) → k < n → test (get_or window k 0) ≡ test (get_or bytes (from + k) 0)
  there k lt = ap test (ap (λ w. get_or w k 0) is ∙ get_or-take n (drop from bytes) k 0 lt ∙ get_or-drop from bytes k 0)

  pub nowhere_on : (m : ℕ) → m ≤ n → Nowhere (Passes test window) 0 m → Nowhere (Passes test bytes) 0 (from + m)
  nowhere_on m le none k low lt here =
      ⊎_elim
      (λ less. passed k low less here)
      (λ ge.
      let at : from + (k - from) ≡ k = omega arith in
      none (k - from) (omega arith) (omega arith) (there (k - from) (omega arith) ∙ ap (λ i. test (get_or bytes i 0)) at ∙ here))
      (cases_lt k from)

  pub first_on : (at : ℕ) → at < n → from + n ≤ length bytes → Nowhere (Passes test window) 0 at → Passes test window at → NoneBefore (Passes test bytes) 0 (length bytes) (from + at) × Passes test bytes (from + at)
  first_on at lt fits none here =
      (record { low = omega arith; high = omega arith; before = nowhere_on at (omega arith) none }, sym (there at lt) ∙ here)
