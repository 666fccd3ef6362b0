-- How many lanes come before the first that stops.
use Rattle.std.proofs.Common.{◌≡◌, ℕ, zero, suc, ◌<◌, ◌≤◌, ◌%◌, ◌^◌, Bool, true, not, List, [], ◌∷◌, map, length, take, get_or, subst, Fits, w8, ⊎_elim, sym, ap, ◌∙◌, refl, arith}
use Rattle.std.specs.List.{prefix_len}
use Rattle.std.proofs.lemmas.Bool.{cases_Bool, agree_below, agree_below_at}
use Rattle.std.proofs.lemmas.Bool.Decides.{nat_tests}
use Rattle.std.proofs.lemmas.List.{length-map, length-take, get_or-take}
use Rattle.std.proofs.lemmas.List.Sums.{prefix_len_passes, prefix_len-le-length}
use Rattle.std.proofs.lemmas.Simd.{map-map, mask_l-mod, first_set_mask_l}
use lib.Lanes.{Each1, mask_l, top}
use Rattle.tera_lexer.specs.code.Counting.{ArePrintable, is_printable_byte}
use Rattle.tera_base.specs.Lanes.{first_set}
use Rattle.tera_lexer.proofs.Runs.{run_grows, run_ends}

-- two tests of bytes that agree pass as many
agree_prefix : (p q : ℕ → Bool) → agree_below p q 256 ≡ true → (xs : List ℕ) → Each1 (Fits w8) xs → prefix_len p xs ≡ prefix_len q xs
agree_prefix p q agree [] fits = refl
agree_prefix p q agree (b ∷ bs) fits =
    let same : p b ≡ q b = agree_below_at p q 256 b agree fits.0.fits in
    ⊎_elim
    (λ here. run_grows p b bs (same ∙ here) ∙ ap suc (agree_prefix p q agree bs fits.1) ∙ sym (run_grows q b bs here))
    (λ other. run_ends p b bs (same ∙ other) ∙ sym (run_ends q b bs other))
    (cases_Bool (q b))

-- a run that ends among the first bytes ends there in all
pub run_in_front : (p : ℕ → Bool) (xs : List ℕ) (n : ℕ) → prefix_len p (take n xs) < n → prefix_len p (take n xs) ≡ prefix_len p xs
run_in_front p xs zero few = absurd (omega arith)
run_in_front p [] (suc n) few = refl
run_in_front p (b ∷ bs) (suc n) few =
    ⊎_elim
    (λ here. let first = run_grows p b (take n bs) here in first ∙ ap suc (run_in_front p bs n (omega arith)) ∙ sym (run_grows p b bs here))
    (λ other. run_ends p b (take n bs) other ∙ sym (run_ends p b bs other))
    (cases_Bool (p b))

-- two tests that agree pass as many
same_prefix : (p q : ℕ → Bool) → ((b : ℕ) → p b ≡ q b) → (xs : List ℕ) → prefix_len p xs ≡ prefix_len q xs
same_prefix p q agree [] = refl
same_prefix p q agree (b ∷ bs) =
    ⊎_elim
    (λ here. run_grows p b bs (agree b ∙ here) ∙ ap suc (same_prefix p q agree bs) ∙ sym (run_grows q b bs here))
    (λ other. run_ends p b bs (agree b ∙ other) ∙ sym (run_ends q b bs other))
    (cases_Bool (q b))

-- z is made of v lane by lane, and its highest bits are set where q fails
module _ (q : ℕ → Bool) (v z : List ℕ) (n : ℕ) (f : ℕ → ℕ) (long : length v ≡ n) (few : n ≤ 64) (lanes : z ≡ map f v) where
  abbrev stops : ℕ → Bool
  stops x = top 7 (f x)

  mask_is : mask_l (map (top 7) z) % 2 ^ 64 ≡ mask_l (map stops v)
  mask_is = ap (λ l. mask_l l % 2 ^ 64) (ap (map (top 7)) lanes ∙ map-map (top 7) f v) ∙ mask_l-mod (map stops v) 64 (omega (arith, length-map v stops, long))

  lanes_stop : first_set n (mask_l (map (top 7) z) % 2 ^ 64) ≡ prefix_len (λ x. not (stops x)) v
  lanes_stop = ap (first_set n) mask_is ∙ first_set_mask_l stops v n long few

  -- the bytes decide it, or any numbers do
  pub lanes_pass : Each1 (Fits w8) v → agree_below (λ x. not (top 7 (f x))) q 256 ≡ true → first_set n (mask_l (map (top 7) z) % 2 ^ 64) ≡ prefix_len q v
  lanes_pass fits agree = lanes_stop ∙ agree_prefix (λ x. not (stops x)) q agree v fits

  pub lanes_same : ((x : ℕ) → not (top 7 (f x)) ≡ q x) → first_set n (mask_l (map (top 7) z) % 2 ^ 64) ≡ prefix_len q v
  lanes_same agree = lanes_stop ∙ same_prefix (λ x. not (stops x)) q agree v

-- bytes at the front that pass are printable
byte_printable : (b : ℕ) → is_printable_byte b ≡ true → (32 ≤ b) × (b < 128)
byte_printable b is = grind (arith, nat_tests)

pub are_printable : (xs : List ℕ) (n m : ℕ) → m ≡ prefix_len is_printable_byte (take 16 xs) → n ≤ m → ArePrintable (take n xs)
are_printable xs n m is le k lt =
    let below : k < n = omega (arith, lt, length-take n xs) in
    let passes : k < prefix_len is_printable_byte (take 16 xs) = omega (arith, is, le, below) in
    let few : k < 16 = omega (arith, passes, prefix_len-le-length is_printable_byte (take 16 xs), length-take 16 xs) in
    let same : get_or (take 16 xs) k 0 ≡ get_or (take n xs) k 0 = get_or-take 16 xs k 0 few ∙ sym (get_or-take n xs k 0 below) in
    byte_printable (get_or (take n xs) k 0) (subst (λ b. is_printable_byte b ≡ true) same (prefix_len_passes is_printable_byte (take 16 xs) k 0 passes))
