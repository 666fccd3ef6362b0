use Rattle.std.proofs.Common.{◌≡◌, ℕ, suc, ◌-◌, List, [], ◌∷◌, length, Some, sym, ap, ◌∙◌, arith}
use Rattle.std.specs.Prelude.{slice_get}
use Rattle.std.proofs.lemmas.Option.{same_Some}
use Rattle.tera_layout.specs.Apart.{last_from}
use Rattle.tera_layout.proofs.formatting.last_of.Goals as goal

last_got : (x : ℕ) (bytes : List ℕ) → slice_get bytes (length bytes - 1) ≡ Some x → x ≡ last_from 0 bytes
last_got x [] h = cc
last_got x (b ∷ []) h = sym (same_Some b x h)
last_got x (b ∷ c ∷ bytes) h =
    let less : length (b ∷ c ∷ bytes) - 1 ≡ suc (length (c ∷ bytes) - 1) = omega arith in
    last_got x (c ∷ bytes) (ap (slice_get (b ∷ c ∷ bytes)) (sym less) ∙ h)

pub returns-in-Some : goal.returns-in-Some
returns-in-Some c = last_got c.in-Some.byte.now c.args.bytes.now (sym c.in-Some.ensures.value)
