-- Boundaries of characters.
use Rattle.std.proofs.Common.{◌≡◌, ◌<◌, ◌≤◌, ℕ, Bool, true, false, List, length, refl, sym, arith}
use Rattle.std.specs.Prelude.{◌↔◌, IsTrue, slice_index}
use Rattle.std.specs.Str.{IsCharBoundary}
use Rattle.std.proofs.lemmas.Bool.Decides.{nat_tests}
use Rattle.tera_lexer.specs.grammar.Place.{begins_character}
use Rattle.tera_templates.specs.Boundaries.{is_boundary}

boundary_from : (text : List ℕ) (at : ℕ) → is_boundary text at ≡ true → IsCharBoundary text at
boundary_from text at is = (grind (arith, nat_tests), λ less high. grind (arith, nat_tests))

boundary_to : (text : List ℕ) (at : ℕ) → IsCharBoundary text at → is_boundary text at ≡ true
boundary_to text at is =
    let within : at ≤ length text = is.0 in
    let begins : at < length text → 128 ≤ slice_index text at → 192 ≤ slice_index text at = is.1 in
    grind (arith, nat_tests)

no_boundary : (b : Bool) (P : Type 0) → (b ≡ true → P) → (P → false ≡ true) → false ≡ b
no_boundary true P from none = none (from refl)
no_boundary false P from none = refl

pub boundary_is : (text : List ℕ) (at : ℕ) (b : Bool) → (IsTrue b ↔ IsCharBoundary text at) → b ≡ is_boundary text at
boundary_is text at true h = sym (boundary_to text at (h.0 refl))
boundary_is text at false h = no_boundary (is_boundary text at) (IsCharBoundary text at) (boundary_from text at) h.1
