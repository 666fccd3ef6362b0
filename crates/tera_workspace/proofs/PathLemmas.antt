-- A text without its front.
use Rattle.std.proofs.Common.{◌≡◌, ◌∙◌, ◌≢◌, ◌++◌, ◌∷◌, [], ℕ, List, drop, Bool, true, false, nat_eq, Option, None, Some, option_map, Bor, if◌then◌else◌, refl, sym, ap, arith}
use Rattle.std.specs.Option.{MatchOption}
use Rattle.std.specs.Str.Pattern.{FindsTextPrefix, StripsPrefix}
use Rattle.tera_workspace.specs.Sites.{following}

pub is_after : (front rest : List ℕ) → following front (front ++ rest) ≡ Some rest
is_after [] rest = refl
is_after (f ∷ fs) rest =
    let same : nat_eq f f ≡ true = grind arith in
    ap (λ b. if b then following fs (fs ++ rest) else None) same ∙ is_after fs rest

pub not_after : (front text : List ℕ) → ((rest : List ℕ) → text ≢ front ++ rest) → following front text ≡ None
not_after [] text h = absurd (h text refl)
not_after (f ∷ fs) [] h = refl
not_after (f ∷ fs) (b ∷ bs) h = by (nat_eq f b) refl (λ same. not_after fs bs (λ rest is. h rest (cc)))
  where
    by : (t : Bool) → nat_eq f b ≡ t → (f ≡ b → following fs bs ≡ None) → (if t then following fs bs else None) ≡ None
    by false e g = refl
    by true e g = g (grind (arith, e))

-- as it is taken off
pub stripped : (front text : List ℕ) (r : Option (Bor (List ℕ))) → MatchOption r (FindsTextPrefix front text None) (λ x. StripsPrefix (FindsTextPrefix front) text x.now)
    → option_map (λ x. x.now) r ≡ following front text
stripped front text None h = sym (not_after front text h)
stripped front text (Some x) (k, (same, split, boundary), is, len) =
    ap Some is ∙ sym (ap (following front) split ∙ is_after front (drop k text))
