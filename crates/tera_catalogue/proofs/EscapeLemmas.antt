-- Texts that are escaped hold no markup.
use Rattle.std.proofs.Common.{◌≡◌, ◌∙◌, ℕ, List, [], ◌∷◌, Bool, true, false, ◌||◌, if◌then◌else◌, nat_eq, codes, refl, ap}
use Rattle.std.proofs.lemmas.List.Folds.{list_any-append}
use Rattle.tera_catalogue.specs.Escapes.{escaped_byte, escaped, is_markup, has_markup}

byte_by : (amp less more two one : Bool) (b : ℕ) → is_markup b ≡ (less || (more || (two || one)))
    → has_markup (if amp then codes "&amp;" else (if less then codes "&lt;" else (if more then codes "&gt;" else (if two then codes "&quot;" else (if one then codes "&#39;" else b ∷ []))))) ≡ false
byte_by true less more two one b is = refl
byte_by false true more two one b is = refl
byte_by false false true two one b is = refl
byte_by false false false true one b is = refl
byte_by false false false false true b is = refl
byte_by false false false false false b is = ap (λ m. m || false) is

escaped_one : (b : ℕ) → has_markup (escaped_byte b) ≡ false
escaped_one b = byte_by (nat_eq b 38) (nat_eq b 60) (nat_eq b 62) (nat_eq b 34) (nat_eq b 39) b refl

pub without_markup : (text : List ℕ) → has_markup (escaped text) ≡ false
without_markup [] = refl
without_markup (b ∷ bs) =
    list_any-append is_markup (escaped_byte b) (escaped bs)
    ∙ ap (λ m. m || has_markup (escaped bs)) (escaped_one b)
    ∙ without_markup bs
