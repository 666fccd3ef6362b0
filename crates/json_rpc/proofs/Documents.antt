-- The value of JSON that bytes are.
use Rattle.std.proofs.Common.{◌≡◌, ℕ, Bool, true, false, List, Option, None, Some, if◌then◌else◌, refl}
use Rattle.std.specs.Str.{IsUtf8, is_utf8}
use Rattle.std.proofs.lemmas.Str.{IsUtf8-from_is_utf8, is_utf8-from_IsUtf8}
use Rattle.json.specs.Json.{Json, document}
use Rattle.json_rpc.specs.Messages.{json_of}

pub json_of-some : (bytes : List ℕ) (j : Json) → IsUtf8 bytes → document bytes ≡ Some j → json_of bytes ≡ Some j
json_of-some bytes j u e = rw (is_utf8-from_IsUtf8 bytes u) e

pub json_of-utf8 : (bytes : List ℕ) → IsUtf8 bytes → json_of bytes ≡ document bytes
json_of-utf8 bytes u = rw (is_utf8-from_IsUtf8 bytes u) refl

none_by : (b : Bool) (o : Option Json) → (b ≡ true → o ≡ None) → (if b then o else None) ≡ None
none_by true o h = h refl
none_by false o h = refl

pub json_of-none : (bytes : List ℕ) → (IsUtf8 bytes → document bytes ≡ None) → json_of bytes ≡ None
json_of-none bytes h = none_by (is_utf8 bytes) (document bytes) (λ e. h (IsUtf8-from_is_utf8 bytes e))
