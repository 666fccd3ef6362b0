-- The path of a new file beside another.
use Rattle.std.proofs.Common.{◌≡◌, ℕ, List, [], ◌∷◌, ◌++◌, Ok, Err, refl, sym, ◌∙◌, string_bytes}
use Rattle.std.specs.Prelude.{Contains, IfOk, Result, String, codes}
use Rattle.std.specs.declared.alloc.AllocError.{AllocError}
use Rattle.std.specs.declared.alloc.Global.{Global}
use Rattle.std.proofs.lemmas.List.{append_assoc}
use Rattle.tera_files.specs.Beside.{IsBeside, IsFront, numbered, slash}

-- in a folder
pub beside_in : (path folder name front : List ℕ) (number : ℕ) → path ≡ folder ++ slash ∷ name → ¬ (Contains name slash)
    → IsFront name front → (beside : Result (String Global) AllocError)
    → IfOk beside (λ text. string_bytes text ≡ folder ++ (codes "/" ++ numbered front number))
    → IfOk beside (λ text. IsBeside path number (string_bytes text))
beside_in path folder name front number whole last is_front (Ok text) is = record {
  folder = folder ++ slash ∷ [];
  name = name;
  front = front;
  whole = whole ∙ sym (append_assoc folder (slash ∷ []) name);
  last = last;
  is_front = is_front;
  named = is ∙ sym (append_assoc folder (slash ∷ []) (numbered front number));
}
beside_in path folder name front number whole last is_front (Err error) is = tt

-- of a name alone
pub beside_alone : (name front : List ℕ) (number : ℕ) → ¬ (Contains name slash) → IsFront name front
    → (beside : Result (String Global) AllocError) → IfOk beside (λ text. string_bytes text ≡ numbered front number)
    → IfOk beside (λ text. IsBeside name number (string_bytes text))
beside_alone name front number last is_front (Ok text) is = record {
  folder = [];
  name = name;
  front = front;
  whole = refl;
  last = last;
  is_front = is_front;
  named = is;
}
beside_alone name front number last is_front (Err error) is = tt
