-- Names among others, and one that is added where it is not.
use Rattle.std.proofs.Common.{◌≡◌, ◌∙◌, ◌++◌, ◌||◌, if◌then◌else◌, cond, not, [], ◌∷◌, ℕ, List, true, false, String, string_bytes, map, refl, sym, ap, append_assoc}
use Rattle.std.proofs.lemmas.List.{map-append}
use Rattle.std.specs.List.{list_any}
use Rattle.std.specs.Str.{bytes_eq}
use Rattle.std.specs.declared.alloc.Global.{Global}
use Rattle.tera_server.specs.States.{with_name, names_without}

pub any_name : (n : List ℕ) (names : List (String Global)) → list_any (λ m. bytes_eq (string_bytes m) n) names ≡ list_any (λ m. bytes_eq m n) (map string_bytes names)
any_name n [] = refl
any_name n (m ∷ ms) = ap (λ b. bytes_eq (string_bytes m) n || b) (any_name n ms)

pub name_there : (n : List ℕ) (ns : List (List ℕ)) → list_any (λ m. bytes_eq m n) ns ≡ true → ns ≡ with_name n ns
name_there n ns h = ap (λ b. if b then ns else ns ++ n ∷ []) (sym h)

pub name_added : (n : List ℕ) (names now : List (String Global)) (x : String Global) → list_any (λ m. bytes_eq m n) (map string_bytes names) ≡ false → now ≡ names ++ x ∷ [] → string_bytes x ≡ n →
    map string_bytes now ≡ with_name n (map string_bytes names)
name_added n names now x none e is =
    let ns = map string_bytes names in
    ap (map string_bytes) e
    ∙ (map-append string_bytes names (x ∷ [])
    ∙ (ap (λ m. ns ++ m ∷ []) is ∙ ap (λ b. if b then ns else ns ++ n ∷ []) (sym none)))

-- of names that are not among others, one more
pub without_kept : (others : List (List ℕ)) (n : List ℕ) (ns kept now : List (List ℕ)) → list_any (λ m. bytes_eq m n) others ≡ false → now ≡ kept ++ n ∷ [] →
    kept ++ names_without others (n ∷ ns) ≡ now ++ names_without others ns
without_kept others n ns kept now out is =
    let rest = names_without others ns in
    ap (λ b. kept ++ cond (not b) (n ∷ rest) rest) out ∙ (sym (append_assoc kept (n ∷ []) rest) ∙ ap (λ k. k ++ rest) (sym is))

pub without_left : (others : List (List ℕ)) (n : List ℕ) (ns kept now : List (List ℕ)) → list_any (λ m. bytes_eq m n) others ≡ true → now ≡ kept →
    kept ++ names_without others (n ∷ ns) ≡ now ++ names_without others ns
without_left others n ns kept now among is =
    let rest = names_without others ns in
    ap (λ b. kept ++ cond (not b) (n ∷ rest) rest) among ∙ ap (λ k. k ++ rest) (sym is)
