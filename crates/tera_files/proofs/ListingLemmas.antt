-- Files that were met, as a list of their paths.
use Rattle.std.proofs.Common.{◌≡◌, ◌≢◌, ◌∷◌, ◌||◌, ℕ, List, [], true, false, String, map, string_bytes, inl, inr, ⊎_elim, refl, sym, ap, ◌∙◌, subst, Global}
use Rattle.std.specs.Prelude.{AllPairs, Contains}
use Rattle.std.specs.List.{IsDistinct, AllByRecursion, list_any}
use Rattle.std.specs.Str.{bytes_eq}
use Rattle.std.specs.String.{string_eq}
use Rattle.std.proofs.lemmas.Bool.{cases_Bool}
use Rattle.std.proofs.lemmas.List.{map-append}
use Rattle.std.proofs.lemmas.List.Elements.{Contains-push}
use Rattle.std.proofs.lemmas.List.Folds.{Any-from_list_any}
use Rattle.std.proofs.lemmas.Map.Made.{AllPairs-from_IsDistinct}
use Rattle.std.proofs.lemmas.Slice.Eq.{bytes_eq-Decides}
use Rattle.indexmap.specs.IndexSet.{insert_key}
use Rattle.tera_files.specs.Listing.{IsAdded}

list_any-texts : (key : String Global) (keys : List (String Global))
    → list_any (string_eq key) keys ≡ list_any (bytes_eq (string_bytes key)) (map string_bytes keys)
list_any-texts key [] = refl
list_any-texts key (x ∷ keys) = ap (λ b. string_eq key x || b) (list_any-texts key keys)

-- a set of texts gets a key as the list of them does
pub map-insert_key : (keys : List (String Global)) (key : String Global)
    → map string_bytes (insert_key string_eq keys key) ≡ insert_key bytes_eq (map string_bytes keys) (string_bytes key)
map-insert_key keys key =
    ⊎_elim
    (λ (has : list_any (string_eq key) keys ≡ true).
    let same : list_any (bytes_eq (string_bytes key)) (map string_bytes keys) ≡ true = sym (list_any-texts key keys) ∙ has in
    rw (has, same) refl)
    (λ (lacks : list_any (string_eq key) keys ≡ false).
    let same : list_any (bytes_eq (string_bytes key)) (map string_bytes keys) ≡ false = sym (list_any-texts key keys) ∙ lacks in
    rw (lacks, same) (map-append string_bytes keys (key ∷ [])))
    (cases_Bool (list_any (string_eq key) keys))

-- the key goes last, or is there
pub insert_key-is : (texts : List (List ℕ)) (text : List ℕ) → IsAdded text texts (insert_key bytes_eq texts text)
insert_key-is texts text =
    ⊎_elim
    (λ yes. rw yes (inl refl))
    (λ no'. rw no' (inr refl))
    (cases_Bool (list_any (bytes_eq text) texts))

-- the key is there
pub insert_key-has : (texts : List (List ℕ)) (text : List ℕ) → Contains (insert_key bytes_eq texts text) text
insert_key-has texts text =
    ⊎_elim
    (λ (has : list_any (bytes_eq text) texts ≡ true).
    let found = Any-from_list_any (bytes_eq text) texts has in
    let same : text ≡ found.1 = (bytes_eq-Decides text found.1).0 found.4 in
    let at : Contains texts found.1 = (found.0, found.2, found.3) in
    rw has (subst (Contains texts) (sym same) at))
    (λ (lacks : list_any (bytes_eq text) texts ≡ false). rw lacks (Contains-push texts text))
    (cases_Bool (list_any (bytes_eq text) texts))

none_equal : (key : String Global) (keys : List (String Global)) → AllByRecursion (λ other. string_eq key other ≡ false) keys
    → AllByRecursion (λ other. bytes_eq (string_bytes key) other ≡ false) (map string_bytes keys)
none_equal key [] none = tt
none_equal key (x ∷ keys) none = (none.0, none_equal key keys none.1)

distinct_texts : (keys : List (String Global)) → IsDistinct string_eq keys → IsDistinct bytes_eq (map string_bytes keys)
unfolding IsDistinct
distinct_texts [] apart = tt
distinct_texts (x ∷ keys) apart = (none_equal x keys apart.0, distinct_texts keys apart.1)

-- no two texts of a set are the same
pub apart_texts : (keys : List (String Global)) → IsDistinct string_eq keys → AllPairs (λ one other. one ≢ other) (map string_bytes keys)
apart_texts keys apart = AllPairs-from_IsDistinct bytes_eq-Decides (map string_bytes keys) (distinct_texts keys apart)
