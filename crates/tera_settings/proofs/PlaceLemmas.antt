-- The parts of a key.
use Rattle.std.proofs.Common.{◌≡◌, ◌∙◌, ◌<◌, ℕ, Bool, true, false, List, String, Global, Contains, ap, bytes_eq, length, map, slice_index_or, string_bytes, sym}
use Rattle.std.specs.Bool.{OnTrue}
use Rattle.std.proofs.lemmas.List.{get_or-map, length-map}
use Rattle.std.proofs.lemmas.Slice.Eq.{bytes_eq-Decides}

-- a part that is the name is among the parts
pub is_among_parts : (parts : List (String Global)) (i : ℕ) (part : String Global) (name : List ℕ) (same : Bool) → i < length parts → part ≡ slice_index_or parts i part
    → same ≡ bytes_eq (string_bytes part) name → OnTrue same (Contains (map string_bytes parts) name)
is_among_parts parts i part name false below is named = tt
is_among_parts parts i part name true below is named =
    let there : string_bytes part ≡ name = (bytes_eq-Decides (string_bytes part) name).0 (sym named) in
    (i, rw length-map below, get_or-map string_bytes parts i part name below ∙ ap string_bytes (sym is) ∙ there)
