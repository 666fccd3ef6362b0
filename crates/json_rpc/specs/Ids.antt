-- How requests are named.
use Rattle.std.specs.Prelude.{◌≡◌, ◌≤◌, ℕ, Bool, true, false, List, [], length, cond, ◌==◌, Option, Some, refl, ⊤}
use Rattle.std.specs.Coded.{Coded, code_by, coded×, coded_ℕ, coded_list}
use Rattle.json.specs.Json.{Json, number}
use Rattle.json.specs.Print.{IsNumber}
use Rattle.json_rpc.specs.declared.id.Name.{Name}
use Rattle.json_rpc.specs.declared.id.Name.TheVariants as names

-- by nothing, by a number as its text is written, or by a text
pub data IdVal : Type 0 where
  NullId : IdVal
  NumberId : List ℕ → IdVal
  TextId : List ℕ → IdVal

-- the id of what has none
abbrev pub is_null : IdVal → Bool
is_null NullId = true
is_null (NumberId s) = false
is_null (TextId s) = false

-- how many bytes the number or the text has at most
abbrev pub max_id : ℕ
max_id = 128

abbrev pub IsId : IdVal → Type 0
IsId NullId = ⊤
IsId (NumberId s) = (length s ≤ max_id) × IsNumber s
IsId (TextId s) = length s ≤ max_id

-- what may name a request is not a number but one of JSON
abbrev pub HasNumberText : Option Json → Type 0
HasNumberText member = (s : List ℕ) → member ≡ Some (number s) → IsNumber s

-- a name without where its text lies
abbrev pub name_view : Name → IdVal
name_view names.Null = NullId
name_view (names.Number s) = NumberId s.now
name_view (names.Text s) = TextId s.now

-- ---- how the logic stores an id

abbrev id_to_pair : IdVal → ℕ × List ℕ
id_to_pair NullId = (0, [])
id_to_pair (NumberId s) = (1, s)
id_to_pair (TextId s) = (2, s)

abbrev id_from_pair : ℕ × List ℕ → IdVal
id_from_pair p = cond (p.0 == 0) NullId (cond (p.0 == 1) (NumberId p.1) (TextId p.1))

pub id_from_pair-id_to_pair : (i : IdVal) → id_from_pair (id_to_pair i) ≡ i
id_from_pair-id_to_pair NullId = refl
id_from_pair-id_to_pair (NumberId s) = refl
id_from_pair-id_to_pair (TextId s) = refl

abbrev pub id_code : Coded IdVal
id_code = code_by (ℕ × List ℕ) (coded× coded_ℕ (coded_list coded_ℕ)) id_to_pair id_from_pair id_from_pair-id_to_pair
