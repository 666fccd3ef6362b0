-- What the values of a table say.
use denote.Ref.{Bor}
use Rattle.std.specs.Prelude.{ℕ, List, [], ◌∷◌, Bool, not, Option, None, Some, bytes_eq, find, map, option_and_then, string_bytes, unwrap_or}
use Rattle.std.specs.List.{list_any}
use Rattle.std.specs.Option.{option_map}
use Rattle.std.specs.declared.alloc.Global.{Global}
use Rattle.std.specs.declared.string.String.{String}
use Rattle.std.specs.declared.vec.Vec.{Vec}
use Rattle.toml.specs.Data.{Data, Items, no_items, item, Members, no_members, member, get_member, as_str, as_array, as_table}

-- ---- lists

-- the texts that some references are to
abbrev pub texts : List (Bor (List ℕ)) → List (List ℕ)
texts = map (λ text. text.now)

abbrev pub is_among : List (List ℕ) → List ℕ → Bool
is_among names key = list_any (λ name. bytes_eq name key) names

abbrev pub with_first : {B : Type 0} → Option B → Option (List B) → Option (List B)
with_first (Some y) (Some ys) = Some (y ∷ ys)
with_first _ _ = None

-- what each of some is, if each is something
abbrev pub each_of : {A B : Type 0} → (A → Option B) → List A → Option (List B)
each_of f [] = Some []
each_of f (x ∷ xs) = with_first (f x) (each_of f xs)

-- ---- arrays and tables

-- the values in an array
abbrev pub values_of : Items → List Data
values_of no_items = []
values_of (item d ds) = d ∷ values_of ds

-- the keys of a table with their values
abbrev pub entries_of : Members → List (List ℕ × Data)
entries_of no_members = []
entries_of (member key d members) = (key, d) ∷ entries_of members

-- the first key of a table that is not among some
abbrev pub unknown_key : List (List ℕ) → Members → Option (List ℕ)
unknown_key names members = find (λ key. not (is_among names key)) (map (λ e. e.0) (entries_of members))

-- the texts in an array, if it has nothing else
abbrev pub texts_in : Items → Option (List (List ℕ))
texts_in items = each_of as_str (values_of items)

abbrev pub as_texts : Data → Option (List (List ℕ))
as_texts d = option_and_then texts_in (as_array d)

-- ---- settings

-- what a value says as a setting of a type, where nothing says nothing; or none, if it is of another type
abbrev pub setting : {A : Type 0} → (Data → Option A) → Option Data → Option (Option A)
setting of_type None = Some None
setting of_type (Some d) = option_map Some (of_type d)

abbrev pub setting_at : {A : Type 0} → (Data → Option A) → List ℕ → Members → Option (Option A)
setting_at of_type key members = setting of_type (get_member key members)

-- the table at a key, or an empty one
abbrev pub table_at : List ℕ → Members → Option Members
table_at key members = option_map (λ found. unwrap_or found no_members) (setting_at as_table key members)

-- a setting as a text, and as texts
abbrev pub text_view : Option (String Global) → Option (List ℕ)
text_view = option_map string_bytes

abbrev pub texts_view : Option (Vec (String Global) Global) → Option (List (List ℕ))
texts_view = option_map (λ v. map string_bytes v.items)
