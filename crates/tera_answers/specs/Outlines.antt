-- The outline of a text, as JSON: its blocks and the definitions of its components, each with those inside it.
use Rattle.std.specs.Prelude.{◌≡◌, ◌<◌, ◌≤◌, ◌++◌, ℕ, nat_lt, if◌then◌else◌, List, [], ◌∷◌, codes, length}
use Rattle.std.specs.List.{AllByRecursion}
use Rattle.json.specs.Json.{Json, string, array, object, Items, no_items, item, no_members, member}
use Rattle.json.specs.Token.{Token, begin_array, begin_object, end_array, end_object, key}
use Rattle.tera_outline.specs.Pieces.{Part, ArePartsOf}
use Rattle.tera_outline.specs.Symbols.{Outlined, outline_of}
use Rattle.tera_outline.specs.declared.symbols.SymbolKind.{SymbolKind}
use Rattle.tera_outline.specs.declared.symbols.SymbolKind.TheVariants.{Block, Component}
use Rattle.text_edits.specs.Laws.{IsUpTo}
use Rattle.text_edits.specs.declared.positions.Encoding.{Encoding}
use Rattle.protocol_values.specs.Writing.{member_tokens, number_json, range_json}
use Rattle.tera_answers.specs.Positions.{position_at}

-- a symbol, those that are in it, and those after it
pub data Forest : Type 0 where
  nothing : Forest
  symbol : Outlined → Forest → Forest → Forest

-- the symbols before the first one that begins at or after a byte, and those from that one on
abbrev pub before : ℕ → Forest → Forest
before byte nothing = nothing
before byte (symbol s inner following) = if nat_lt s.start byte then symbol s inner (before byte following) else nothing

abbrev pub from : ℕ → Forest → Forest
from byte nothing = nothing
from byte (symbol s inner following) = if nat_lt s.start byte then from byte following else symbol s inner following

-- symbols in the order of their starts: those that begin before the end of one are inside it
abbrev pub nested : List Outlined → Forest
nested [] = nothing
nested (s ∷ ss) = symbol s (before s.end (nested ss)) (from s.end (nested ss))

-- the word for a kind of symbol, and the number that the protocol has for a namespace and for a function
abbrev pub kind_name : SymbolKind → List ℕ
kind_name Block = codes "block"
kind_name Component = codes "component"

abbrev pub kind_number : SymbolKind → ℕ
kind_number Block = 3
kind_number Component = 12

-- a symbol of a text, with its children
abbrev pub symbol_json : Encoding → List ℕ → Outlined → Items → Json
symbol_json e text s children =
    object (member (codes "name") (string s.name)
    (member (codes "detail") (string (kind_name s.kind))
    (member (codes "kind") (number_json (kind_number s.kind))
    (member (codes "range") (range_json (position_at e text s.start) (position_at e text s.end))
    (member (codes "selectionRange") (range_json (position_at e text s.name_start) (position_at e text s.name_end))
    (member (codes "children") (array children) no_members))))))

abbrev pub symbol_items : Encoding → List ℕ → Forest → Items
symbol_items e text nothing = no_items
symbol_items e text (symbol s inner following) = item (symbol_json e text s (symbol_items e text inner)) (symbol_items e text following)

abbrev pub outline_json : Encoding → List ℕ → List Outlined → Json
outline_json e text symbols = array (symbol_items e text (nested symbols))

-- the outline of a text
abbrev pub IsOutline : Encoding → List ℕ → Json → Type 0
IsOutline e text j = (parts : List Part) × ArePartsOf text parts × (j ≡ outline_json e text (outline_of (length text) parts))

-- ---- what holds of it

-- all symbols, each before those in it and after it
abbrev pub in_order : Forest → List Outlined
in_order nothing = []
in_order (symbol s inner following) = s ∷ (in_order inner ++ in_order following)

-- what is inside a symbol begins after its start and ends no later than it, and what comes after it begins no earlier
-- than its end
abbrev pub AreWithin : Forest → Type 0
AreWithin nothing = Unit {0}
AreWithin (symbol s inner following) =
    AllByRecursion (λ (i : Outlined). (s.start < i.start) × (i.end ≤ s.end)) (in_order inner)
    × AllByRecursion (λ (b : Outlined). s.end ≤ b.start) (in_order following) × AreWithin inner × AreWithin following

-- the range of a name is within the range of its symbol
pub record IsSelectable (e : Encoding) (text : List ℕ) (s : Outlined) : Type 0 where
  pub begins : IsUpTo (position_at e text s.start) (position_at e text s.name_start)
  pub named : IsUpTo (position_at e text s.name_start) (position_at e text s.name_end)
  pub ends : IsUpTo (position_at e text s.name_end) (position_at e text s.end)

-- ---- the tokens

-- a symbol up to its children
unfoldable pub symbol_begin : Encoding → List ℕ → Outlined → List Token
symbol_begin e text s =
    begin_object ∷ (member_tokens (codes "name") (string s.name)
    ++ (member_tokens (codes "detail") (string (kind_name s.kind))
    ++ (member_tokens (codes "kind") (number_json (kind_number s.kind))
    ++ (member_tokens (codes "range") (range_json (position_at e text s.start) (position_at e text s.end))
    ++ (member_tokens (codes "selectionRange") (range_json (position_at e text s.name_start) (position_at e text s.name_end))
    ++ (key (codes "children") ∷ begin_array ∷ []))))))

-- for open symbols, by their ends, the innermost first: those that end at or before a byte are ended, and these stay
-- open
abbrev pub end_tokens : ℕ → List ℕ → List Token
end_tokens byte [] = []
end_tokens byte (end ∷ ends) = if nat_lt byte end then [] else end_array ∷ end_object ∷ end_tokens byte ends

abbrev pub open_at : ℕ → List ℕ → List ℕ
open_at byte [] = []
open_at byte (end ∷ ends) = if nat_lt byte end then end ∷ ends else open_at byte ends

-- all are ended
abbrev pub all_ended : List ℕ → List Token
all_ended [] = []
all_ended (end ∷ ends) = end_array ∷ end_object ∷ all_ended ends
