-- An outline of which some symbols are open.
use Rattle.std.specs.Prelude.{◌≡◌, ◌<◌, ◌++◌, ℕ, zero, suc, if◌then◌else◌, List, [], ◌∷◌, map, length, reverse, All, vec_len}
use Rattle.tera_outline.specs.declared.symbols.SymbolKind.{SymbolKind}
use Rattle.tera_outline.specs.declared.symbols.SymbolKind.TheVariants as kinds
use Rattle.tera_outline.specs.declared.symbols.Open.{Open}
use Rattle.tera_outline.specs.declared.symbols.Outline.{Outline}
use Rattle.tera_outline.specs.declared.symbols.Mark as code
use Rattle.tera_outline.specs.declared.symbols.Mark.TheVariants as tags
use Rattle.tera_outline.specs.Pieces.{Part, part_of}
use Rattle.tera_outline.specs.Dotted.{text_of, start_of, end_of}
use Rattle.tera_outline.specs.Symbols.{Outlined, outlined, Mark, Opens, Closes, same_kind, is_open}

-- the symbols, and those that are open, the innermost first
pub record State : Type 0 where
  pub symbols : List Outlined
  pub opened : List Open

abbrev pub state_of : Outline → State
state_of o = record { symbols = map outlined o.symbols.items; opened = reverse o.open.items }

-- those that are open are some of them
abbrev pub AreNumbered : Outline → Type 0
AreNumbered o = All (λ (p : Open). p.number < vec_len o.symbols) o.open.items

abbrev pub mark_view : code.Mark → Mark
mark_view (tags.Opens kind start name) = Opens kind start (map part_of name.now)
mark_view (tags.Closes kind start end) = Closes kind start end

abbrev pub kinds_of : List Open → List SymbolKind
kinds_of opened = map (λ (o : Open). o.kind) opened

abbrev pub other : SymbolKind → SymbolKind
other kinds.Block = kinds.Component
other kinds.Component = kinds.Block

-- each knows whether one of the other kind is open around it, the innermost first
abbrev pub KnowOthers : List Open → Type 0
KnowOthers [] = Unit {0}
KnowOthers (o ∷ os) = (o.is_in_other ≡ is_open (other o.kind) (kinds_of os)) × KnowOthers os

abbrev pub KnowsOthers : Outline → Type 0
KnowsOthers o = KnowOthers (reverse o.open.items)

-- the symbol of this number ends there
abbrev pub ended : ℕ → ℕ → List Outlined → List Outlined
ended n end [] = []
ended zero end (s ∷ ss) = record s { end = end } ∷ ss
ended (suc n) end (s ∷ ss) = s ∷ ended n end ss

-- those that are open are closed up to the first of a kind, and that ends elsewhere
abbrev pub unwound_in : SymbolKind → ℕ → ℕ → List Outlined → List Open → State
unwound_in kind start end symbols [] = record { symbols = symbols; opened = [] }
unwound_in kind start end symbols (o ∷ os) =
    if same_kind kind o.kind then record { symbols = ended o.number end symbols; opened = os }
    else unwound_in kind start end (ended o.number start symbols) os

abbrev pub unwound : SymbolKind → ℕ → ℕ → State → State
unwound kind start end s = unwound_in kind start end s.symbols s.opened

-- one that is opened, which ends with its name until it is closed
abbrev pub opened_with : SymbolKind → ℕ → List Part → Outlined
opened_with kind start name = record {
  kind = kind;
  name = text_of name;
  start = start;
  end = end_of name;
  name_start = start_of name;
  name_end = end_of name;
}

-- one more tag is taken
abbrev pub took : Mark → State → State
took (Opens kind start name) s = record {
  symbols = s.symbols ++ opened_with kind start name ∷ [];
  opened = record { number = length s.symbols; kind = kind; is_in_other = is_open (other kind) (kinds_of s.opened) } ∷ s.opened;
}
took (Closes kind start end) s = if is_open kind (kinds_of s.opened) then unwound kind start end s else s

-- all that are open end there
abbrev pub all_ended_in : ℕ → List Outlined → List Open → List Outlined
all_ended_in end symbols [] = symbols
all_ended_in end symbols (o ∷ os) = all_ended_in end (ended o.number end symbols) os

abbrev pub all_ended : ℕ → State → List Outlined
all_ended end s = all_ended_in end s.symbols s.opened
