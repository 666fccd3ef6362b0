-- The heads of definitions: a component's name and what its tag says after it.
use Rattle.std.specs.Prelude.{ℕ, Bool, ◌&&◌, ◌||◌, if◌then◌else◌, Option, List, [], ◌∷◌, length, nat_lt, slice_range}
use Rattle.std.specs.List.{find}
use Rattle.std.specs.Option.{option_map}
use Rattle.std.specs.Str.{bytes_eq}
use Rattle.tera_outline.specs.declared.symbols.SymbolKind.TheVariants as kinds
use Rattle.tera_outline.specs.Pieces.{Part}
use Rattle.tera_outline.specs.Symbols.{Outlined, begins_tag, ends_tag, same_kind, outline_of}

-- the symbol is a definition of the component of this name
abbrev pub defines : List ℕ → Outlined → Bool
defines name s = same_kind s.kind kinds.Component && bytes_eq s.name name

-- the end of the last of these parts that comes after the byte in the same tag; or the byte, where none does
abbrev pub head_end : ℕ → List Part → ℕ
head_end byte [] = byte
head_end byte (p ∷ ps) =
    if nat_lt p.start byte then head_end byte ps
    else (if ends_tag p.token || begins_tag p.token then byte else head_end p.end ps)

-- from its name to the end of its tag, without the end marker and the white space before it
abbrev pub head_text : List ℕ → List Part → Outlined → List ℕ
head_text text parts s = slice_range text s.name_start (head_end s.name_end parts)

-- that of the first definition of the component in the text with these parts
abbrev pub head_of : List ℕ → List Part → List ℕ → Option (List ℕ)
head_of text parts name = option_map (head_text text parts) (find (defines name) (outline_of (length text) parts))
