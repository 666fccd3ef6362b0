-- The outline of a text: its blocks and the definitions of its components.
use Rattle.std.specs.Prelude.{◌<◌, ◌≤◌, ◌⊎◌, ◌++◌, ℕ, Bool, true, false, Option, Some, None, if◌then◌else◌, List, [], ◌∷◌, codes, string_bytes}
use Rattle.std.specs.Str.{bytes_eq}
use Rattle.std.specs.Option.{option_to_list}
use Rattle.std.specs.List.{list_any, AllPairs}
use Rattle.tera_lexer.specs.grammar.Tokens.{Tok, Start, Finish, Ident}
use Rattle.tera_lexer.specs.declared.lexer.delimiters.Kind.TheVariants.{Block}
use Rattle.tera_outline.specs.declared.symbols.SymbolKind.{SymbolKind}
use Rattle.tera_outline.specs.declared.symbols.SymbolKind.TheVariants as kinds
use Rattle.tera_outline.specs.declared.symbols.Symbol.{Symbol}
use Rattle.tera_outline.specs.Pieces.{Part}
use Rattle.tera_outline.specs.Dotted.{dotted, text_of, start_of, end_of}

-- a block or the definition of a component, with the bytes between which it and its name are
pub record Outlined : Type 0 where
  pub kind : SymbolKind
  pub name : List ℕ
  pub start : ℕ
  pub end : ℕ
  pub name_start : ℕ
  pub name_end : ℕ

abbrev pub outlined : Symbol → Outlined
outlined s = record {
  kind = s.kind;
  name = string_bytes s.name;
  start = s.start;
  end = s.end;
  name_start = s.name_start;
  name_end = s.name_end;
}

-- a tag that opens one, at a byte and with the parts of a name; and a tag that closes one, between two bytes
pub data Mark : Type 0 where
  Opens : SymbolKind → ℕ → List Part → Mark
  Closes : SymbolKind → ℕ → ℕ → Mark

abbrev pub begins_tag : Tok → Bool
begins_tag (Start Block dash) = true
begins_tag t = false

abbrev pub ends_tag : Tok → Bool
ends_tag (Finish Block dash) = true
ends_tag t = false

-- the end of the tag in which these parts are: after its end marker, or where the next tag begins, or that of the text
abbrev pub tag_end : ℕ → List Part → ℕ
tag_end last [] = last
tag_end last (p ∷ ps) = if ends_tag p.token then p.end else (if begins_tag p.token then p.start else tag_end last ps)

abbrev pub opening : SymbolKind → ℕ → List Part → Option Mark
opening kind start [] = None
opening kind start name = Some (Opens kind start name)

-- what a tag is that begins at a byte with this token and these parts after it
abbrev pub word_mark : ℕ → ℕ → Tok → List Part → Option Mark
word_mark last start (Ident word) ps =
    if bytes_eq word (codes "block") then opening kinds.Block start (dotted ps)
    else (if bytes_eq word (codes "component") then opening kinds.Component start (dotted ps)
    else (if bytes_eq word (codes "endblock") then Some (Closes kinds.Block start (tag_end last ps))
    else (if bytes_eq word (codes "endcomponent") then Some (Closes kinds.Component start (tag_end last ps))
    else None)))
word_mark last start t ps = None

abbrev pub mark_of : ℕ → List Part → Option Mark
mark_of last (tag ∷ word ∷ ps) = if begins_tag tag.token then word_mark last tag.start word.token ps else None
mark_of last ps = None

-- the tags that open or close one, in order, in a text that ends at `last`
abbrev pub marks : ℕ → List Part → List Mark
marks last [] = []
marks last (p ∷ ps) = option_to_list (mark_of last (p ∷ ps)) ++ marks last ps

abbrev pub same_kind : SymbolKind → SymbolKind → Bool
same_kind kinds.Block kinds.Block = true
same_kind kinds.Component kinds.Component = true
same_kind k l = false

abbrev pub is_open : SymbolKind → List SymbolKind → Bool
is_open kind open_kinds = list_any (same_kind kind) open_kinds

-- what is open after the closing of the innermost of a kind, with what is open in it
abbrev pub after_last : SymbolKind → List SymbolKind → List SymbolKind
after_last kind [] = []
after_last kind (k ∷ ks) = if same_kind kind k then ks else after_last kind ks

-- the end of what was opened with a kind, in and around which those of other kinds are open, the innermost first,
-- before these tags. A tag closes the innermost of its kind and, at its start, what is open in that; where none is open
-- it closes nothing.
abbrev pub end_in : ℕ → List SymbolKind → SymbolKind → List SymbolKind → List Mark → ℕ
end_in last inside kind around [] = last
end_in last inside kind around (Opens k start name ∷ ms) = end_in last (k ∷ inside) kind around ms
end_in last inside kind around (Closes k start end ∷ ms) =
    if is_open k inside then end_in last (after_last k inside) kind around ms
    else (if same_kind k kind then end
    else (if is_open k around then start
    else end_in last inside kind around ms))

-- the outline of these tags, where this is open around them, the innermost first
abbrev pub outline : ℕ → List SymbolKind → List Mark → List Outlined
outline last around [] = []
outline last around (Opens kind start name ∷ ms) =
    record {
      kind = kind;
      name = text_of name;
      start = start;
      end = end_in last [] kind around ms;
      name_start = start_of name;
      name_end = end_of name;
    } ∷ outline last (kind ∷ around) ms
outline last around (Closes kind start end ∷ ms) =
    outline last (if is_open kind around then after_last kind around else around) ms

abbrev pub outline_of : ℕ → List Part → List Outlined
outline_of last parts = outline last [] (marks last parts)

-- of two, the later begins after the start of the earlier, and either at or after its end, or ends no later
abbrev pub AreNested : List Outlined → Type 0
AreNested symbols = AllPairs (λ (a b : Outlined). (a.start < b.start) × ((a.end ≤ b.start) ⊎ (b.end ≤ a.end))) symbols

-- the name is within the range, and the range within the text
pub record IsWithin (last : ℕ) (s : Outlined) : Type 0 where
  pub begins : s.start < s.name_start
  pub named : s.name_start < s.name_end
  pub ends : s.name_end ≤ s.end
  pub text : s.end ≤ last
