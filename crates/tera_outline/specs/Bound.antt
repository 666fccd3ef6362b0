-- The variables that a text binds.
use Rattle.std.specs.Prelude.{ℕ, Bool, true, false, if◌then◌else◌, Option, Some, None, List, [], ◌∷◌, ◌++◌, codes}
use Rattle.std.specs.Option.{option_to_list}
use Rattle.std.specs.Str.{bytes_eq}
use Rattle.tera_lexer.specs.grammar.Tokens.{Tok, Start, Finish, Ident}
use Rattle.tera_lexer.specs.grammar.Words.{is_one_of}
use Rattle.tera_lexer.specs.declared.lexer.delimiters.Kind.TheVariants.{Block}
use Rattle.tera_outline.specs.Dotted.{is_name, is_operator}
use Rattle.tera_outline.specs.Pieces.{Part}
use Rattle.tera_outline.specs.Signatures.{is_due, depth_of as depth_in_head, place_after as place_in_head}
use Rattle.tera_outline.specs.declared.bound.Place.{Place}
use Rattle.tera_outline.specs.declared.bound.Place.TheVariants as places
use Rattle.tera_outline.specs.declared.signatures.Place.TheVariants as in_head

-- a name there is that of a variable that is bound: after `for` and the comma in it, after `set` and `set_global`, and
-- where a parameter is due in the list of a head, outside of all inner brackets
abbrev pub binds : Place → Bool
binds places.For = true
binds places.Set = true
binds (places.Head place) = is_due place
binds place = false

abbrev pub bound_by : Place → Tok → Option (List ℕ)
bound_by place (Ident name) = if binds place then Some name else None
bound_by place t = None

-- where the next token is after the first of a tag
abbrev pub after_word : List ℕ → Place
after_word word =
    if bytes_eq word (codes "for") then places.For
    else (if is_one_of (codes "set" ∷ codes "set_global" ∷ []) word then places.Set
    else (if bytes_eq word (codes "component") then places.Head in_head.Name
    else places.Other))

abbrev pub after_statement : Tok → Place
after_statement (Ident word) = after_word word
after_statement t = places.Other

-- .. after a name of a `for`, and after the comma between two
abbrev pub after_name : Tok → Place
after_name t = if is_name t then places.Pair else places.Other

abbrev pub after_pair : Tok → Place
after_pair t = if is_operator (codes ",") t then places.For else places.Other

-- .. within a tag
abbrev pub within : Place → Tok → Place
within places.Tag t = after_statement t
within places.For t = after_name t
within places.Pair t = after_pair t
within (places.Head place) t = places.Head (place_in_head place t)
within place t = places.Other

abbrev pub place_after : Place → Tok → Place
place_after place (Start Block dash) = places.Tag
place_after place (Finish Block dash) = places.Other
place_after place t = within place t

-- how many brackets are open in the list of a head
abbrev pub depth_of : Place → ℕ
depth_of (places.Head place) = depth_in_head place
depth_of place = 0

-- those of these parts, in order, of which the first is at a place
abbrev pub bound_in : Place → List Part → List (List ℕ)
bound_in place [] = []
bound_in place (p ∷ ps) = option_to_list (bound_by place p.token) ++ bound_in (place_after place p.token) ps

abbrev pub bound_of : List Part → List (List ℕ)
bound_of ps = bound_in places.Other ps
