-- Names of parts with dots between, as components have them.
use Rattle.std.specs.Prelude.{ℕ, Bool, true, false, ◌&&◌, if◌then◌else◌, List, [], ◌∷◌, codes}
use Rattle.std.specs.Str.{bytes_eq}
use Rattle.std.specs.List.{flat_map}
use Rattle.tera_lexer.specs.grammar.Tokens.{Tok, Ident, Str, Escaped, Symbol}
use Rattle.tera_outline.specs.Pieces.{Part}

abbrev pub is_name : Tok → Bool
is_name (Ident name) = true
is_name t = false

-- the operator of this text
abbrev pub is_operator : List ℕ → Tok → Bool
is_operator op (Symbol other) = bytes_eq other op
is_operator op t = false

-- a dot and a name come first
abbrev pub begins_link : List Part → Bool
begins_link (dot ∷ name ∷ ps) = is_operator (codes ".") dot.token && is_name name.token
begins_link ps = false

-- those of the parts that go on with a name: dots and names by turns, as many as come
abbrev pub links : List Part → List Part
links (dot ∷ name ∷ ps) = if begins_link (dot ∷ name ∷ ps) then dot ∷ name ∷ links ps else []
links ps = []

-- the parts of the dotted name with which these begin; none where no name comes first
abbrev pub dotted : List Part → List Part
dotted [] = []
dotted (name ∷ ps) = if is_name name.token then name ∷ links ps else []

-- what a name, a dot or a string of a template's name stands for
abbrev pub meant : Tok → List ℕ
meant (Ident name) = name
meant (Symbol op) = if bytes_eq op (codes ".") then op else []
meant (Str text) = text
meant (Escaped text) = text
meant t = []

-- the text of a name of these parts; the byte with which it begins; and the one after it
abbrev pub text_of : List Part → List ℕ
text_of ps = flat_map (λ (p : Part). meant p.token) ps

abbrev pub start_of : List Part → ℕ
start_of [] = 0
start_of (p ∷ ps) = p.start

abbrev pub end_of : List Part → ℕ
end_of [] = 0
end_of (p ∷ []) = p.end
end_of (p ∷ ps) = end_of ps
