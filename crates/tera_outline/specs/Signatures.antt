-- The heads of definitions, with their parameters.
use Rattle.std.specs.Prelude.{ℕ, ◌+◌, ◌-◌, Bool, true, false, ◌&&◌, if◌then◌else◌, nat_eq, nat_le, Option, Some, None, List, [], ◌∷◌, ◌++◌, codes, length, map, option_map}
use Rattle.std.specs.List.{filter, find}
use Rattle.std.specs.Option.{option_map_or, option_to_list}
use Rattle.std.specs.Str.{bytes_eq}
use Rattle.tera_lexer.specs.grammar.Tokens.{Tok, Ident, Symbol}
use Rattle.tera_lexer.specs.grammar.Words.{is_one_of}
use Rattle.tera_outline.specs.declared.signatures.Parameter.{Parameter}
use Rattle.tera_outline.specs.declared.signatures.Place.{Place}
use Rattle.tera_outline.specs.declared.signatures.Place.TheVariants as places
use Rattle.tera_outline.specs.declared.signatures.Signature.{Signature}
use Rattle.tera_outline.specs.Dotted.{is_operator}
use Rattle.tera_outline.specs.Heads.{defines, head_end, head_of}
use Rattle.tera_outline.specs.Pieces.{Part}
use Rattle.tera_outline.specs.Symbols.{Outlined, outline_of}

-- the name of a parameter, and the bytes of the head between which it is
pub record ParameterVal : Type 0 where
  pub name : List ℕ
  pub start : ℕ
  pub end : ℕ

abbrev pub parameter_view : Parameter → ParameterVal
parameter_view p = record { name = p.name.now; start = p.start; end = p.end }

-- a head and its parameters
pub record SignatureVal : Type 0 where
  pub head : List ℕ
  pub parameters : List ParameterVal

abbrev pub signature_view : Signature → SignatureVal
signature_view s = record { head = s.head.now; parameters = map parameter_view s.parameters.items }

-- ---- the list of parameters

-- the part is between two bytes
abbrev pub is_between : ℕ → ℕ → Part → Bool
is_between from to p = nat_le from p.start && nat_le p.end to

abbrev pub is_opening : Tok → Bool
is_opening (Symbol op) = is_one_of (codes "{" ∷ codes "(" ∷ codes "[" ∷ []) op
is_opening t = false

abbrev pub is_closing : Tok → Bool
is_closing (Symbol op) = is_one_of (codes "}" ∷ codes ")" ∷ codes "]" ∷ []) op
is_closing t = false

-- what comes after the first parenthesis
abbrev pub after_parenthesis : List Part → List Part
after_parenthesis [] = []
after_parenthesis (p ∷ ps) = if is_operator (codes "(") p.token then ps else after_parenthesis ps

-- these parts outside of all brackets, up to the bracket that closes what they are in; so many are open before them
abbrev pub outside : ℕ → List Part → List Part
outside depth [] = []
outside depth (p ∷ ps) =
    if is_opening p.token then outside (depth + 1) ps
    else (if is_closing p.token then (if nat_eq depth 0 then [] else outside (depth - 1) ps)
    else (if nat_eq depth 0 then p ∷ outside depth ps else outside depth ps))

-- the list of parameters in these parts of a head, outside of all inner brackets
abbrev pub listed : List Part → List Part
listed head = outside 0 (after_parenthesis head)

-- ---- the parameters in it: the first name, and the first after each comma

-- the parameter whose name is this token, by its bytes in a head that begins with the byte, if the name of one is due
abbrev pub named_at : ℕ → Bool → Tok → ℕ → ℕ → Option ParameterVal
named_at from due (Ident name) start end =
    if due then Some (record { name = name; start = start - from; end = end - from }) else None
named_at from due t start end = None

abbrev pub parameter_at : ℕ → Bool → Part → Option ParameterVal
parameter_at from due p = named_at from due p.token p.start p.end

-- the name of one is due after a comma, and not after a name
abbrev pub due_after : Bool → Tok → Bool
due_after due (Ident name) = false
due_after due (Symbol op) = if bytes_eq op (codes ",") then true else due
due_after due t = due

abbrev pub parameters_in : ℕ → Bool → List Part → List ParameterVal
parameters_in from due [] = []
parameters_in from due (p ∷ ps) =
    option_to_list (parameter_at from due p) ++ parameters_in from (due_after due p.token) ps

-- those in the head between two bytes
abbrev pub parameters_between : ℕ → ℕ → List Part → List ParameterVal
parameters_between from to parts = parameters_in from true (listed (filter (is_between from to) parts))

-- those in the head of a definition
abbrev pub parameters_by : List Part → Outlined → List ParameterVal
parameters_by parts s = parameters_between s.name_start (head_end s.name_end parts) parts

-- .. of the first of the component
abbrev pub parameters_of : List Outlined → List Part → List ℕ → List ParameterVal
parameters_of symbols parts name = option_map_or (parameters_by parts) (find (defines name) symbols) []

abbrev pub with_parameters : List ParameterVal → List ℕ → SignatureVal
with_parameters parameters head = record { head = head; parameters = parameters }

-- the head and the parameters of the first definition of the component in the text with these parts
abbrev pub signature_of : List ℕ → List Part → List ℕ → Option SignatureVal
signature_of text parts name =
    option_map (with_parameters (parameters_of (outline_of (length text) parts) parts name)) (head_of text parts name)

-- ---- what the pass over the head keeps of the tokens before: whether the list is open, and how many brackets in it

abbrev pub is_due : Place → Bool
is_due (places.Parameters depth due) = nat_eq depth 0 && due
is_due place = false

abbrev pub depth_of : Place → ℕ
depth_of (places.Parameters depth due) = depth
depth_of place = 0

abbrev pub after_name : Tok → Place
after_name t = if is_operator (codes "(") t then places.Parameters 0 true else places.Name

abbrev pub after_closing : ℕ → Bool → Place
after_closing depth due = if nat_eq depth 0 then places.Rest else places.Parameters (depth - 1) due

abbrev pub due_in : ℕ → Bool → Tok → Bool
due_in depth due t = if nat_eq depth 0 then due_after due t else due

abbrev pub after_listed : ℕ → Bool → Tok → Place
after_listed depth due t =
    if is_opening t then places.Parameters (depth + 1) due
    else (if is_closing t then after_closing depth due
    else places.Parameters depth (due_in depth due t))

abbrev pub place_after : Place → Tok → Place
place_after places.Name t = after_name t
place_after (places.Parameters depth due) t = after_listed depth due t
place_after places.Rest t = places.Rest
