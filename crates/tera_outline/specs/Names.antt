-- The names in a text that stand for components and templates.
use Rattle.std.specs.Prelude.{ℕ, Bool, true, false, not, ◌&&◌, if◌then◌else◌, Option, Some, None, List, [], ◌∷◌, ◌++◌, codes, nat_lt, string_bytes, map}
use Rattle.std.specs.Str.{bytes_eq}
use Rattle.std.specs.Option.{option_to_list}
use Rattle.tera_lexer.specs.grammar.Tokens.{Tok, Start, Ident, Str, Escaped, Integer, Truth, Symbol}
use Rattle.tera_lexer.specs.grammar.Words.{is_one_of, operator_words}
use Rattle.tera_lexer.specs.declared.lexer.delimiters.Kind.TheVariants.{Block}
use Rattle.tera_outline.specs.declared.names.NameKind.{NameKind}
use Rattle.tera_outline.specs.declared.names.NameKind.TheVariants.{Called, Closed, Defined, Extended, Included}
use Rattle.tera_outline.specs.declared.names.Name.{Name}
use Rattle.tera_outline.specs.declared.names.Before.{Before}
use Rattle.tera_outline.specs.declared.names.Before.TheVariants.{Tag, Operand, Slash, Dot, Other}
use Rattle.tera_outline.specs.declared.names.Found.{Found}
use Rattle.tera_outline.specs.Pieces.{Part, part_of}
use Rattle.tera_outline.specs.Dotted.{dotted, text_of, start_of, end_of}

-- a name of a component or a template, and the bytes between which it is
pub record Named : Type 0 where
  pub kind : NameKind
  pub text : List ℕ
  pub start : ℕ
  pub end : ℕ

abbrev pub name_view : Name → Named
name_view n = record { kind = n.kind; text = string_bytes n.text; start = n.start; end = n.end }

-- that of these parts
abbrev pub of_parts : NameKind → List Part → Named
of_parts kind ps = record { kind = kind; text = text_of ps; start = start_of ps; end = end_of ps }

abbrev pub found_view : Found → Named
found_view f = of_parts f.kind (map part_of f.parts.now)

abbrev pub named : NameKind → List Part → Option Named
named kind [] = None
named kind (p ∷ ps) = Some (of_parts kind (p ∷ ps))

-- the words with which no operand ends
abbrev pub no_operands : List (List ℕ)
no_operands = codes "if" ∷ codes "else" ∷ codes "elif" ∷ codes "filter" ∷ operator_words

abbrev pub after_word : List ℕ → Before
after_word word = if is_one_of no_operands word then Other else Operand

-- .. unless they are fields
abbrev pub after_name : Before → List ℕ → Before
after_name Dot word = Operand
after_name before word = after_word word

-- after a slash a `>` ends the call of a component
abbrev pub after_greater : Before → Before
after_greater Slash = Operand
after_greater before = Other

abbrev pub after_operator : Before → List ℕ → Before
after_operator before op =
    if is_one_of (codes ")" ∷ codes "]" ∷ codes "}" ∷ []) op then Operand
    else (if bytes_eq op (codes "/") then Slash
    else (if is_one_of (codes "." ∷ codes "?." ∷ []) op then Dot
    else (if bytes_eq op (codes ">") then after_greater before
    else Other)))

-- what a token is to the one after it: the start of a statement's tag, what may be the end of an operand, a slash, a
-- dot, or something else
abbrev pub after_token : Before → Tok → Before
after_token before (Start Block dash) = Tag
after_token before (Ident word) = after_name before word
after_token before (Str text) = Operand
after_token before (Escaped text) = Operand
after_token before (Integer n) = Operand
after_token before (Truth b) = Operand
after_token before (Symbol op) = after_operator before op
after_token before t = Other

abbrev pub is_string : Tok → Bool
is_string (Str text) = true
is_string (Escaped text) = true
is_string t = false

-- the string with which the parts begin; none where no string comes first
abbrev pub string : List Part → List Part
string [] = []
string (p ∷ ps) = if is_string p.token then p ∷ [] else []

abbrev pub is_operand : Before → Bool
is_operand Operand = true
is_operand before = false

-- the name that the first word of a tag makes of what comes after it
abbrev pub word_name : List ℕ → List Part → Option Named
word_name word ps =
    if is_one_of (codes "component" ∷ codes "endcomponent" ∷ []) word then named Defined (dotted ps)
    else (if bytes_eq word (codes "extends") then named Extended (string ps)
    else (if bytes_eq word (codes "include") then named Included (string ps)
    else None))

abbrev pub first_name : Before → List ℕ → List Part → Option Named
first_name Tag word ps = word_name word ps
first_name before word ps = None

-- the name that a token makes of what comes after it: a `<` where no operand may end before it, a `</`, and the first
-- word of a tag
abbrev pub name_after : Before → Tok → List Part → Option Named
name_after before (Symbol op) ps =
    if bytes_eq op (codes "<") then (if is_operand before then None else named Called (dotted ps))
    else (if bytes_eq op (codes "</") then named Closed (dotted ps) else None)
name_after before (Ident word) ps = first_name before word ps
name_after before t ps = None

-- those of these parts, in order, after what is before them
abbrev pub names_in : Before → List Part → List Named
names_in before [] = []
names_in before (p ∷ ps) = option_to_list (name_after before p.token ps) ++ names_in (after_token before p.token) ps

abbrev pub names_of : List Part → List Named
names_of ps = names_in Other ps

-- the byte is in the name, or right after it
abbrev pub holds : ℕ → Named → Bool
holds byte n = not (nat_lt byte n.start) && not (nat_lt n.end byte)
