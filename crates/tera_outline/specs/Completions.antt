-- What may be typed at a byte of a text.
use Rattle.std.specs.Prelude.{ℕ, ◌+◌, ◌-◌, Bool, true, false, not, ◌&&◌, ◌||◌, nat_eq, if◌then◌else◌, Option, Some, None, List, [], ◌∷◌, ◌++◌, codes, nat_lt, min, length, drop}
use Rattle.std.specs.Str.{bytes_eq}
use Rattle.std.specs.Option.{option_to_list}
use Rattle.std.specs.List.{find}
use Rattle.tera_lexer.specs.grammar.Tokens.{Tok, Start, Ident, Str, Escaped, Integer, Truth, Symbol}
use Rattle.tera_lexer.specs.declared.lexer.delimiters.Kind.TheVariants.{Block, Variable}
use Rattle.tera_outline.specs.declared.names.Before.{Before}
use Rattle.tera_outline.specs.declared.names.Before.TheVariants.{Tag, Dot, Other}
use Rattle.tera_outline.specs.declared.completions.CompletionKind.{CompletionKind}
use Rattle.tera_outline.specs.declared.completions.CompletionKind.TheVariants.{Statement, Component, Template, Argument, Filter, Test, Operand}
use Rattle.tera_outline.specs.declared.completions.Completion.{Completion}
use Rattle.tera_outline.specs.declared.completions.Slot.{Slot}
use Rattle.tera_outline.specs.declared.completions.Inside.{Inside}
use Rattle.tera_outline.specs.declared.completions.Role.{Role}
use Rattle.tera_outline.specs.declared.completions.Role.TheVariants.{Word, Equals, Opening, Closing, Ending, Outer, Value}
use Rattle.tera_outline.specs.Pieces.{Part}
use Rattle.tera_outline.specs.Dotted.{is_operator, dotted, end_of}
use Rattle.tera_lexer.specs.grammar.Words.{is_one_of}
use Rattle.tera_outline.specs.Names.{is_operand, is_string, after_token}

-- the start of the first of these parts, or the end of the text
abbrev pub gap_end : ℕ → List Part → ℕ
gap_end last [] = last
gap_end last (p ∷ ps) = p.start

-- the end of a name before these parts, with the dot after it if one is there
abbrev pub dot_end : ℕ → List Part → ℕ
dot_end end [] = end
dot_end end (p ∷ ps) = if is_operator (codes ".") p.token then p.end else end

-- the end of a name of these parts before others, with the dot after it if one is there; or that of the gap, where it
-- has none
abbrev pub place_end : ℕ → List Part → List Part → ℕ
place_end last [] ps = gap_end last ps
place_end last name ps = dot_end (end_of name) (drop (length name) ps)

-- the place of a name with which these parts begin, or that of the gap before them
abbrev pub name_slot : CompletionKind → ℕ → ℕ → List Part → Slot
name_slot kind last from ps =
    record { kind = kind; from = from; start = gap_end last ps; end = place_end last (dotted ps) ps }

-- the place between the quotes of a string that comes first
abbrev pub string_slot : List Part → Option Slot
string_slot [] = None
string_slot (p ∷ ps) =
    if is_string p.token && nat_lt p.start p.end
    then Some (record { kind = Template; from = p.start + 1; start = p.start + 1; end = p.end - 1 })
    else None

-- the place of a name after a word that ends at a byte, if something is between the word and these parts
abbrev pub spaced_slot : CompletionKind → ℕ → ℕ → List Part → Option Slot
spaced_slot kind last end ps = if nat_lt end (gap_end last ps) then Some (name_slot kind last (end + 1) ps) else None

-- that of a template's or a filter's name after the first word of a tag
abbrev pub word_slot : ℕ → ℕ → List ℕ → List Part → Option Slot
word_slot last end word ps =
    if is_one_of (codes "extends" ∷ codes "include" ∷ []) word then string_slot ps
    else (if bytes_eq word (codes "filter") then spaced_slot Filter last end ps
    else (if is_one_of (codes "if" ∷ codes "elif" ∷ []) word then spaced_slot Operand last end ps
    else None))

-- that of a test's name after an `is`, and the `not` after it
abbrev pub is_not : Tok → Bool
is_not (Ident word) = bytes_eq word (codes "not")
is_not t = false

abbrev pub test_slot : ℕ → ℕ → List Part → Option Slot
test_slot last end [] = spaced_slot Test last end []
test_slot last end (p ∷ ps) = if is_not p.token then spaced_slot Test last p.end ps else spaced_slot Test last end (p ∷ ps)

-- the words of expressions that an operand follows
abbrev pub operand_words : List (List ℕ)
operand_words = codes "and" ∷ codes "or" ∷ codes "not" ∷ codes "in" ∷ codes "if" ∷ codes "else" ∷ []

-- .. after a word of an expression; a word after a dot is a field
abbrev pub word_place : ℕ → Before → ℕ → List ℕ → List Part → Option Slot
word_place last Tag end word ps = word_slot last end word ps
word_place last Dot end word ps = None
word_place last before end word ps =
    if bytes_eq word (codes "is") then test_slot last end ps
    else (if is_one_of operand_words word then spaced_slot Operand last end ps
    else None)

-- the place after a token that ends at a byte: that of a statement's word after the start of a tag; that of an operand
-- after `{{`; that of a component's name after a `</`, and after a `<` where no operand may end before it; that of a
-- filter's name after a `|`; and that of a name after a word
abbrev pub operator_slot : ℕ → Before → List ℕ → ℕ → List Part → Option Slot
operator_slot last before op end ps =
    if bytes_eq op (codes "<") then (if is_operand before then None else Some (name_slot Component last end ps))
    else (if bytes_eq op (codes "</") then Some (name_slot Component last end ps)
    else (if bytes_eq op (codes "|") then Some (name_slot Filter last end ps) else None))

abbrev pub slot_after : ℕ → Before → Tok → ℕ → List Part → Option Slot
slot_after last before (Start Block dash) end ps = Some (name_slot Statement last end ps)
slot_after last before (Start Variable dash) end ps = Some (name_slot Operand last end ps)
slot_after last before (Symbol op) end ps = operator_slot last before op end ps
slot_after last before (Ident word) end ps = word_place last before end word ps
slot_after last before t end ps = None

-- those of these parts, in order, after what is before them, in a text that ends at `last`
abbrev pub slots_in : ℕ → Before → List Part → List Slot
slots_in last before [] = []
slots_in last before (p ∷ ps) =
    option_to_list (slot_after last before p.token p.end ps) ++ slots_in last (after_token before p.token) ps

abbrev pub slots_of : ℕ → List Part → List Slot
slots_of last ps = slots_in last Other ps

-- the cursor is there
abbrev pub holds : ℕ → Slot → Bool
holds byte s = not (nat_lt byte s.from) && not (nat_lt s.end byte)

-- what a token is in the call of a component
abbrev pub role_of_operator : List ℕ → Role
role_of_operator op =
    if bytes_eq op (codes "=") then Equals
    else (if is_one_of (codes "{" ∷ codes "(" ∷ codes "[" ∷ []) op then Opening
    else (if is_one_of (codes "}" ∷ codes ")" ∷ codes "]" ∷ []) op then Closing
    else (if is_one_of (codes ">" ∷ codes "/" ∷ []) op then Ending
    else Value)))

abbrev pub role_of : Tok → Role
role_of (Ident name) = Word
role_of (Symbol op) = role_of_operator op
role_of (Str text) = Value
role_of (Escaped text) = Value
role_of (Integer n) = Value
role_of (Truth b) = Value
role_of t = Outer

-- right after the component's name, which ends with this byte
abbrev pub first_inside : ℕ → Inside
first_inside from = record { from = from; valued = false; depth = 0 }

-- the place for an argument before a token, where no bracket is open and no value is to come; that of its name, if it
-- is one
abbrev pub role_end : Role → ℕ → ℕ → Option ℕ
role_end Equals start end = None
role_end Word start end = Some end
role_end role start end = Some start

abbrev pub argument_to : ℕ → ℕ → ℕ → Option ℕ → Option Slot
argument_to call from start None = None
argument_to call from start (Some end) = Some (record { kind = Argument call; from = from; start = start; end = end })

abbrev pub argument_before : ℕ → Inside → Role → ℕ → ℕ → Option Slot
argument_before call i role start end =
    if i.valued || not (nat_eq i.depth 0) then None else argument_to call i.from start (role_end role start end)

-- after a token the call goes on, or ends
abbrev pub goes_on : Inside → ℕ → Option Inside
goes_on i end = Some (record { from = end; valued = false; depth = i.depth })

abbrev pub inside_after : Inside → Role → ℕ → Option Inside
inside_after i Outer end = None
inside_after i Ending end = if nat_eq i.depth 0 then None else goes_on i end
inside_after i Closing end =
    if nat_eq i.depth 0 then None else Some (record { from = end; valued = false; depth = i.depth - 1 })
inside_after i Opening end = Some (record { from = end; valued = false; depth = i.depth + 1 })
inside_after i Equals end = Some (record { from = end; valued = true; depth = i.depth })
inside_after i role end = goes_on i end

-- the places for arguments from there on
abbrev pub inside : ℕ → ℕ → Inside → List Part → List Slot
inside last call i [] = option_to_list (argument_before call i Outer last last)
inside last call i (p ∷ ps) =
    option_to_list (argument_before call i (role_of p.token) p.start p.end)
    ++ (elim (inside_after i (role_of p.token) p.end) [ Some next ↦ inside last call next ps | None ↦ [] ])

-- those of a call whose component has a name of these parts, the first of others
abbrev pub named : ℕ → List Part → List Part → List Slot
named last [] ps = []
named last (n ∷ ns) ps = inside last n.start (first_inside (end_of (n ∷ ns))) (drop (length (n ∷ ns)) ps)

abbrev pub called : ℕ → List Part → List Slot
called last ps = named last (dotted ps) ps

abbrev pub begins_call : Before → Tok → Bool
begins_call before t = is_operator (codes "<") t && not (is_operand before)

abbrev pub either : Option Slot → Option Slot → Option Slot
either None other = other
either (Some s) other = Some s

-- that of the first call that has one at the byte
abbrev pub argument_in : ℕ → ℕ → Before → List Part → Option Slot
argument_in last byte before [] = None
argument_in last byte before (p ∷ ps) =
    either (if begins_call before p.token then find (holds byte) (called last ps) else None)
    (argument_in last byte (after_token before p.token) ps)

abbrev pub argument_of : ℕ → ℕ → List Part → Option Slot
argument_of last byte ps = argument_in last byte Other ps

-- the place at the byte: that of a word or a name before that of an argument
abbrev pub slot_of : ℕ → ℕ → List Part → Option Slot
slot_of last byte ps = either (find (holds byte) (slots_of last ps)) (argument_of last byte ps)

-- what is typed begins where the place says, or at the cursor where that is before it
abbrev pub completion_at : ℕ → Slot → Completion
completion_at byte s = record { kind = s.kind; start = min byte s.start }
