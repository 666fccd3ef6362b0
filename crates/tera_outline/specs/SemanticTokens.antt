-- The tokens of a text that an editor colours, each with what it is.
use Rattle.std.specs.Prelude.{◌≡◌, ◌+◌, ◌<◌, ◌≤◌, ◌++◌, ◌∷◌, ◌&&◌, ◌||◌, ◌==◌, ℕ, Bool, false, Option, Some, None, if◌then◌else◌, nat_lt, List, [], codes, length, slice_index, slice_range}
use Rattle.std.specs.Str.{bytes_eq}
use Rattle.tera_lexer.specs.grammar.Tokens.{Tok, Content, Start, Ident, Str, Escaped, Integer, Truth, Symbol}
use Rattle.tera_lexer.specs.grammar.Words.{is_one_of, none_words, operator_words}
use Rattle.tera_lexer.specs.declared.lexer.delimiters.Kind.TheVariants.{Block as BlockTag}
use Rattle.tera_outline.specs.declared.names.Before.TheVariants as befores
use Rattle.tera_outline.specs.declared.semantic_tokens.Context.{Context}
use Rattle.tera_outline.specs.declared.semantic_tokens.Lead.{Lead}
use Rattle.tera_outline.specs.declared.semantic_tokens.Lead.TheVariants.{Tag, Statement, Block, Component, Part as PartOfName, Dot, Bar, Is, Comma, Parameter, Colon, Other}
use Rattle.tera_outline.specs.declared.semantic_tokens.SemanticKind.{SemanticKind}
use Rattle.tera_outline.specs.declared.semantic_tokens.SemanticKind.TheVariants as kinds
use Rattle.tera_outline.specs.declared.semantic_tokens.SemanticToken.{SemanticToken}
use Rattle.tera_outline.specs.Dotted.{is_operator}
use Rattle.tera_outline.specs.Names.{is_operand, after_token}
use Rattle.tera_outline.specs.Pieces.{Part}

-- the words of expressions
abbrev pub is_keyword : List ℕ → Bool
is_keyword word =
    is_one_of (codes "if" ∷ codes "else" ∷ codes "for" ∷ operator_words) word || is_one_of none_words word

-- the operators, and the marks of the call of a component
abbrev pub is_coloured : List ℕ → Bool
is_coloured op =
    is_one_of (codes "+" ∷ codes "-" ∷ codes "*" ∷ codes "/" ∷ codes "//" ∷ codes "%" ∷ codes "**" ∷ codes "<" ∷ codes "<="
    ∷ codes ">" ∷ codes ">=" ∷ codes "==" ∷ codes "!=" ∷ codes "=" ∷ codes "~" ∷ codes "|" ∷ codes "</" ∷ []) op

-- what a name is before an equals sign, and before a colon
abbrev pub assigned : Lead → SemanticKind
assigned Statement = kinds.Variable
assigned lead = kinds.Parameter

abbrev pub typed : Lead → SemanticKind
typed Comma = kinds.Parameter
typed lead = kinds.Variable

-- a function is before a parenthesis, an argument before an equals sign, unless that is of the statement, and a
-- parameter before a colon; any other name is a variable
abbrev pub kind_before : Lead → Tok → SemanticKind
kind_before lead t =
    if is_operator (codes "(") t then kinds.Function
    else (if is_operator (codes "=") t then assigned lead
    else (if is_operator (codes ":") t then typed lead
    else kinds.Variable))

abbrev pub name_kind : Lead → List Part → SemanticKind
name_kind lead [] = kinds.Variable
name_kind lead (p ∷ ps) = kind_before lead p.token

abbrev pub word_or_name : Lead → List ℕ → List Part → SemanticKind
word_or_name lead word ps = if is_keyword word then kinds.Keyword else name_kind lead ps

-- what a name is, by what is before and after it
abbrev pub word_kind : Lead → List ℕ → List Part → SemanticKind
word_kind Tag word ps = kinds.Keyword
word_kind Block word ps = kinds.Namespace
word_kind Component word ps = kinds.Class
word_kind Dot word ps = kinds.Property
word_kind Bar word ps = kinds.Function
word_kind Colon word ps = kinds.Type
word_kind Is word ps = if bytes_eq word (codes "not") then kinds.Keyword else kinds.Function
word_kind lead word ps = word_or_name lead word ps

-- of what is between tags a comment is something; no text and no raw piece begins as a comment does
abbrev pub content_kind : List ℕ → Option SemanticKind
content_kind (b ∷ c ∷ bs) = if (b == 123) && (c == 35) then Some kinds.Comment else None
content_kind bs = None

-- what a token of these bytes is, if it is something
abbrev pub kind_of : Lead → Tok → List ℕ → List Part → Option SemanticKind
kind_of lead (Ident word) bytes ps = Some (word_kind lead word ps)
kind_of lead (Str text) bytes ps = Some kinds.String
kind_of lead (Escaped text) bytes ps = Some kinds.String
kind_of lead (Integer n) bytes ps = Some kinds.Number
kind_of lead (Truth b) bytes ps = Some kinds.Keyword
kind_of lead (Symbol op) bytes ps = if is_coloured op then Some kinds.Operator else None
kind_of lead (Content text) bytes ps = content_kind bytes
kind_of lead t bytes ps = None

-- what a name is led by after the word of a statement; and after another word
abbrev pub statement_lead : List ℕ → Lead
statement_lead word =
    if is_one_of (codes "component" ∷ codes "endcomponent" ∷ []) word then Component
    else (if is_one_of (codes "block" ∷ codes "endblock" ∷ []) word then Block
    else (if bytes_eq word (codes "filter") then Bar
    else Statement))

abbrev pub kind_lead : List ℕ → SemanticKind → Lead
kind_lead word kinds.Parameter = Parameter
kind_lead word kinds.Keyword = if bytes_eq word (codes "is") then Is else Other
kind_lead word kind = Other

abbrev pub word_lead : Lead → List ℕ → List Part → Lead
word_lead Tag word ps = statement_lead word
word_lead Component word ps = PartOfName
word_lead Is word ps = if bytes_eq word (codes "not") then Is else Other
word_lead lead word ps = kind_lead word (word_kind lead word ps)

abbrev pub dot_lead : Lead → Lead
dot_lead PartOfName = Component
dot_lead lead = Dot

abbrev pub colon_lead : Lead → Lead
colon_lead Parameter = Colon
colon_lead lead = Other

abbrev pub operator_lead : Context → List ℕ → Lead
operator_lead c op =
    if bytes_eq op (codes "<") then (if is_operand c.before then Other else Component)
    else (if bytes_eq op (codes "</") then Component
    else (if bytes_eq op (codes ".") then dot_lead c.lead
    else (if bytes_eq op (codes "?.") then Dot
    else (if bytes_eq op (codes "|") then Bar
    else (if is_one_of (codes "(" ∷ codes "," ∷ codes "@" ∷ []) op then Comma
    else (if bytes_eq op (codes ":") then colon_lead c.lead
    else Other))))))

abbrev pub lead_after : Context → Tok → List Part → Lead
lead_after c (Start BlockTag dash) ps = Tag
lead_after c (Ident word) ps = word_lead c.lead word ps
lead_after c (Symbol op) ps = operator_lead c op
lead_after c t ps = Other

-- what is before the next token after this one
abbrev pub following : Context → Tok → List Part → Context
following c t ps = record { before = after_token c.before t; lead = lead_after c t ps }

-- a token between two bytes, if there is something between them
abbrev pub token : SemanticKind → ℕ → ℕ → List SemanticToken
token kind start end = if nat_lt start end then record { kind = kind; start = start; end = end } ∷ [] else []

abbrev pub ends_line : ℕ → Bool
ends_line b = (b == 10) || (b == 13)

-- a token that begins at a byte, as far as it was read, and has these bytes still: what of it is on each line
abbrev pub on_lines : SemanticKind → ℕ → ℕ → List ℕ → List SemanticToken
on_lines kind start at [] = token kind start at
on_lines kind start at (b ∷ bs) =
    if ends_line b then token kind start at ++ on_lines kind (at + 1) (at + 1) bs else on_lines kind start (at + 1) bs

abbrev pub bytes_of : List ℕ → Part → List ℕ
bytes_of text p = slice_range text p.start p.end

-- .. of a token that is something
abbrev pub kinded : ℕ → List ℕ → Option SemanticKind → List SemanticToken
kinded start bytes None = []
kinded start bytes (Some kind) = on_lines kind start start bytes

-- those of these parts, in order, after what is before them
abbrev pub tokens_in : Context → List ℕ → List Part → List SemanticToken
tokens_in c text [] = []
tokens_in c text (p ∷ ps) =
    kinded p.start (bytes_of text p) (kind_of c.lead p.token (bytes_of text p) ps) ++ tokens_in (following c p.token ps) text ps

abbrev pub semantic_tokens_of : List ℕ → List Part → List SemanticToken
semantic_tokens_of text ps = tokens_in (record { before = befores.Other; lead = Other }) text ps

-- ---- what is so of them

-- a token is not empty, is within the text, and goes over the end of no line
pub record IsOnLine (text : List ℕ) (t : SemanticToken) : Type 0 where
  pub some : t.start < t.end
  pub within : t.end ≤ length text
  pub line : (k : ℕ) → t.start ≤ k → k < t.end → ends_line (slice_index text k) ≡ false

-- they are from this byte on, one after the other
abbrev pub AreOnLines : ℕ → List ℕ → List SemanticToken → Type 0
AreOnLines from text [] = Unit {0}
AreOnLines from text (t ∷ ts) = (from ≤ t.start) × IsOnLine text t × AreOnLines t.end text ts
