-- What tokens begin with.
use Rattle.std.specs.Prelude.{ℕ, zero, suc, Bool, true, false, cond, ltb, List, [], ◌∷◌, Option, Some, None}
use Rattle.std.specs.Str.{bytes_eq}
use Rattle.tera_base.specs.declared.utils.Span.{Span}
use Rattle.tera_lexer.specs.grammar.Tokens as toks
use Rattle.tera_lexer.specs.grammar.Tokens.{Tok, Items, Token, Ident, Symbol}
use Rattle.tera_grammar.specs.expressions.Operators.{Mul, Div, Mod, Plus, Minus, FloorDiv, Power, LessThan, GreaterThan, LessThanOrEqual, GreaterThanOrEqual, Equal, NotEqual, And, Or, StrConcat, In}
use Rattle.tera_grammar.specs.expressions.Marks.{Mark, mark_token, LeftParen, LeftBracket, QuestionBracket, LeftBrace, Dot, QuestionDot, Bar, Not, Is, If, Operation, Other}
use Rattle.tera_grammar.specs.expressions.Concrete.{Name, Quote, Simple, Escaped, Lit, Number, Quoted, Truth, Op, Single, NotIn, Joint, plain_dot, optional_dot, Bracket, plain_bracket, optional_bracket}
use Rattle.tera_grammar.specs.expressions.Powers.{op_left, test_power, filter_power}
use Rattle.tera_grammar.specs.Reads.{Read, found, stopped, Takes, first_as}

-- Where the reading is: how many links may still come, and the tokens that are not yet taken.
pub record Place : Type 0 where
  pub links : ℕ
  pub tokens : Items

abbrev pub at : ℕ → Items → Place
at k ts = record { links = k; tokens = ts }

abbrev pub same_token : Tok → Tok → Bool
same_token (Ident a) (Ident b) = bytes_eq a b
same_token (Symbol a) (Symbol b) = bytes_eq a b
same_token _ _ = false

-- which of the marks a token is
abbrev pub among : List Mark → Tok → Mark
among [] t = Other
among (m ∷ ms) t = cond (same_token t (mark_token m)) m (among ms t)

-- a mark
abbrev pub begins : Mark → Items → Bool
begins m (Token t s us) = same_token t (mark_token m)
begins m _ = false

abbrev pub lowered : ℕ → Option ℕ
lowered zero = None
lowered (suc n) = Some n

-- what a token is: a literal, a string
abbrev pub literal_of : Tok → Option Lit
literal_of (toks.Integer n) = Some (Number n)
literal_of (toks.Str text) = Some (Quoted (Simple text))
literal_of (toks.Escaped text) = Some (Quoted (Escaped text))
literal_of (toks.Truth b) = Some (Truth b)
literal_of _ = None

abbrev pub quote_of : Tok → Option Quote
quote_of (toks.Str text) = Some (Simple text)
quote_of (toks.Escaped text) = Some (Escaped text)
quote_of _ = None

-- how a link begins, with the tokens after it; a call is none
pub data Link : Type 0 where
  no_link : Link
  jointed : Joint → Items → Link
  bracketed : Bracket → Items → Link
  called : Link

abbrev pub link_marks : List Mark
link_marks = Dot ∷ QuestionDot ∷ LeftBracket ∷ QuestionBracket ∷ LeftParen ∷ []

abbrev pub marked_link : Mark → Span → Items → Link
marked_link Dot s us = jointed (plain_dot s) us
marked_link QuestionDot s us = jointed (optional_dot s) us
marked_link LeftBracket s us = bracketed (plain_bracket s) us
marked_link QuestionBracket s us = bracketed (optional_bracket s) us
marked_link LeftParen s us = called
marked_link _ s us = no_link

unfoldable pub link_of : Items → Link
link_of (Token t s us) = marked_link (among link_marks t) s us
link_of _ = no_link

-- how an operator, or a suffix, begins
pub data Lead : Type 0 where
  leads_binary : Op → Lead
  leads_condition : Span → Lead

pub data Ending : Type 0 where
  ends_test ends_filter ends_subscript : Span → Ending

abbrev pub lead_power : Lead → ℕ
lead_power (leads_binary o) = op_left o
lead_power (leads_condition s) = 0

-- whether the power m keeps the suffix out; it never keeps a subscript out
abbrev pub keeps_out : ℕ → Ending → Bool
keeps_out m (ends_test s) = ltb test_power m
keeps_out m (ends_filter s) = ltb filter_power m
keeps_out m (ends_subscript s) = false

abbrev pub front_marks : List Mark
front_marks =
    Operation Or ∷ Operation And ∷ Operation In ∷ Not ∷ Is ∷ If ∷ Bar ∷ LeftBracket ∷ Operation Equal ∷ Operation NotEqual
    ∷ Operation LessThan
    ∷ Operation LessThanOrEqual ∷ Operation GreaterThan ∷ Operation GreaterThanOrEqual ∷ Operation Plus ∷ Operation Minus
    ∷ Operation Mul
    ∷ Operation Div ∷ Operation Mod ∷ Operation StrConcat ∷ Operation FloorDiv ∷ Operation Power ∷ []

-- how an operand begins, where it is not a name and no literal
abbrev pub head_marks : List Mark
head_marks = Operation Minus ∷ LeftParen ∷ LeftBracket ∷ LeftBrace ∷ Operation LessThan ∷ []

unfoldable pub head_mark : Tok → Mark
head_mark t = among head_marks t

-- the tokens begin with a prefix
unfoldable pub begins_sign : Items → Bool
begins_sign (Token t s us) = cond (same_token t (mark_token Not)) true (same_token t (mark_token (Operation Minus)))
begins_sign _ = false

-- what is read, and the place after it
abbrev pub Reads : Type 0 → Type 0
Reads A = Read (A × Place)

abbrev pub moved : {A : Type 0} → ℕ → Takes A → Reads A
moved k (stopped z) = stopped z
moved k (found x) = found (x.0, at k x.1)

-- which kinds of tokens there are: a mark, a name, a literal, a string
abbrev pub mark_kind : Mark → Tok → Span → Option Span
mark_kind m t s = cond (same_token t (mark_token m)) (Some s) None

abbrev pub name_kind : Tok → Span → Option Name
name_kind (Ident w) s = Some (record { text = w; span = s })
name_kind _ s = None

abbrev pub placed : {A : Type 0} → Span → Option A → Option (A × Span)
placed s None = None
placed s (Some x) = Some (x, s)

abbrev pub literal_kind : Tok → Span → Option (Lit × Span)
literal_kind t s = placed s (literal_of t)

abbrev pub quote_kind : Tok → Span → Option (Quote × Span)
quote_kind t s = placed s (quote_of t)

abbrev pub takes : Mark → Items → Takes Span
takes m ts = first_as (mark_kind m) ts

abbrev pub taken_name : Items → Takes Name
taken_name ts = first_as name_kind ts

abbrev pub taken_quote : Items → Takes (Quote × Span)
taken_quote ts = first_as quote_kind ts

unfoldable pub skip : Mark → Place → Reads Span
skip m p = moved p.links (takes m p.tokens)

unfoldable pub name_of : Place → Reads Name
name_of p = moved p.links (taken_name p.tokens)

unfoldable pub literal_at : Place → Reads (Lit × Span)
literal_at p = moved p.links (first_as literal_kind p.tokens)

unfoldable pub quote_at : Place → Reads (Quote × Span)
quote_at p = moved p.links (taken_quote p.tokens)

-- What the tokens after an operand begin with; a `not` that is not a `not in` is misplaced, which the token after it
-- shows.
pub data Front : Type 0 where
  nothing : Front
  joins : Lead → Items → Front
  closes : Ending → Items → Front
  misplaced : Items → Front

abbrev pub front_not : Span → Takes Span → Front
front_not s (stopped z) = misplaced z
front_not s (found x) = joins (leads_binary (NotIn s x.0)) x.1

abbrev pub marked_front : Mark → Span → Items → Front
marked_front (Operation o) s us = joins (leads_binary (Single o s)) us
marked_front Not s us = front_not s (takes (Operation In) us)
marked_front Is s us = closes (ends_test s) us
marked_front If s us = joins (leads_condition s) us
marked_front Bar s us = closes (ends_filter s) us
marked_front LeftBracket s us = closes (ends_subscript s) us
marked_front _ s us = nothing

unfoldable pub front_of_token : Tok → Span → Items → Front
front_of_token t s us = marked_front (among front_marks t) s us

abbrev pub front : Items → Front
front (Token t s us) = front_of_token t s us
front _ = nothing
