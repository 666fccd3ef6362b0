-- What the functions that read a part of a source answer, and how their cursor goes on.
use Rattle.std.specs.Prelude.{◌≡◌, ◌⊎◌, ◌<◌, ◌≤◌, List, ℕ, Bool, true, false, codes, Option, Some, None, Result, Ok, Err, string_bytes}
use Rattle.std.specs.Borrow.{Bor}
use Rattle.tera_base.specs.ErrorView.{ErrorVal, NoMemory, NoteVal, Reporting, Saying, error_view, with_note}
use Rattle.tera_base.specs.Errors.{IsMemory, ReportsBy}
use Rattle.tera_base.specs.declared.errors.Error.{Error}
use Rattle.tera_base.specs.declared.errors.ErrorKind.{ErrorKind}
use Rattle.tera_base.specs.declared.errors.ErrorKind.TheVariants.{Memory, Message, SyntaxError}
use Rattle.tera_base.specs.declared.utils.Span.{Span}
use Rattle.tera_lexer.specs.code.Cursors.{Position, IsLater, RefusesFrom, size}
use Rattle.tera_lexer.specs.grammar.Faults.{Faults, IsFaultOf}
use Rattle.tera_lexer.specs.grammar.Lexed.{IsCount}
use Rattle.tera_lexer.specs.grammar.Place.{IsWithin}
use Rattle.tera_lexer.specs.grammar.Tokens as toks
use Rattle.tera_lexer.specs.grammar.Tokens.{Tok, Items}
use Rattle.tera_grammar.specs.Reads.{Read, found, stopped, Takes, Fails}
use Rattle.tera_grammar.specs.expressions.Reading.Front.{Place}
use Rattle.tera_grammar.specs.expressions.Concrete.{Name}
use Rattle.tera_grammar.specs.expressions.Operators as operators
use Rattle.tera_grammar.specs.expressions.Marks as marks
use Rattle.tera_grammar.specs.expressions.Marks.{Mark, Operation}
use Rattle.tera_expect.specs.Notes.{AreFirst}
use Rattle.tera_expect.specs.declared.fixed.Fixed.{Fixed}
use Rattle.tera_expect.specs.declared.fixed.Fixed.TheVariants.{Comma, Minus, Assign, Colon, Dot, Spread, Bar, At, Slash, GreaterThan, LeftParen, RightParen, LeftBracket, RightBracket, LeftBrace, RightBrace, For, In, If, Else, Not}

-- a cursor took tokens or none; and it took some
unfoldable pub GoesOn : Position → Position → Type 0
GoesOn old new = IsLater old new × (size new.left ≤ size old.left)

unfoldable pub Took : Position → Position → Type 0
Took old new = IsLater old new × (size new.left < size old.left)

-- The range of an error ends where the token ends that the cursor took last, or after it. Or it is the range of the
-- lexical fault in which the tokens end.
abbrev pub Reaches : Position → Position → Error → Type 0
Reaches old new e =
    (IsLater old new × ReportsBy (λ text span. new.span.range.end ≤ span.range.end) e) ⊎ ReportsBy (λ text span. IsFaultOf old.left text span) e

-- a refusal of what a cursor had left, where it is now
unfoldable pub Refuses : Position → Position → Error → Type 0
Refuses old new e = RefusesFrom old e × Reaches old new e × AreFirst old.left e

-- a refusal in the tokens that a cursor had left, or of the fault in which they end
unfoldable pub RefusesIn : Position → Position → Error → Type 0
RefusesIn old new e =
    ReportsBy (λ text span. IsWithin old.source span × Faults old.left text span) e × Reaches old new e × AreFirst old.left e

-- a number of a source is not negative, and is one of 64 bits
abbrev pub IsCounted : Tok → Type 0
IsCounted (toks.Integer n) = IsCount n
IsCounted _ = Unit {0}

-- What is read is of a kind that the value stands for; `left` are the tokens that are left.
abbrev pub GivesIn : {E T Q : Type 0} → (E → T → Type 0) → Result E Error → Q → Items → Read (T × Q) → Type 0
GivesIn {T = T} Is (Ok e) q left read = (t : T) × (read ≡ found (t, q)) × Is e t
GivesIn Is (Err e) q left read = Fails read left e

-- the same where what is read comes with the tokens left, and with a place
abbrev pub GivesBy : {E T : Type 0} → (E → T → Type 0) → Result E Error → Items → Read (T × Items) → Type 0
GivesBy Is r left read = GivesIn Is r left left read

abbrev pub GivesAt : {E T : Type 0} → (E → T → Type 0) → Result E Error → Place → Read (T × Place) → Type 0
GivesAt Is r q read = GivesIn Is r q q.tokens read

-- the value is made of what is read
abbrev pub GivesAs : {E T : Type 0} → (E → T) → Result E Error → Items → Read (T × Items) → Type 0
GivesAs part (Ok e) left read = read ≡ found (part e, left)
GivesAs part (Err e) left read = Fails read left e

-- something is read, of which no value is wanted
abbrev pub Passes : {E T : Type 0} → Result E Error → Items → Read (T × Items) → Type 0
Passes {T = T} (Ok e) left read = (t : T) × (read ≡ found (t, left))
Passes (Err e) left read = Fails read left e

-- the first of these tokens was taken, and those are left
abbrev pub TookFirst : Items → Items → Type 0
TookFirst old new = (t : Tok) × (s : Span) × (old ≡ toks.Token t s new)

-- a token was taken that was there, or none was
abbrev pub Eats : Bool → Position → Position → Takes Span → Type 0
Eats true old new read = (read ≡ found (new.span, new.left)) × Took old new
Eats false old new read = (read ≡ stopped old.left) × (new ≡ old)

-- a name that was read, and a place
abbrev pub name_at : Span → Bor (List ℕ) → Name
name_at span s = record { text = s.now; span = span }

abbrev pub name_in : List ℕ → Span → Name
name_in text span = record { text = text; span = span }

abbrev pub place_at : Span → Unit {0} → Span
place_at span u = span

abbrev pub EatsName : Option (Bor (List ℕ)) → Position → Position → Takes Name → Type 0
EatsName (Some s) old new read = (read ≡ found (name_at new.span s, new.left)) × Took old new
EatsName None old new read = (read ≡ stopped old.left) × (new ≡ old)

-- the source text of a fixed token, and the token
abbrev pub fixed_text : Fixed → List ℕ
fixed_text Comma = codes ","
fixed_text Minus = codes "-"
fixed_text Assign = codes "="
fixed_text Colon = codes ":"
fixed_text Dot = codes "."
fixed_text Spread = codes "..."
fixed_text Bar = codes "|"
fixed_text At = codes "@"
fixed_text Slash = codes "/"
fixed_text GreaterThan = codes ">"
fixed_text LeftParen = codes "("
fixed_text RightParen = codes ")"
fixed_text LeftBracket = codes "["
fixed_text RightBracket = codes "]"
fixed_text LeftBrace = codes "{"
fixed_text RightBrace = codes "}"
fixed_text For = codes "for"
fixed_text In = codes "in"
fixed_text If = codes "if"
fixed_text Else = codes "else"
fixed_text Not = codes "not"

abbrev pub mark_of : Fixed → Mark
mark_of Comma = marks.Comma
mark_of Minus = Operation operators.Minus
mark_of Assign = marks.Assign
mark_of Colon = marks.Colon
mark_of Dot = marks.Dot
mark_of Spread = marks.Spread
mark_of Bar = marks.Bar
mark_of At = marks.At
mark_of Slash = Operation operators.Div
mark_of GreaterThan = Operation operators.GreaterThan
mark_of LeftParen = marks.LeftParen
mark_of RightParen = marks.RightParen
mark_of LeftBracket = marks.LeftBracket
mark_of RightBracket = marks.RightBracket
mark_of LeftBrace = marks.LeftBrace
mark_of RightBrace = marks.RightBrace
mark_of For = marks.For
mark_of In = Operation operators.In
mark_of If = marks.If
mark_of Else = marks.Else
mark_of Not = marks.Not

-- what an error says, without its notes
pub data Reported : Type 0 where
  no_memory : Reported
  says : List ℕ → Reported
  reports : List ℕ → Span → Reported

abbrev pub kind_reported : ErrorKind → Reported
kind_reported Memory = no_memory
kind_reported (Message s) = says (string_bytes s)
kind_reported (SyntaxError b) = reports (string_bytes b.value.message) b.value.span

-- the same is reported, or an allocation failed
abbrev pub ReportsAs : Error → Error → Type 0
ReportsAs old new = IsMemory new ⊎ (kind_reported new.kind ≡ kind_reported old.kind)

-- a fault has one more note; another error stays, and so does what it says
abbrev pub noted_view : ErrorVal → NoteVal → ErrorVal
noted_view NoMemory n = NoMemory
noted_view (Saying text) n = Saying text
noted_view (Reporting r) n = Reporting (with_note r n)

abbrev pub IsNoted : Error → NoteVal → Error → Type 0
IsNoted old n new = IsMemory new ⊎ (error_view new ≡ noted_view (error_view old) n)
