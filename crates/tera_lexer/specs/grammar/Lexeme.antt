-- What is inside a tag: gaps of white space, lexemes, and faults.
use Rattle.std.specs.Prelude.{◌≡◌, ◌≢◌, ◌⊎◌, ℕ, ◌+◌, ◌-◌, ◌*◌, ◌^◌, ◌<◌, ◌≤◌, Bool, true, false, not, ◌||◌, ◌==◌, if◌then◌else◌, List, [], ◌∷◌, ◌++◌, Option, Some, None, find, codes}
use Rattle.std.specs.List.{AllByRecursion, list_any}
use Rattle.std.specs.Char.{is_ascii_digit, is_ascii_alphabetic, is_ascii_alphanumeric, is_ascii_whitespace}
use Rattle.tera_lexer.specs.grammar.Bytes.{line_feed, tab, carriage_return, double_quote, single_quote, backquote, dash_byte, dot, slash, digit_zero, backslash, underscore, letter_n, letter_r, letter_t}
use Rattle.tera_lexer.specs.grammar.Marks.{begins}

-- the bytes are none, or their first fails the test
abbrev pub StopsAt : (ℕ → Bool) → List ℕ → Type 0
StopsAt p [] = Unit {0}
StopsAt p (b ∷ bs) = p b ≡ false

-- a run of bytes that pass the test, the longest before rest
abbrev pub IsRun : (ℕ → Bool) → List ℕ → List ℕ → Type 0
IsRun p run rest = AllByRecursion (λ b. p b ≡ true) run × StopsAt p rest

-- a gap: the longest run of ASCII white space before rest
abbrev pub IsGap : List ℕ → List ℕ → Type 0
IsGap gap rest = IsRun is_ascii_whitespace gap rest

abbrev pub begins_name : ℕ → Bool
begins_name b = is_ascii_alphabetic b || b == underscore

abbrev pub goes_on_name : ℕ → Bool
goes_on_name b = is_ascii_alphanumeric b || b == underscore

abbrev pub is_quote : ℕ → Bool
is_quote b = b == double_quote || (b == single_quote || b == backquote)

-- what is between two quotes: a byte that is neither that quote nor a backslash; a backslash with the byte after it
pub data Inner : Type 0 where
  Plain : ℕ → Inner
  Escape : ℕ → Inner

abbrev pub IsInner : ℕ → Inner → Type 0
IsInner quote (Plain b) = (b ≢ quote) × (b ≢ backslash)
IsInner quote (Escape b) = Unit {0}

-- the bytes of the inside of a string
abbrev pub written : List Inner → List ℕ
written [] = []
written (Plain b ∷ is) = b ∷ written is
written (Escape b ∷ is) = backslash ∷ b ∷ written is

abbrev pub is_escape : Inner → Bool
is_escape (Plain b) = false
is_escape (Escape b) = true

abbrev pub has_escape : List Inner → Bool
has_escape is = list_any is_escape is

-- the escapes that are known: of the two quotes, of the slash and the backslash, and of a line feed, a tab
-- and a carriage return
abbrev pub is_known : ℕ → Bool
is_known b = list_any (λ c. c == b) (double_quote ∷ single_quote ∷ slash ∷ backslash ∷ codes "ntr")

abbrev pub is_unknown_escape : Inner → Bool
is_unknown_escape (Plain b) = false
is_unknown_escape (Escape b) = not (is_known b)

abbrev pub has_unknown_escape : List Inner → Bool
has_unknown_escape is = list_any is_unknown_escape is

-- what a known escape stands for
abbrev pub escaped : ℕ → ℕ
escaped b =
    if b == letter_n then line_feed else (if b == letter_t then tab else (if b == letter_r then carriage_return else b))

-- the text that a string stands for
abbrev pub value_of : List Inner → List ℕ
value_of [] = []
value_of (Plain b ∷ is) = b ∷ value_of is
value_of (Escape b ∷ is) = escaped b ∷ value_of is

-- the operators of more than one byte, longer ones first, and those of one byte
abbrev pub long_operators : List (List ℕ)
long_operators =
    codes "..." ∷ codes "//" ∷ codes "**" ∷ codes "==" ∷ codes "!=" ∷ codes ">=" ∷ codes "<=" ∷ codes "</" ∷ codes "?." ∷ codes "?[" ∷ []

abbrev pub is_short_operator : ℕ → Bool
is_short_operator b = list_any (λ c. c == b) (codes "+-*/%!.,:~|=><()[]{}@")

abbrev pub short_operator : ℕ → Option (List ℕ)
short_operator b = if is_short_operator b then Some (b ∷ []) else None

abbrev pub short_operator_at : List ℕ → Option (List ℕ)
short_operator_at [] = None
short_operator_at (b ∷ bs) = short_operator b

abbrev pub long_operator_at : List ℕ → Option (List ℕ)
long_operator_at bytes = find (λ op. begins op bytes) long_operators

abbrev pub first_of : Option (List ℕ) → Option (List ℕ) → Option (List ℕ)
first_of (Some op) other = Some op
first_of None other = other

-- the operator that begins the bytes, the longest that does
abbrev pub operator_at : List ℕ → Option (List ℕ)
operator_at bytes = first_of (long_operator_at bytes) (short_operator_at bytes)

-- the number that these digits write
abbrev pub decimal_from : ℕ → List ℕ → ℕ
decimal_from n [] = n
decimal_from n (b ∷ bs) = decimal_from (n * 10 + (b - digit_zero)) bs

abbrev pub decimal : List ℕ → ℕ
decimal bs = decimal_from 0 bs

-- a name and a number, by the first byte and the others; a string, by its quote and its inside; an
-- operator
pub data Lexeme : Type 0 where
  Name : ℕ → List ℕ → Lexeme
  Number : ℕ → List ℕ → Lexeme
  Quoted : ℕ → List Inner → Lexeme
  Operator : List ℕ → Lexeme

-- the bytes of a string
abbrev pub quoted : ℕ → List Inner → List ℕ
quoted quote is = quote ∷ (written is ++ quote ∷ [])

-- the bytes of a lexeme
abbrev pub spelled : Lexeme → List ℕ
spelled (Name b bs) = b ∷ bs
spelled (Number b bs) = b ∷ bs
spelled (Quoted quote is) = quoted quote is
spelled (Operator op) = op

-- digits, the longest run of them before rest
abbrev pub AreDigits : ℕ → List ℕ → List ℕ → Type 0
AreDigits b bs rest = (is_ascii_digit b ≡ true) × IsRun is_ascii_digit bs rest

-- a string closes where its quote comes first again
abbrev pub IsQuoted : ℕ → List Inner → Type 0
IsQuoted quote is = (is_quote quote ≡ true) × AllByRecursion (IsInner quote) is

-- the lexeme is there, before rest
abbrev pub IsLexeme : Lexeme → List ℕ → Type 0
IsLexeme (Name b bs) rest = (begins_name b ≡ true) × IsRun goes_on_name bs rest
IsLexeme (Number b bs) rest = AreDigits b bs rest × (begins (dot ∷ []) rest ≡ false) × (decimal (b ∷ bs) < 2 ^ 63)
IsLexeme (Quoted quote is) rest = IsQuoted quote is × (has_unknown_escape is ≡ false)
IsLexeme (Operator op) rest = operator_at (op ++ rest) ≡ Some op

-- a character that begins no lexeme; a quote that never closes; a string with an unknown escape; digits of a number
-- that is too great; a number with a point and the digits after it
pub data Fault : Type 0 where
  Unexpected : Fault
  Unclosed : ℕ → Fault
  UnknownEscape : ℕ → List Inner → Fault
  TooGreat : ℕ → List ℕ → Fault
  Float : ℕ → List ℕ → List ℕ → Fault

-- the bytes that a fault says
abbrev pub reported : Fault → List ℕ
reported Unexpected = []
reported (Unclosed quote) = []
reported (UnknownEscape quote is) = quoted quote is
reported (TooGreat b bs) = b ∷ bs
reported (Float b bs more) = b ∷ (bs ++ dot ∷ more)

-- the first byte begins no lexeme
abbrev pub BeginsNothing : List ℕ → Type 0
BeginsNothing [] = ⊥
BeginsNothing (b ∷ bs) =
    (is_ascii_digit b ≡ false) × (begins_name b ≡ false) × (is_quote b ≡ false) × (operator_at (b ∷ bs) ≡ None)

-- no quote closes in these bytes, which may end after a backslash
abbrev pub IsUnclosed : ℕ → List ℕ → Type 0
IsUnclosed quote bytes =
    (is : List Inner) × AllByRecursion (IsInner quote) is × ((bytes ≡ written is) ⊎ (bytes ≡ written is ++ backslash ∷ []))

-- the fault is at the front of the bytes
abbrev pub IsFault : Fault → List ℕ → Type 0
IsFault Unexpected bytes = BeginsNothing bytes
IsFault (Unclosed quote) bytes = (rest : List ℕ) × (bytes ≡ quote ∷ rest) × (is_quote quote ≡ true) × IsUnclosed quote rest
IsFault (UnknownEscape quote is) bytes =
    (rest : List ℕ) × (bytes ≡ quoted quote is ++ rest) × IsQuoted quote is × (has_unknown_escape is ≡ true)
IsFault (TooGreat b bs) bytes =
    (rest : List ℕ) × (bytes ≡ b ∷ (bs ++ rest)) × AreDigits b bs rest × (begins (dot ∷ []) rest ≡ false) × (2 ^ 63 ≤ decimal (b ∷ bs))
IsFault (Float b bs more) bytes =
    (rest : List ℕ) × (bytes ≡ b ∷ (bs ++ dot ∷ (more ++ rest))) × (is_ascii_digit b ≡ true) × AllByRecursion (λ d. is_ascii_digit d ≡ true) bs × IsRun is_ascii_digit more rest

-- a lexeme with the gap before it
pub record Item : Type 0 where
  pub gap : List ℕ
  pub lexeme : Lexeme

-- how the inside of a tag ends, each after a gap: at the end marker, with a dash or none, and with what follows it; at
-- the end of the source; or at a fault
pub data Close : Type 0 where
  End : List ℕ → Bool → List ℕ → Close
  Open : List ℕ → Close
  Bad : List ℕ → Fault → List ℕ → Close

-- the tag ends here: at a dash with the end marker, or at the end marker
abbrev pub is_at_end : List ℕ → List ℕ → Bool
is_at_end end bytes = begins (dash_byte ∷ end) bytes || begins end bytes

-- the end marker with a dash or none; one that is there with a dash in front is taken with it
abbrev pub IsEnd : List ℕ → Bool → List ℕ → List ℕ → Type 0
IsEnd end true at rest = at ≡ dash_byte ∷ (end ++ rest)
IsEnd end false at rest = (at ≡ end ++ rest) × (begins (dash_byte ∷ end) at ≡ false)

abbrev pub IsClose : List ℕ → Close → List ℕ → Type 0
IsClose end (End gap dash rest) bytes = (at : List ℕ) × (bytes ≡ gap ++ at) × IsGap gap at × IsEnd end dash at rest
IsClose end (Open gap) bytes = (bytes ≡ gap) × IsGap gap []
IsClose end (Bad gap fault at) bytes = (bytes ≡ gap ++ at) × IsGap gap at × (is_at_end end at ≡ false) × IsFault fault at

-- the bytes are the gaps and lexemes of these items, and then this close
abbrev pub IsInside : List ℕ → List Item → Close → List ℕ → Type 0
IsInside end [] close bytes = IsClose end close bytes
IsInside end (i ∷ is) close bytes =
    (rest : List ℕ) × (bytes ≡ i.gap ++ (spelled i.lexeme ++ rest)) × IsGap i.gap (spelled i.lexeme ++ rest)
    × (is_at_end end (spelled i.lexeme ++ rest) ≡ false) × IsLexeme i.lexeme rest × IsInside end is close rest
