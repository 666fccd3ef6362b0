-- What the program finds at a place in a tag, against what is there.
use Rattle.std.specs.Prelude.{◌≡◌, ◌==◌, if◌then◌else◌, true, false, not, ℕ, Bool, List, [], ◌∷◌, length, take, Option, Some, None}
use Rattle.std.specs.List.{list_any}
use Rattle.std.specs.Char.{is_ascii_digit, is_ascii_whitespace}
use Rattle.tera_lexer.specs.grammar.Bytes.{backslash}
use Rattle.tera_lexer.specs.grammar.Lexeme.{goes_on_name, spelled, reported, quoted, Inner, IsQuoted, written, has_escape, has_unknown_escape}
use Rattle.tera_lexer.specs.grammar.Lexeme as lexeme
use Rattle.tera_lexer.specs.grammar.Tokens.{Tok, token_of, fault_text, Str, Symbol}
use Rattle.tera_lexer.specs.reading.Front.{Front, Reads, Breaks}
use Rattle.tera_lexer.specs.code.Seen.{seen}
use Rattle.tera_lexer.specs.declared.lexer.tokens.Token.{Token}
use Rattle.tera_lexer.specs.declared.lexer.lexeme.Class.{Class}
use Rattle.tera_lexer.specs.declared.lexer.lexeme.Class.TheVariants.{Space, Name, Digit}
use Rattle.tera_lexer.specs.declared.lexer.lexeme.Found.{Found}
use Rattle.tera_lexer.specs.declared.lexer.lexeme.Found.TheVariants.{Lexeme, Text, Escaped, Fault}

abbrev pub passes : Class → ℕ → Bool
passes Space b = is_ascii_whitespace b
passes Name b = goes_on_name b
passes Digit b = is_ascii_digit b

-- the byte goes on a string without escapes
abbrev pub goes_on_string : ℕ → ℕ → Bool
goes_on_string quote b = if b == quote then false else not (b == backslash)

-- the first byte passes the test
abbrev pub BeginsBy : (ℕ → Bool) → List ℕ → Type 0
BeginsBy p [] = ⊥
BeginsBy p (b ∷ bs) = p b ≡ true

-- where a string closes, and whether a backslash is in it
abbrev pub IsClosing : Option ℕ → List ℕ → Option (ℕ × Bool) → Type 0
IsClosing closing bytes None = None ≡ closing
IsClosing closing bytes (Some p) = (Some p.0 ≡ closing) × (list_any (λ b. b == backslash) (take p.0 bytes) ≡ p.1)

-- the token of a lexeme that is there, with its length
abbrev pub IsTokenAt : Tok → ℕ → Front → Type 0
IsTokenAt token n (Reads lexeme rest) = (token ≡ token_of lexeme) × (n ≡ length (spelled lexeme))
IsTokenAt token n (Breaks fault) = ⊥

-- the same of a lexeme that is not a string
abbrev pub is_string : Front → Bool
is_string (Reads (lexeme.Quoted quote is) rest) = true
is_string front = false

abbrev pub IsPlainAt : Tok → ℕ → Front → Type 0
IsPlainAt token n front = IsTokenAt token n front × (is_string front ≡ false)

-- the text of a fault that is there, with the length of what it says
abbrev pub IsFaultAt : List ℕ → ℕ → Front → Type 0
IsFaultAt text n (Reads lexeme rest) = ⊥
IsFaultAt text n (Breaks fault) = (text ≡ fault_text fault) × (n ≡ length (reported fault))

-- the inside of a string with escapes that is there, with the length of the string
abbrev pub IsEscapedAt : List ℕ → ℕ → Front → Type 0
IsEscapedAt inside n (Reads (lexeme.Quoted quote is) rest) = (inside ≡ written is) × (has_escape is ≡ true) × (n ≡ length (quoted quote is))
IsEscapedAt inside n _ = ⊥

abbrev pub IsFound : Found → Front → Type 0
IsFound (Lexeme token n) front = IsPlainAt (seen token) n front
IsFound (Text inside n) front = IsTokenAt (Str inside.now) n front
IsFound (Escaped inside n) front = IsEscapedAt inside.now n front
IsFound (Fault fault) front = IsFaultAt fault.message.now fault.len front

abbrev pub found_len : Found → ℕ
found_len (Lexeme token n) = n
found_len (Text inside n) = n
found_len (Escaped inside n) = n
found_len (Fault fault) = fault.len

-- the token of an operator, with its length
abbrev pub IsOperatorOf : Option (Token × ℕ) → Option (List ℕ) → Type 0
IsOperatorOf (Some p) (Some op) = (seen p.0 ≡ Symbol op) × (p.1 ≡ length op)
IsOperatorOf None None = Unit {0}
IsOperatorOf _ _ = ⊥

abbrev pub IsTokenOf : Option Token → Option (List ℕ) → Type 0
IsTokenOf (Some token) (Some op) = seen token ≡ Symbol op
IsTokenOf None None = Unit {0}
IsTokenOf _ _ = ⊥
