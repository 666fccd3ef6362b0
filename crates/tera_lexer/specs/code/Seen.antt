-- Tokens without where they lie in memory.
use Rattle.std.specs.Prelude.{ℕ, string_bytes, List, ◌∷◌, ◌++◌, [], codes}
use Rattle.tera_lexer.specs.grammar.Bytes.{backquote}
use Rattle.tera_lexer.specs.grammar.Tokens as toks
use Rattle.tera_lexer.specs.grammar.Tokens.{Tok, Remark, Start, Finish, Escaped, Truth, Symbol}
use Rattle.tera_lexer.specs.declared.lexer.delimiters.Kind.TheVariants.{Variable, Block}
use Rattle.tera_lexer.specs.declared.lexer.tokens.Token.{Token}
use Rattle.tera_lexer.specs.declared.lexer.tokens.Token.TheVariants.{Content, RawContent, Comment, VariableStart, VariableEnd, TagStart, TagEnd, Ident, String, Str, Integer, Bool, Mul, Div, FloorDiv, Mod, Plus, Minus, Power, LessThan, ClosingTagStart, GreaterThan, LessThanOrEqual, GreaterThanOrEqual, Equal, NotEqual, Tilde, Pipe, Assign, Dot, QuestionMarkDot, QuestionMarkLeftBracket, Comma, Colon, Bang, LeftBracket, RightBracket, LeftParen, RightParen, LeftBrace, RightBrace, Spread, At}

abbrev pub seen : Token → Tok
seen (Content s) = toks.Content s.now
seen (RawContent dash s end) = toks.RawContent dash s.now end
seen (Comment dash end) = Remark dash end
seen (VariableStart dash) = Start Variable dash
seen (VariableEnd dash) = Finish Variable dash
seen (TagStart dash) = Start Block dash
seen (TagEnd dash) = Finish Block dash
seen (Ident s) = toks.Ident s.now
seen (String s) = Escaped (string_bytes s)
seen (Str s) = toks.Str s.now
seen (Integer n) = toks.Integer n
seen (Bool b) = Truth b
seen Mul = Symbol (codes "*")
seen Div = Symbol (codes "/")
seen FloorDiv = Symbol (codes "//")
seen Mod = Symbol (codes "%")
seen Plus = Symbol (codes "+")
seen Minus = Symbol (codes "-")
seen Power = Symbol (codes "**")
seen LessThan = Symbol (codes "<")
seen ClosingTagStart = Symbol (codes "</")
seen GreaterThan = Symbol (codes ">")
seen LessThanOrEqual = Symbol (codes "<=")
seen GreaterThanOrEqual = Symbol (codes ">=")
seen Equal = Symbol (codes "==")
seen NotEqual = Symbol (codes "!=")
seen Tilde = Symbol (codes "~")
seen Pipe = Symbol (codes "|")
seen Assign = Symbol (codes "=")
seen Dot = Symbol (codes ".")
seen QuestionMarkDot = Symbol (codes "?.")
seen QuestionMarkLeftBracket = Symbol (codes "?[")
seen Comma = Symbol (codes ",")
seen Colon = Symbol (codes ":")
seen Bang = Symbol (codes "!")
seen LeftBracket = Symbol (codes "[")
seen RightBracket = Symbol (codes "]")
seen LeftParen = Symbol (codes "(")
seen RightParen = Symbol (codes ")")
seen LeftBrace = Symbol (codes "{")
seen RightBrace = Symbol (codes "}")
seen Spread = Symbol (codes "...")
seen At = Symbol (codes "@")

-- what messages call a token
abbrev pub displayed : Tok → List ℕ
displayed (toks.Content s) = codes "content"
displayed (toks.RawContent dash s end) = codes "raw content"
displayed (Remark dash end) = codes "comment"
displayed (Start Variable dash) = codes "`{{`"
displayed (Finish Variable dash) = codes "`}}`"
displayed (Start Block dash) = codes "`{%`"
displayed (Finish Block dash) = codes "`%}`"
displayed (toks.Ident s) = codes "identifier"
displayed (toks.Str s) = codes "string"
displayed (Escaped s) = codes "string"
displayed (toks.Integer n) = codes "integer"
displayed (Truth b) = codes "bool"
displayed (Symbol op) = backquote ∷ (op ++ backquote ∷ [])
