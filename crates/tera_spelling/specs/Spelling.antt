-- Which tokens can be spelled, how each is, and the text of a list of them.
use Rattle.std.specs.Prelude.{◌≡◌, ℕ, Bool, true, false, ◌||◌, ◌==◌, if◌then◌else◌, List, [], ◌∷◌, ◌++◌, Some, codes}
use Rattle.std.specs.List.{AllByRecursion, list_any}
use Rattle.std.specs.Fmt.{signed_decimal}
use Rattle.tera_lexer.specs.grammar.Bytes.{double_quote, backslash}
use Rattle.tera_lexer.specs.grammar.Lexeme.{begins_name, goes_on_name, operator_at}
use Rattle.tera_lexer.specs.grammar.Lexed.{IsCount}
use Rattle.tera_lexer.specs.grammar.Tokens.{Tok, Ident, Str, Escaped, Integer, Truth, Symbol, Items, Ended, Failed, Token, name_token}

-- a letter or `_`, and then letters, digits and `_`
abbrev pub IsName : List ℕ → Type 0
IsName [] = ⊥
IsName (b ∷ bs) = (begins_name b ≡ true) × AllByRecursion (λ c. goes_on_name c ≡ true) bs

-- a double quote and a backslash come after a backslash
abbrev pub is_special : ℕ → Bool
is_special b = b == double_quote || b == backslash

-- a name that is not a word for a truth; a string, which has escapes where its text has something special; a number of
-- 0 .. 9223372036854775807; a truth; an operator
abbrev pub IsSpelled : Tok → Type 0
IsSpelled (Ident name) = IsName name × (name_token name ≡ Ident name)
IsSpelled (Str text) = list_any is_special text ≡ false
IsSpelled (Escaped text) = list_any is_special text ≡ true
IsSpelled (Integer n) = IsCount n
IsSpelled (Truth b) = Unit {0}
IsSpelled (Symbol op) = operator_at op ≡ Some op
IsSpelled _ = ⊥

abbrev pub AreSpelled : Items → Type 0
AreSpelled Ended = Unit {0}
AreSpelled (Failed text span) = ⊥
AreSpelled (Token t span items) = IsSpelled t × AreSpelled items

abbrev pub with_escapes : List ℕ → List ℕ
with_escapes [] = []
with_escapes (b ∷ bs) = if is_special b then backslash ∷ b ∷ with_escapes bs else b ∷ with_escapes bs

abbrev pub in_quotes : List ℕ → List ℕ
in_quotes text = double_quote ∷ (with_escapes text ++ double_quote ∷ [])

-- the bytes of a token; the others have none
abbrev pub spelling : Tok → List ℕ
spelling (Ident name) = name
spelling (Str text) = in_quotes text
spelling (Escaped text) = in_quotes text
spelling (Integer n) = signed_decimal n
spelling (Truth true) = codes "true"
spelling (Truth false) = codes "false"
spelling (Symbol op) = op
spelling _ = []

-- the tokens, each after a space
abbrev pub spaced : Items → List ℕ
spaced Ended = []
spaced (Failed text span) = []
spaced (Token t span items) = 32 ∷ (spelling t ++ spaced items)

-- the text of tokens, with a space between each two
abbrev pub tokens_text : Items → List ℕ
tokens_text Ended = []
tokens_text (Failed text span) = []
tokens_text (Token t span items) = spelling t ++ spaced items
