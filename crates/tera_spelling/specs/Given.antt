-- Which tokens a source gives.
use Rattle.tera_lexer.specs.grammar.Tokens.{Tok, Ident, Integer, Symbol, Items, Ended, Failed, Token}
use Rattle.tera_spelling.specs.Spelling.{IsSpelled}

-- something holds of each token
abbrev pub EachToken : (Tok → Type 0) → Items → Type 0
EachToken P Ended = Unit {0}
EachToken P (Failed text span) = Unit {0}
EachToken P (Token t span items) = P t × EachToken P items

-- a name, a number and an operator can be spelled; a string can be too, but maybe as one of the other kind
abbrev pub IsGiven : Tok → Type 0
IsGiven (Ident name) = IsSpelled (Ident name)
IsGiven (Integer n) = IsSpelled (Integer n)
IsGiven (Symbol op) = IsSpelled (Symbol op)
IsGiven _ = Unit {0}
