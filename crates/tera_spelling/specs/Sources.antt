-- The source of a text in a variable tag, and what its tokens are.
use Rattle.std.specs.Prelude.{◌≡◌, ℕ, false, List, ◌++◌, codes}
use Rattle.tera_base.specs.declared.utils.Span.{Span}
use Rattle.tera_lexer.specs.declared.lexer.delimiters.Kind.TheVariants.{Variable}
use Rattle.tera_lexer.specs.grammar.Tokens.{Items, Ended, Failed, Token, Start, Finish}

-- the text in a variable tag between the default markers
abbrev pub in_tag : List ℕ → List ℕ
in_tag text = codes "{{ " ++ (text ++ codes " }}")

-- what is read are the tokens, each at some place, and then the rest
abbrev pub AreReadAs : Items → Items → Items → Type 0
AreReadAs Ended rest read = read ≡ rest
AreReadAs (Failed text span) rest read = ⊥
AreReadAs (Token t span items) rest read = (here : Span) × (following : Items) × (read ≡ Token t here following) × AreReadAs items rest following

-- what is read are the start of a variable tag, the tokens, and the end of the tag, each at some place
abbrev pub IsTagOf : Items → Items → Type 0
IsTagOf items read =
    (start end : Span) × (inside : Items) × (read ≡ Token (Start Variable false) start inside)
    × AreReadAs items (Token (Finish Variable false) end Ended) inside
