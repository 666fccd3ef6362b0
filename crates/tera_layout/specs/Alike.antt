-- Tokens apart from where they are.
use Rattle.std.specs.Prelude.{◌≡◌, ℕ, List}
use Rattle.tera_lexer.specs.code.Cursors.{nowhere}
use Rattle.tera_lexer.specs.grammar.Marks.{Marks}
use Rattle.tera_lexer.specs.grammar.Tokens.{Items, Ended, Failed, Token, AreTokensOf}

-- the same tokens, each at some place, and then the end of the source, or the same fault
abbrev pub placeless_tokens : Items → Items
placeless_tokens Ended = Ended
placeless_tokens (Failed text span) = Failed text nowhere
placeless_tokens (Token t span items) = Token t nowhere (placeless_tokens items)

abbrev pub AreAlike : Items → Items → Type 0
AreAlike a b = placeless_tokens a ≡ placeless_tokens b

-- sources, each between its markers, whose tokens are the same apart from places
abbrev pub AreAlikeSources : Marks → List ℕ → Marks → List ℕ → Type 0
AreAlikeSources m one n other = (a b : Items) × AreTokensOf m one a × AreTokensOf n other b × AreAlike a b
