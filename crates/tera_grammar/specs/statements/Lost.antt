-- Beginnings of tokens that no template has.
use Rattle.std.specs.Prelude.{◌≡◌, ◌<◌, ℕ}
use Rattle.tera_lexer.specs.grammar.Tokens.{Items, Ended, Failed, Token}
use Rattle.tera_grammar.specs.Limits.{Limits}
use Rattle.tera_grammar.specs.statements.Grammar.{Body}
use Rattle.tera_grammar.specs.statements.Top.{IsTemplate}

-- The tokens agree up to this byte and one step further: each that begins before it, and what comes after these, which
-- is a token more, the end, or the fault.
abbrev pub AgreeTo : ℕ → Items → Items → Type 0
AgreeTo n (Token t here items) (Token u there others) =
    (t ≡ u) × (here ≡ there) × (here.range.start < n → AgreeTo n items others)
AgreeTo n (Token t here items) others = ⊥
AgreeTo n (Failed text here) others = others ≡ Failed text here
AgreeTo n Ended others = others ≡ Ended

-- Whatever tokens agree with these so far are those of no template within the limits.
abbrev pub AreLost : Limits → ℕ → Items → Type 0
AreLost l n items = (others : Items) → AgreeTo n items others → (b : Body) → IsTemplate l others b → ⊥
