-- What is so of the tokens that are left of every source: of all of them, and of those after any of them.
use Rattle.std.specs.Prelude.{◌≡◌, ◌<◌, ◌^◌, ℕ, ℤ, pos, Bool, false}
use Rattle.tera_lexer.specs.grammar.Tokens as toks
use Rattle.tera_lexer.specs.grammar.Tokens.{Items, Ended, Failed, Token}
use Rattle.tera_lexer.specs.grammar.Tiling.{Belongs, in_tag_after}

-- something holds of each number among the tokens
abbrev pub EachNumber : (ℤ → Type 0) → Items → Type 0
EachNumber P (Token (toks.Integer n) span items) = P n × EachNumber P items
EachNumber P (Token t span items) = EachNumber P items
EachNumber P _ = Unit {0}

-- the number is one of 0 .. 9223372036854775807
abbrev pub IsCount : ℤ → Type 0
IsCount n = (k : ℕ) × (n ≡ pos k) × (k < 2 ^ 63)

-- the tokens begin inside a tag or outside: inside one are not markers but its end, and outside one none but starts,
-- and texts
abbrev pub AreNested : Bool → Items → Type 0
AreNested inside Ended = Unit {0}
AreNested inside (Failed text span) = Unit {0}
AreNested inside (Token t span items) = Belongs inside t × AreNested (in_tag_after inside t) items

pub record AreLexed (items : Items) : Type 0 where
  pub numbers : EachNumber IsCount items
  pub inside : Bool
  pub nested : AreNested inside items

-- the tokens end in no fault, and leave no tag unclosed; they begin inside a tag or outside
abbrev pub IsClosed : Bool → Items → Type 0
IsClosed inside Ended = inside ≡ false
IsClosed inside (Failed text span) = ⊥
IsClosed inside (Token t span items) = IsClosed (in_tag_after inside t) items
