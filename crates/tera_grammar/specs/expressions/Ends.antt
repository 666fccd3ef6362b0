-- Which tokens end an expression, and what is made of expressions: before them it is read whole. A template needs none
-- of this, since each of its tags is closed.
use Rattle.std.specs.Prelude.{◌≡◌, ◌⊎◌, Bool}
use Rattle.tera_base.specs.declared.utils.Span.{Span}
use Rattle.tera_lexer.specs.grammar.Tokens.{Tok, Items, Token, Finish}
use Rattle.tera_lexer.specs.declared.lexer.delimiters.Kind as kinds
use Rattle.tera_grammar.specs.expressions.Operators.{Div, GreaterThan}
use Rattle.tera_grammar.specs.expressions.Marks.{Mark, mark, mark_token, RightParen, RightBracket, RightBrace, Comma, Colon, Else, For, Bar, Dot, Operation}

-- the tokens at which an expression ends
abbrev pub IsStopMark : Mark → Type 0
IsStopMark RightParen = Unit {0}
IsStopMark RightBracket = Unit {0}
IsStopMark RightBrace = Unit {0}
IsStopMark Comma = Unit {0}
IsStopMark Colon = Unit {0}
IsStopMark Else = Unit {0}
IsStopMark For = Unit {0}
IsStopMark _ = ⊥

abbrev pub IsStopToken : Tok → Type 0
IsStopToken (Finish kind dash) = Unit {0}
IsStopToken t = (m : Mark) × IsStopMark m × (t ≡ mark_token m)

-- the tokens begin with one at which an expression ends
abbrev pub IsStop : Items → Type 0
IsStop (Token t span items) = IsStopToken t
IsStop _ = ⊥

-- the tokens begin with a mark
abbrev pub BeginsWith : Mark → Items → Type 0
BeginsWith m r = (span : Span) × (items : Items) × (r ≡ mark m span items)

-- what ends attributes: `/` or `>`
abbrev pub EndsAttributes : Items → Type 0
EndsAttributes r = BeginsWith (Operation Div) r ⊎ BeginsWith (Operation GreaterThan) r

-- what ends a filter: a further one, or the end of its tag
abbrev pub EndsFilter : Items → Type 0
EndsFilter r = BeginsWith Bar r ⊎ ((k : kinds.Kind) × (dash : Bool) × (span : Span) × (items : Items)
    × (r ≡ Token (Finish k dash) span items))

-- what ends the name of a component: all but a dot
abbrev pub EndsPath : Items → Type 0
EndsPath r = BeginsWith Dot r → ⊥
