-- What the tokens of a tag are to those beside them, and which of them are together.
use Rattle.std.specs.Prelude.{◌≡◌, ℕ, Bool, true, false, not, ◌&&◌, ◌||◌, if◌then◌else◌, List, [], ◌∷◌, codes}
use Rattle.std.specs.Str.{bytes_eq}
use Rattle.tera_lexer.specs.grammar.Tokens as toks
use Rattle.tera_lexer.specs.grammar.Tokens.{Tok}
use Rattle.tera_lexer.specs.grammar.Words.{is_one_of, operator_words}
use Rattle.tera_layout.specs.declared.sides.Side.{Side}
use Rattle.tera_layout.specs.declared.sides.Side.TheVariants.{Start, Outside, Word, Name, Number, Quoted, Paren, Bracket, Brace, Closing, ClosingBrace, Comma, Colon, Dot, Prefix, Equals, Minus, Less, Operator, Other}
use Rattle.tera_layout.specs.declared.sides.Owner.{Owner}
use Rattle.tera_layout.specs.declared.sides.Owner.TheVariants.{Argument, Target, Parameter}
use Rattle.tera_layout.specs.declared.sides.Left.{Left}
use Rattle.tera_layout.specs.declared.sides.Join.{Join}
use Rattle.tera_layout.specs.declared.sides.Join.TheVariants.{Space, Nothing, Kept}

-- what the operators are to those beside them, wherever they are
abbrev pub operators : List (List ℕ × Side)
operators =
    (codes "(", Paren) ∷ (codes "[", Bracket) ∷ (codes "?[", Bracket) ∷ (codes "{", Brace) ∷ (codes ")", Closing)
    ∷ (codes "]", Closing) ∷ (codes "}", ClosingBrace) ∷ (codes ",", Comma) ∷ (codes ":", Colon) ∷ (codes ".", Dot)
    ∷ (codes "?.", Dot) ∷ (codes "...", Prefix) ∷ (codes "@", Prefix) ∷ (codes "</", Prefix) ∷ (codes "=", Equals)
    ∷ (codes "-", Minus) ∷ (codes "<", Less) ∷ (codes "|", Operator) ∷ (codes "+", Operator) ∷ (codes "*", Operator)
    ∷ (codes "%", Operator) ∷ (codes "~", Operator) ∷ (codes "//", Operator) ∷ (codes "**", Operator)
    ∷ (codes "==", Operator) ∷ (codes "!=", Operator) ∷ (codes "<=", Operator) ∷ (codes ">=", Operator) ∷ []

abbrev pub side_among : List (List ℕ × Side) → List ℕ → Side
side_among [] op = Other
side_among ((other, side) ∷ more) op = if bytes_eq op other then side else side_among more op

-- the words after which an expression begins; another name
abbrev pub words : List (List ℕ)
words = codes "if" ∷ codes "elif" ∷ codes "else" ∷ operator_words

abbrev pub word_side : List ℕ → Side
word_side name = if is_one_of words name then Word else Name

-- what a token is to those beside it, wherever it is
abbrev pub side_of : Tok → Side
side_of (toks.Start kind dash) = Start
side_of (toks.Ident name) = word_side name
side_of (toks.Truth b) = Name
side_of (toks.Integer n) = Number
side_of (toks.Str text) = Quoted
side_of (toks.Escaped text) = Quoted
side_of (toks.Symbol op) = side_among operators op
side_of t = Outside

-- a value ends there
abbrev pub ends_a_value : Side → Bool
ends_a_value Name = true
ends_a_value Number = true
ends_a_value Quoted = true
ends_a_value Closing = true
ends_a_value ClosingBrace = true
ends_a_value s = false

-- something begins there that does not go on with a value before it
abbrev pub begins_apart : Side → Bool
begins_apart Word = true
begins_apart Name = true
begins_apart Number = true
begins_apart Quoted = true
begins_apart Brace = true
begins_apart s = false

-- a value begins there
abbrev pub begins_a_value : Side → Bool
begins_a_value Paren = true
begins_a_value Bracket = true
begins_a_value Prefix = true
begins_a_value Minus = true
begins_a_value s = begins_apart s

abbrev pub is_operator : Side → Bool
is_operator Operator = true
is_operator s = false

abbrev pub is_closing_brace : Side → Bool
is_closing_brace ClosingBrace = true
is_closing_brace s = false

abbrev pub is_name : Side → Bool
is_name Name = true
is_name Word = true
is_name s = false

-- what goes on with a name; with a string or what a bracket closes; and with a minus before its operand
abbrev pub goes_on_with_a_name : Side → Bool
goes_on_with_a_name Dot = true
goes_on_with_a_name Paren = true
goes_on_with_a_name Bracket = true
goes_on_with_a_name ClosingBrace = true
goes_on_with_a_name Equals = true
goes_on_with_a_name s = false

abbrev pub goes_on_with_a_value : Side → Bool
goes_on_with_a_value Dot = true
goes_on_with_a_value Bracket = true
goes_on_with_a_value ClosingBrace = true
goes_on_with_a_value s = false

abbrev pub goes_on_with_a_minus : Side → Bool
goes_on_with_a_minus Name = true
goes_on_with_a_minus Number = true
goes_on_with_a_minus Paren = true
goes_on_with_a_minus s = false

-- what is so on the right goes on with what is so on the left
abbrev pub goes_on : Side → Side → Bool
goes_on Paren r = true
goes_on Bracket r = true
goes_on Brace r = true
goes_on Name r = goes_on_with_a_name r
goes_on Quoted r = goes_on_with_a_value r
goes_on Closing r = goes_on_with_a_value r
goes_on Number r = is_closing_brace r
goes_on Comma r = is_closing_brace r
goes_on Dot r = is_name r
goes_on Prefix r = is_name r
goes_on Minus r = goes_on_with_a_minus r
goes_on Equals r = begins_a_value r
goes_on l r = false

-- before these is nothing
abbrev pub closes : Side → Bool
closes Closing = true
closes Comma = true
closes Colon = true
closes s = false

-- nothing is between the two
abbrev pub are_together : Side → Side → Bool
are_together l r = closes r || goes_on l r

-- one space is between the two, where they are not together
abbrev pub are_apart : Side → Side → Bool
are_apart Operator r = true
are_apart Comma r = true
are_apart Word r = is_operator r || begins_a_value r
are_apart l r = is_operator r || (ends_a_value l && begins_apart r)

abbrev pub join_between : Side → Side → Join
join_between l r = if are_together l r then Nothing else (if are_apart l r then Space else Kept)

-- what an `=` is to those beside it
abbrev pub equals_of : Owner → Side
equals_of Argument = Equals
equals_of Target = Operator
equals_of Parameter = Other

-- a `:` there is that of a key or of a parameter
abbrev pub is_quoted : Side → Bool
is_quoted Quoted = true
is_quoted s = false

abbrev pub is_parameter : Owner → Bool
is_parameter Parameter = true
is_parameter o = false

abbrev pub has_no_slice : Left → Bool
has_no_slice l = is_quoted l.side || is_parameter l.owner

-- what a token is to those beside it, after what is on its left
abbrev pub placed : Left → Side → Side
placed l Equals = equals_of l.owner
placed l Minus = if ends_a_value l.side then Operator else Minus
placed l Less = if ends_a_value l.side then Operator else Prefix
placed l Colon = if has_no_slice l then Comma else Colon
placed l s = s

-- whose the next `=` is after the first token of a tag: that of a name that is set, a parameter's, or an argument's
abbrev pub owner_of : List ℕ → Owner
owner_of name =
    if is_one_of (codes "set" ∷ codes "set_global" ∷ []) name then Target
    else (if bytes_eq name (codes "component") then Parameter else Argument)

abbrev pub owner_named : Tok → Owner
owner_named (toks.Ident name) = owner_of name
owner_named t = Argument

-- .. and after another: the `=` of a name that is set comes right after it
abbrev pub is_target : Owner → Bool
is_target Target = true
is_target o = false

abbrev pub owner_past : Owner → Side → Owner
owner_past o s = if is_target o && not (is_name s) then Argument else o

abbrev pub is_start : Side → Bool
is_start Start = true
is_start s = false

abbrev pub is_no_lexeme : Side → Bool
is_no_lexeme Start = true
is_no_lexeme Outside = true
is_no_lexeme s = false

abbrev pub owner_after : Left → Tok → Side → Owner
owner_after l t s =
    if is_no_lexeme s then Argument else (if is_start l.side then owner_named t else owner_past l.owner s)

-- outside of tags; after the start of one; after a token
abbrev pub outside : Left
outside = record { side = Outside; owner = Argument }

abbrev pub at_start : Left
at_start = record { side = Start; owner = Argument }

abbrev pub following : Left → Tok → Left
following l t = record { side = placed l (side_of t); owner = owner_after l t (side_of t) }
