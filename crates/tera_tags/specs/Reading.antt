-- What the parts of a template stand for, as they are read.
use Rattle.std.specs.Prelude.{◌≡◌, ℕ, Bool, true, false, List, Option, Some, None, Result, Ok, Err, String, string_bytes}
use Rattle.std.specs.Borrow.{Bor}
use Rattle.std.specs.declared.alloc.Global.{Global}
use Rattle.tera_base.specs.declared.errors.Error.{Error}
use Rattle.tera_base.specs.declared.utils.Span.{Span}
use Rattle.tera_lexer.specs.code.Cursors.{Position, SecondIs, Takes, TakesOne}
use Rattle.tera_lexer.specs.declared.lexer.tokens.Token.{Token}
use Rattle.tera_lexer.specs.declared.lexer.delimiters.Kind.{Kind}
use Rattle.tera_lexer.specs.grammar.Tokens as toks
use Rattle.tera_lexer.specs.grammar.Tokens.{Finish, Ident, Items}
use Rattle.tera_grammar.specs.Words.{is_none, is_not}
use Rattle.tera_grammar.specs.expressions.Concrete.{Quote}
use Rattle.tera_grammar.specs.expressions.Output.{quote_text}
use Rattle.tera_grammar.specs.statements.TagParts.{Edge}
use Rattle.tera_grammar.specs.Reads as reads
use Rattle.tera_grammar.specs.Reads.{found, stopped}
use Rattle.tera_expect.specs.Taking.{Took}
pub use Rattle.tera_expr_reader.specs.Outermost.{AreAttributes, IsArray, IsComponent, IsExpression, IsFilter, IsMap}

-- a string, with its span
abbrev pub IsQuote : String Global × Span → Quote × Span → Type 0
IsQuote s q = (string_bytes s.0 ≡ quote_text q.0) × (s.1 ≡ q.1)

-- the end of a tag that came next was taken, or nothing
abbrev pub EatsEnd : Bool → Position → Position → reads.Takes Edge → Type 0
EatsEnd true old new read = (dash : Bool) × (read ≡ found (record { dash = dash; span = new.span }, new.left)) × Took old new
EatsEnd false old new read = (read ≡ stopped old.left) × (new ≡ old)

-- the next token was taken, or it was reported that there is none, or that reading stopped
abbrev pub PassesOne : Position → Result (Unit {0}) Error → Position → Type 0
PassesOne old (Ok u) new = (p : Token × Span) × Takes old (Ok (Some p)) new
PassesOne old (Err e) new = TakesOne old (Err e) new

-- the second of the tokens ends a tag
abbrev pub EndsAfter : Items → Type 0
EndsAfter items = (kind : Kind) × (dash : Bool) × SecondIs items (Finish kind dash)

-- a word that is neither one for no value nor the negation
abbrev pub NamesVariable : List ℕ → Type 0
NamesVariable word = (is_none word ≡ false) × (is_not word ≡ false)

-- the name of a variable was taken, after which a tag ends, or nothing
abbrev pub EatsAlone : Option (Bor (List ℕ)) → Position → Position → Type 0
EatsAlone (Some name) old new =
    (old.left ≡ toks.Token (Ident name.now) new.span new.left) × NamesVariable name.now × EndsAfter old.left × Took old new
EatsAlone None old new = new ≡ old
