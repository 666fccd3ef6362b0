-- Expressions of one token.
use Rattle.std.specs.Prelude.{◌≡◌, ℕ, zero, suc, Bool, true, false, ◌||◌, cond, [], ◌∷◌, codes, Option, Some, None}
use Rattle.tera_base.specs.Values as values
use Rattle.tera_base.specs.declared.utils.Span.{Span}
use Rattle.tera_lexer.specs.code.Cursors.{Position}
use Rattle.tera_lexer.specs.grammar.Tokens as toks
use Rattle.tera_lexer.specs.grammar.Tokens.{Tok, Items, Token, Finish, Ident, Symbol}
use Rattle.tera_ast.specs.Tree as tree
use Rattle.tera_ast.specs.Tree.{Expr}
use Rattle.tera_ast.specs.View.{expression_view}
use Rattle.tera_ast.specs.declared.ast.Expression.{Expression}
use Rattle.tera_grammar.specs.Options.{◌>>=◌}
use Rattle.tera_lexer.specs.grammar.Words.{is_one_of}
use Rattle.tera_grammar.specs.Words.{is_none, is_not}
use Rattle.tera_expect.specs.Taking.{Took}

-- the tokens, except words, before which every expression ends
abbrev pub is_stop : Tok → Bool
is_stop (Finish kind dash) = true
is_stop (Symbol o) = is_one_of (codes "," ∷ codes ":" ∷ codes ")" ∷ codes "]" ∷ codes "}" ∷ []) o
is_stop _ = false

abbrev pub begins_stop : Items → Bool
begins_stop (Token t s us) = is_stop t
begins_stop _ = false

abbrev pub second_is_stop : Items → Bool
second_is_stop (Token t s us) = begins_stop us
second_is_stop _ = false

-- the expression that a token is by itself: a variable, or a constant that is not a string with escapes
abbrev pub leaf_of : Tok → Span → Option Expr
leaf_of (Ident n) s = cond (is_none n || is_not n) None (Some (tree.Var n s))
leaf_of (toks.Integer n) s = Some (tree.Const (values.I64 n) s)
leaf_of (toks.Str text) s = Some (tree.Const (values.Text text) s)
leaf_of (toks.Truth b) s = Some (tree.Const (values.Truth b) s)
leaf_of _ s = None

abbrev pub leaf_at : Items → Option (Expr × Items)
leaf_at (Token t s us) = leaf_of t s >>= λ e. Some (e, us)
leaf_at _ = None

-- an expression of one token, where so many may open
abbrev pub lone_of : ℕ → Items → Option (Expr × Items)
lone_of zero ts = None
lone_of (suc depth) ts = cond (second_is_stop ts) (leaf_at ts) None

-- it was taken, or there is none
abbrev pub GivesLone : ℕ → Option Expression → Position → Position → Type 0
GivesLone depth (Some e) old new = (lone_of depth old.left ≡ Some (expression_view e, new.left)) × Took old new
GivesLone depth None old new = (lone_of depth old.left ≡ None) × (new ≡ old)
