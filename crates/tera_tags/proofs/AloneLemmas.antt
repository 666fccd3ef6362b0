-- A variable alone, after which a tag ends.
use Rattle.std.proofs.Common.{◌≡◌, ℕ, suc, ◌≤◌, ◌-◌, Bool, List, refl, sym, ap, subst, ◌∙◌, arith}
use Rattle.tera_base.specs.declared.utils.Span.{Span}
use Rattle.tera_lexer.specs.declared.lexer.delimiters.Kind.{Kind}
use Rattle.tera_lexer.specs.grammar.Tokens.{Finish, Ident, Items, Tok, Token}
use Rattle.tera_ast.specs.Tree as tree
use Rattle.tera_grammar.specs.Reads.{found}
use Rattle.tera_grammar.specs.Limits.{Limits}
use Rattle.tera_grammar.specs.expressions.Concrete.{Atomic, Chain, Tree, no_links}
use Rattle.tera_grammar.specs.expressions.Reading.Front.{front_of_token, link_of, skip}
use Rattle.tera_grammar.specs.expressions.Reading.Bracketed.{links_by, links_of}
use Rattle.tera_grammar.specs.expressions.Reading.Atoms.{chain_of, word_head}
use Rattle.tera_grammar.specs.expressions.Reading.Loop.{expr, loop_by, step}
use Rattle.tera_grammar.specs.statements.Expressions.{expression_output}
use Rattle.tera_grammar.specs.statements.Reading.Expressions.{expression_of}
use Rattle.tera_expr_parts.specs.Allowed.{AreValid}
use Rattle.tera_tags.specs.Reading.{EndsAfter, NamesVariable}

abbrev pub alone : List ℕ → Span → Tree
alone name span = Atomic (Chain (record { text = name; span = span }) no_links)

before_end : (l : Limits) (depth : ℕ) (in_loop : Bool) (name : List ℕ) (span there : Span) (kind : Kind) (dash : Bool) (following : Items)
    → l.depth ≡ suc depth → NamesVariable name
    → expression_of l in_loop (Token (Ident name) span (Token (Finish kind dash) there following)) ≡ found (alone name span, Token (Finish kind dash) there following)
unfolding expression_of expr word_head chain_of skip links_of links_by link_of loop_by step front_of_token
before_end l depth in_loop name span there kind dash following deep (value, word) = rw (deep, value, word) refl

-- what is read where a name comes next, and then the end of a tag
pub alone_read : (l : Limits) (in_loop : Bool) (ts us : Items) (name : List ℕ) (span : Span) → AreValid l → ts ≡ Token (Ident name) span us → NamesVariable name → EndsAfter ts
    → expression_of l in_loop ts ≡ found (alone name span, us)
alone_read l in_loop ts us name span valid is names (kind, dash, (first, here, there, following, two)) =
    let some : 1 ≤ l.depth = valid.depth.0 in
    let deep : l.depth ≡ suc (l.depth - 1) = omega arith in
    let rest : us ≡ Token (Finish kind dash) there following = same_rest _ _ _ _ _ _ (sym is ∙ two) in
    ap (expression_of l in_loop) is
    ∙ subst (λ vs. expression_of l in_loop (Token (Ident name) span vs) ≡ found (alone name span, vs)) (sym rest)
    (before_end l (l.depth - 1) in_loop name span there kind dash following deep names)
  where
    same_rest : (t u : Tok) (s r : Span) (vs ws : Items) → Token t s vs ≡ Token u r ws → vs ≡ ws
    same_rest t u s r vs ws h = cc

-- what it is output as
pub alone_shown : (in_loop : Bool) (name : List ℕ) (span : Span) → tree.Var name span ≡ expression_output in_loop (alone name span)
alone_shown in_loop name span = refl
