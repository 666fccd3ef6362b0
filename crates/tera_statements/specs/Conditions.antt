-- Conditions, as they are read.
use Rattle.std.specs.Prelude.{ℕ, Bool, List, map, Result}
use Rattle.tera_base.specs.declared.errors.Error.{Error}
use Rattle.tera_ast.specs.Tree.{Expr, Stmt}
use Rattle.tera_ast.specs.View.{expression_view, node_view}
use Rattle.tera_grammar.specs.Reads.{found, ◌>>=◌}
use Rattle.tera_grammar.specs.statements.Expressions as expressions
use Rattle.tera_grammar.specs.statements.Expressions.{Limits}
use Rattle.tera_grammar.specs.statements.Grammar.{Body, Path, in_loop}
use Rattle.tera_grammar.specs.statements.TagParts.{Edge}
use Rattle.tera_grammar.specs.statements.Reading.{Place, Reads, at, body}
use Rattle.tera_statements.specs.Adding.{GivesHere, IsBody}
use Rattle.tera_tags.specs.Heads.{expression_to_end}
use Rattle.tera_tags.specs.Reading.{IsExpression}
use Rattle.tera_statements.specs.declared.conditions.Branch.{Branch}

abbrev pub branch_view : Branch → Expr × List Stmt
branch_view b = (expression_view b.condition, map node_view b.body.items)

-- a condition, the end of its tag, and the body under it
abbrev pub Conditional : Type 0
Conditional = expressions.Expression × Edge × Body

abbrev pub conditional_of : Limits → ℕ → Path → Place → Reads Conditional
conditional_of l depth path p =
    expression_to_end l (in_loop path) p.tokens >>= λ c. body depth l path (at p.seen c.1) >>= λ b. found ((c.0.0, c.0.1, b.0), b.1)

abbrev pub IsConditional : Bool → Branch → Conditional → Type 0
IsConditional in_loop b c = IsExpression in_loop b.condition c.0 × IsBody in_loop b.body.items c.2

abbrev pub GivesBranch : Limits → ℕ → Path → Result Branch Error → Place → Place → Type 0
GivesBranch l depth path r new old = GivesHere (IsConditional (in_loop path)) r new (conditional_of l depth path old)
