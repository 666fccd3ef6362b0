-- The heads of statements, as they are read.
use Rattle.std.specs.Prelude.{◌≡◌, Bool, true, List, ◌∷◌, ◌++◌, map}
use Rattle.tera_base.specs.declared.utils.Span.{Span}
use Rattle.tera_lexer.specs.grammar.Tokens.{Items}
use Rattle.tera_ast.specs.View.{expression_view}
use Rattle.tera_ast.specs.declared.ast.Expression.{Expression}
use Rattle.tera_grammar.specs.Reads.{found, ◌>>=◌, Takes}
use Rattle.tera_grammar.specs.expressions.Marks.{Operation}
use Rattle.tera_grammar.specs.expressions.Operators.{GreaterThan}
use Rattle.tera_grammar.specs.expressions.Reading.Front.{takes}
use Rattle.tera_grammar.specs.statements.Expressions as expressions
use Rattle.tera_grammar.specs.statements.Expressions.{Attributes, Filtering, Limits, filter_output}
use Rattle.tera_grammar.specs.statements.Reading.Expressions.{attributes_of, expression_of, filter_of}
use Rattle.tera_grammar.specs.statements.Heads.{Loop, Filters, filters_output}
use Rattle.tera_grammar.specs.statements.TagParts.{Edge}
use Rattle.tera_grammar.specs.statements.Reading.Heads.{filters_of, loop_of}
use Rattle.tera_grammar.specs.statements.Reading.TagParts.{finish_of}
use Rattle.tera_expr_parts.specs.Names.{AreVariables}
use Rattle.tera_tags.specs.Reading.{IsExpression}
use Rattle.tera_tags.specs.declared.heads.LoopHead.{LoopHead}

-- the head of a loop
abbrev pub IsLoop : LoopHead → Loop → Type 0
IsLoop h lp = AreVariables (h.key, h.value) (lp.first, lp.second) × IsExpression true h.target lp.target

-- filters after those that were there before
abbrev pub AreFilters : Bool → List Expression → List Expression → Filters → Type 0
AreFilters in_loop before es fs = map expression_view es ≡ map expression_view before ++ filters_output in_loop fs

-- a filter, whose input is at the span, and others
abbrev pub AreAllFilters : Bool → Span → List Expression → Filtering → Filters → Type 0
AreAllFilters in_loop span es f fs = map expression_view es ≡ filter_output in_loop span f ∷ filters_output in_loop fs

-- what tags hold, and their end
unfoldable pub expression_to_end : Limits → Bool → Items → Takes (expressions.Expression × Edge)
expression_to_end l in_loop items = expression_of l in_loop items >>= λ e. finish_of e.1 >>= λ f. found ((e.0, f.0), f.1)

unfoldable pub loop_to_end : Limits → Items → Takes (Loop × Edge)
loop_to_end l items = loop_of l items >>= λ lp. finish_of lp.1 >>= λ f. found ((lp.0, f.0), f.1)

unfoldable pub filters_to_end : Limits → Bool → Items → Takes (Filters × Edge)
filters_to_end l in_loop items = filters_of l in_loop items >>= λ fs. finish_of fs.1 >>= λ f. found ((fs.0, f.0), f.1)

unfoldable pub section_to_end : Limits → Bool → Items → Takes (Filtering × Filters × Edge)
section_to_end l in_loop items =
    filter_of l in_loop items >>= λ g. filters_of l in_loop g.1 >>= λ fs. finish_of fs.1 >>= λ f. found ((g.0, fs.0, f.0), f.1)

-- attributes, the `>` after them, and the end of the tag
unfoldable pub attributes_to_end : Limits → Bool → Items → Takes (Attributes × Span × Edge)
attributes_to_end l in_loop items =
    attributes_of l in_loop items >>= λ a. takes (Operation GreaterThan) a.1 >>= λ last. finish_of last.1 >>= λ f.
    found ((a.0, last.0, f.0), f.1)
