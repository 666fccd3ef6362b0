-- Names with arguments, of tests and filters.
use Rattle.std.specs.Prelude.{◌≡◌, Bool, String, string_bytes}
use Rattle.std.specs.declared.alloc.Global.{Global}
use Rattle.std.specs.BTreeMap.{BTreeMap}
use Rattle.tera_base.specs.declared.utils.Span.{Span}
use Rattle.tera_ast.specs.Tree as tree
use Rattle.tera_ast.specs.Tree.{Expr}
use Rattle.tera_ast.specs.View.{args_view, expression_view}
use Rattle.tera_ast.specs.declared.ast.Expression.{Expression}
use Rattle.tera_grammar.specs.Reads.{found, ◌>>=◌}
use Rattle.tera_grammar.specs.expressions.Concrete.{Name, Args, Row}
use Rattle.tera_grammar.specs.expressions.Companions.{Filtering}
use Rattle.tera_grammar.specs.expressions.Spans.{spanning, args_end, row_end}
use Rattle.tera_grammar.specs.expressions.Output.{args_output, arguments_output}
use Rattle.tera_grammar.specs.expressions.Reading.Front.{Place, Reads, name_of}
use Rattle.tera_grammar.specs.expressions.Reading.Rooms.{Room}
use Rattle.tera_grammar.specs.expressions.Reading.Bracketed.{Reader, args_of}
use Rattle.tera_expr_reader.specs.declared.calls.Call.{Call}

-- a name with its arguments
abbrev pub filtering : Name → Args → Filtering
filtering n g = record { name = n; args = g }

abbrev pub call_of : Reader → Room → Place → Reads Filtering
call_of f w p = name_of p >>= λ n. args_of f w n.1 >>= λ g. found (filtering n.0 g.0, g.1)

-- its last token
abbrev pub call_end : Filtering → Span
call_end x = args_end x.name x.args

abbrev pub IsCall : Bool → Span → Call → Filtering → Type 0
IsCall l here c x =
    (string_bytes c.name ≡ x.name.text) × (args_view c.kwargs.entries ≡ args_output l x.args) × (c.span ≡ spanning x.name.span (call_end x))
    × (here ≡ call_end x)

abbrev pub IsFilter : Bool → Expr → Span → Expression → Filtering → Type 0
IsFilter l e here r x = (expression_view r ≡ tree.Filter e x.name.text (args_output l x.args) (spanning x.name.span (call_end x))) × (here ≡ call_end x)

-- the arguments after a name, which ends there
abbrev pub AreArgs : Bool → Span → Span → BTreeMap (String Global) Expression → Args → Type 0
AreArgs l before here m g = (args_view m.entries ≡ args_output l g) × ((n : Name) → n.span ≡ before → here ≡ args_end n g)

-- arguments that are read, up to the parenthesis at the span
abbrev pub AreArguments : Bool → Span → BTreeMap (String Global) Expression → Row → Type 0
AreArguments l here m r = (args_view m.entries ≡ arguments_output l r tree.NoArgs) × (here ≡ row_end r)
