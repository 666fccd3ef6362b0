-- Reading the heads of statements.
use Rattle.std.specs.Prelude.{ℕ, zero, suc, Bool, true, cond}
use Rattle.tera_base.specs.declared.utils.Span.{Span}
use Rattle.tera_lexer.specs.code.Cursors.{size}
use Rattle.tera_lexer.specs.grammar.Tokens.{Items}
use Rattle.tera_grammar.specs.expressions.Operators.{In}
use Rattle.tera_grammar.specs.expressions.Marks.{Bar, Operation}
use Rattle.tera_grammar.specs.Words.{is_reserved}
use Rattle.tera_grammar.specs.statements.TagParts.{Name}
use Rattle.tera_grammar.specs.statements.Expressions.{Limits}
use Rattle.tera_grammar.specs.statements.Reading.Expressions.{expression_of, filter_of}
use Rattle.tera_grammar.specs.statements.Heads.{Loop, Filters, NoFilters, Piped}
use Rattle.tera_grammar.specs.expressions.Reading.Front.{at, takes, taken_name}
use Rattle.tera_grammar.specs.expressions.Reading.Atoms.{variables_of}
use Rattle.tera_grammar.specs.expressions.Reading.Whole.{left_over, expression_of, filter_of}
use Rattle.tera_grammar.specs.Reads.{found, stopped, ◌>>=◌, Takes}

-- a name that is not reserved
abbrev pub free_name : Items → Takes Name
free_name items = taken_name items >>= λ n. cond (is_reserved n.0.text) (stopped n.1) (found n)

-- the head of a loop
unfoldable pub loop_of : Limits → Items → Takes Loop
loop_of l items =
    left_over (variables_of (at 0 items)) >>= λ v. takes (Operation In) v.1 >>= λ w. expression_of l true w.1 >>= λ e.
    found (record { first = v.0.0; second = v.0.1; word = w.0; target = e.0 }, e.1)

-- filters, each after its bar
unfoldable pub filters_in : (Items → Takes Filters) → Limits → Bool → Items → Takes Span → Takes Filters
filters_in again l in_loop items (stopped z) = found (NoFilters, items)
filters_in again l in_loop items (found bar) =
    filter_of l in_loop bar.1 >>= λ f. again f.1 >>= λ fs. found (Piped bar.0 f.0 fs.0, fs.1)

-- The number bounds the filters. One more than the tokens is enough.
unfoldable pub filters_by : ℕ → Limits → Bool → Items → Takes Filters
filters_by zero l in_loop items = stopped items
filters_by (suc n) l in_loop items = filters_in (filters_by n l in_loop) l in_loop items (takes Bar items)

unfoldable pub filters_of : Limits → Bool → Items → Takes Filters
filters_of l in_loop items = filters_by (suc (size items)) l in_loop items
