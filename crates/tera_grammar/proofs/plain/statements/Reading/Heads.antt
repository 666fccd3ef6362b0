-- Reading the heads of statements.
use Rattle.std.specs.Prelude.{ℕ, zero, suc, Bool, true, not, Option, Some, None}
use Rattle.tera_base.specs.declared.utils.Span.{Span}
use Rattle.tera_lexer.specs.code.Cursors.{size}
use Rattle.tera_lexer.specs.grammar.Tokens.{Items}
use Rattle.tera_grammar.specs.expressions.Reading.Front.{at}
use Rattle.tera_grammar.proofs.plain.expressions.Reading.Front.{takes, taken_name, Takes}
use Rattle.tera_grammar.specs.expressions.Operators.{In}
use Rattle.tera_grammar.specs.expressions.Marks.{Bar, Operation}
use Rattle.tera_grammar.specs.Options.{◌>>=◌, guard}
use Rattle.tera_grammar.specs.Words.{is_reserved}
use Rattle.tera_grammar.specs.statements.TagParts.{Name}
use Rattle.tera_grammar.proofs.plain.expressions.Reading.Atoms.{variables_of}
use Rattle.tera_grammar.proofs.plain.expressions.Reading.Whole.{left_over}
use Rattle.tera_grammar.specs.statements.Expressions.{Limits}
use Rattle.tera_grammar.proofs.plain.statements.Reading.Expressions.{expression_of, filter_of}
use Rattle.tera_grammar.specs.statements.Heads.{Loop, Filters, NoFilters, Piped}

-- a name that is not reserved
abbrev pub free_name : Items → Takes Name
free_name items = taken_name items >>= λ n. guard (not (is_reserved n.0.text)) >>= λ u. Some n

-- the head of a loop
unfoldable pub loop_of : Limits → Items → Takes Loop
loop_of l items =
    left_over (variables_of (at 0 items)) >>= λ v. takes (Operation In) v.1 >>= λ w. expression_of l true w.1 >>= λ e.
    Some (record { first = v.0.0; second = v.0.1; word = w.0; target = e.0 }, e.1)

-- filters, each after its bar
unfoldable pub filters_in : (Items → Takes Filters) → Limits → Bool → Items → Option (Span × Items) → Takes Filters
filters_in again l in_loop items None = Some (NoFilters, items)
filters_in again l in_loop items (Some bar) =
    filter_of l in_loop bar.1 >>= λ f. again f.1 >>= λ fs. Some (Piped bar.0 f.0 fs.0, fs.1)

-- The number bounds the filters. One more than the tokens is enough.
unfoldable pub filters_by : ℕ → Limits → Bool → Items → Takes Filters
filters_by zero l in_loop items = None
filters_by (suc n) l in_loop items = filters_in (filters_by n l in_loop) l in_loop items (takes Bar items)

unfoldable pub filters_of : Limits → Bool → Items → Takes Filters
filters_of l in_loop items = filters_by (suc (size items)) l in_loop items
