use Rattle.std.proofs.Common.{◌∙◌, sym, string_bytes}
use Rattle.tera_lexer.specs.grammar.Marks.{marks_of}
use Rattle.tera_layout.proofs.WrittenLayout.{run_goes_on}
use Rattle.tera_layout.proofs.formatting.push_gap.Goals as goal

pub returns-then-stays-clause-text : goal.returns-then-stays-clause-text
returns-then-stays-clause-text c =
    let source = c.args.source.now in
    run_goes_on (marks_of c.args.delimiters.now) source (string_bytes c.args.out.now) c.args.cut c.args.join c.unless_end-join.result
    c.requires.cut.after_run c.requires.cut.after_gap
    (rw (sym c.range-gap.ensures.value, sym c.range.ensures.value, sym c.range-text.ensures.value) c.unless_end-join.ensures)
    (rw (sym c.range-gap.ensures.value) (sym c.stays.ensures ∙ c.if-stays.true))
