use Rattle.std.proofs.Common.{rules, ◌≡◌, Option, None, IfOk, subst, sym}
use Rattle.tera_lexer.specs.declared.lexer.delimiters.Delimiters.{Delimiters}
use Rattle.tera_lexer.specs.grammar.Marks.{default_marks}
use Rattle.tera_jobs.specs.Sources.{IsReadFrom, marks_in}
use Rattle.tera_jobs.proofs.ReadingLemmas.{is_read}
use Rattle.tera_jobs.proofs.reading.template_of.Goals as goal

pub returns-in-None : goal.returns-in-None
returns-in-None c =
    let given : c.args.reading.now.markers ≡ None = search rules in
    subst (λ (markers : Option Delimiters). IfOk c.read_template.result (IsReadFrom (marks_in markers) c.args.file.now c.args.source.now c.args.reading.now.faults)) (sym given)
    (is_read default_marks c.args.file.now c.args.source.now c.args.reading.now.faults c.read_template.result c.read_template.ensures.file c.read_template.ensures.sound
    c.read_template.ensures.refusal c.read_template.ensures.lost c.read_template.ensures.mended c.read_template.ensures.ignores c.read_template.ensures.hidden)
