use Rattle.std.proofs.lemmas.Result.{err_from_is_err_and}
use Rattle.tera_statements.proofs.TemplatesLemmas.{quoted_late, unquoted_late}
use Rattle.tera_statements.proofs.templates.take_extends.Goals as goal

pub returns-in_err-quote-clause-fails : goal.returns-in_err-quote-clause-fails
returns-in_err-quote-clause-fails c =
    let p = err_from_is_err_and c.from_residual-in_err-quote.result c.from_residual-in_err-quote.ensures.1 in
    rw (p.1, p.2) (unquoted_late c.args.cursor.now.left c.quote.new.cursor.left c.enter.new.cursor _ c.in_ok-enter.ensures.enters c.in_err-quote.ensures.gives)

pub returns-clause-late : goal.returns-clause-late
returns-clause-late c =
    let (q, read, is) = c.in_ok-quote.ensures.gives in
    quoted_late c.args.cursor.now.left c.quote.new.cursor.left c.enter.new.cursor q c.in_ok-enter.ensures.enters read
