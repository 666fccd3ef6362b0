use Rattle.std.proofs.lemmas.Result.{err_from_is_err_and}
use Rattle.tera_grammar.proofs.statements.Wholes.{derived, names_derived}
use Rattle.tera_parser.proofs.parsing.Parser.parse.Goals as goal

pub returns-clause-sound : goal.returns-clause-sound
returns-clause-sound c =
    let (ns, read, named) = c.in_ok-output.ensures.sound in
    derived _ _ _ _ ns read

pub returns-clause-complete : goal.returns-clause-complete
returns-clause-complete c = λ output d.
    let (ns, read) = names_derived _ _ _ output d in
    (c.in_ok-output.ensures.complete output ns read).0

pub returns-in_err-output-clause-complete : goal.returns-in_err-output-clause-complete
returns-in_err-output-clause-complete c = λ output d.
    let p = err_from_is_err_and c.from_residual.result c.from_residual.ensures.1 in
    let (ns, read) = names_derived _ _ _ output d in
    rw (p.1, p.2) (c.in_err-output.ensures.complete output ns read)
