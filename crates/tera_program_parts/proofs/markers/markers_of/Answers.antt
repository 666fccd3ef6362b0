use Rattle.std.proofs.Common.{rules}
use Rattle.tera_lexer.specs.grammar.Marks.{marks_of}
use Rattle.tera_program_parts.proofs.markers.markers_of.Goals as goal

pub returns-in_err-markers-in-Some-clause-unfit : goal.returns-in_err-markers-in-Some-clause-unfit
returns-in_err-markers-in-Some-clause-unfit c = rw c.in-Some.is (search rules)

pub returns-in-Err-clause-unfit : goal.returns-in-Err-clause-unfit
returns-in-Err-clause-unfit c = (marks_of c.match-words.markers, search rules, c.in-Err.ensures.rules)
