use Rattle.tera_tags.proofs.RefusalLemmas.{took_inside}
use Rattle.tera_statements.proofs.TemplatesLemmas.{covered}
use Rattle.tera_statements.proofs.faults.ignored.Goals as goal

pub returns-in-Some : goal.returns-in-Some
returns-in-Some c = λ old took represents.
    let there = rw c.in-Some.is at represents in
    covered old c.args.cursor.now c.in-Some.first c.up_to_last.result _ _ took there c.up_to_last.ensures.within c.up_to_last.ensures.starts c.up_to_last.ensures.ends c.up_to_last.ensures.reaches c.syntax_error.ensures.reports c.syntax_error.ensures.notes

pub returns-in-None : goal.returns-in-None
returns-in-None c = λ old took represents. took_inside _ _ _ _ took c.fault.ensures.refusal
