use Rattle.std.proofs.Common.{◌≡◌, ◌∙◌, ap}
use Rattle.tera_grammar.specs.statements.Reading.Meeting.{Seen}
use Rattle.tera_grammar.proofs.statements.Wholes.{names_derived}
use Rattle.tera_templates.proofs.FaultLemmas.{apart}
use Rattle.tera_templates.proofs.SpansLemmas.{spans_are}
use Rattle.tera_templates.proofs.templates.read_template_between.Goals as goal

pub returns-in_ok-defined_at-in-Ok-clause-complete : goal.returns-in_ok-defined_at-in-Ok-clause-complete
returns-in_ok-defined_at-in-Ok-clause-complete c = λ output d.
    let (ns, read) = names_derived _ _ _ output d in
    (c.in-Ok.ensures.complete output ns read).0

pub returns-in_ok-defined_at-in-Ok-clause-places : goal.returns-in_ok-defined_at-in-Ok-clause-places
returns-in_ok-defined_at-in-Ok-clause-places c =
    let (ns, read, named) = c.in-Ok.ensures.sound in
    (ns, read, c.in_ok-defined_at-in-Ok.ensures ∙ spans_are _ _ _ _ ns c.in-Ok.names read named, ap (λ (s : Seen). s.parameters) named)

pub returns-else-is_memory-clause-complete : goal.returns-else-is_memory-clause-complete
returns-else-is_memory-clause-complete c = λ output d.
    let (ns, read) = names_derived _ _ _ output d in
    absurd (apart c.in-Err.error (c.in-Err.ensures.complete output ns read) c.if-is_memory.ensures)
