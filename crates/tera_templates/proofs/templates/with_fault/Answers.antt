use Rattle.std.proofs.Common.{◌≡◌, ◌∙◌, ap}
use Rattle.tera_grammar.specs.statements.Reading.Meeting.{Seen}
use Rattle.tera_templates.proofs.ReadLemmas.{read_as}
use Rattle.tera_templates.proofs.SpansLemmas.{spans_are}
use Rattle.tera_templates.proofs.templates.with_fault.Goals as goal

pub returns-clause-places : goal.returns-clause-places
returns-clause-places c =
    let mended = c.in-Some.mended in
    let read = read_as c.as_str.result.now c.args.source.now c.args.faults c.in_ok-mended.field-0 (mended, c.in-Some.names) c.in-Some.is c.in_ok-mended.ensures in
    let (ns, derives, named) = read.1 in
    (ns, derives, c.in_ok-defined_at.ensures ∙ spans_are _ _ _ _ ns c.in-Some.names derives named, ap (λ (s : Seen). s.parameters) named)
