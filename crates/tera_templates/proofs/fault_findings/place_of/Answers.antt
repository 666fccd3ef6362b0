use Rattle.std.proofs.Common.{◌≡◌, ◌∙◌, ◌+◌, ◌≤◌, length, arith}
use Rattle.tera_templates.proofs.FaultFindingsLemmas.{span_of_word}
use Rattle.tera_templates.proofs.fault_findings.place_of.Goals as goal

pub returns : goal.returns
returns c = λ here same word.
    let end : c.saturating_add-end.result ≡ c.args.cause.now.start + length c.args.cause.now.word.now =
    omega (arith, c.saturating_add-end.ensures, word.fits) in
    let within : c.saturating_add-end.result ≤ length c.args.source.now = omega (arith, end, word.within) in
    c.span_to.ensures
    ∙ span_of_word c.args.source.now c.args.cause.now c.args.walk c.to.result c.saturating_add-end.result here same word end (c.to.ensures here within)
