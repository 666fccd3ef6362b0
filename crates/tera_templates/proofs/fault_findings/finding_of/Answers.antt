use Rattle.tera_findings.specs.Findings.{finding_view}
use Rattle.tera_templates.proofs.FaultFindingsLemmas.{part_of_word}
use Rattle.tera_templates.proofs.fault_findings.finding_of.Goals as goal

pub returns : goal.returns
returns c = λ here same word. record {
  alone = finding_view c.in_ok-alone.alone;
  of_error = c.in_ok-alone.ensures;
  place = c.place_of-place.result;
  word = c.args.met.now.cause.word.now;
  here = part_of_word c.args.source.now c.args.met.now.cause c.place_of-place.result word (c.place_of-place.ensures here same word);
  says = c.args.met.now.cause.says;
  hint = c.in_ok-finding.ensures.0;
  for_it = c.in_ok-finding.ensures.1;
  more = c.args.is_more;
  is = c.in_ok-finding.ensures.2;
}
