use Rattle.std.proofs.Common.{string_bytes}
use Rattle.tera_templates.proofs.FaultFindingsLemmas.{faults_in_order}
use Rattle.tera_templates.proofs.fault_findings.findings_of_mended.Goals as goal

pub returns : goal.returns
returns c =
    faults_in_order c.args.file.now (string_bytes c.args.mended.now.source) c.as_str-source.result.now c.args.mended.now.faults.items _ _ _ _
    c.as_str-source.ensures.value c.as_slice.ensures.value c.as_slice-2.ensures.value c.in_ok-all.ensures.words c.in_ok-all.ensures.same c.in_ok-findings.ensures
