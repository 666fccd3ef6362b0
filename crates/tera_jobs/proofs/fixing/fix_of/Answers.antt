use Rattle.std.proofs.Common.{rules, ◌≡◌, ◌∙◌, Bor, List, ap, bytes_eq, map, string_bytes, true}
use Rattle.tera_check.specs.Found.{IsAllOf}
use Rattle.tera_check.specs.Named.{known_in}
use Rattle.tera_findings.specs.declared.finding.Finding.{Finding}
use Rattle.tera_jobs.specs.Sources.{marks_in}
use Rattle.tera_jobs.proofs.FixingLemmas.{fix_of_found}
use Rattle.tera_jobs.proofs.fixing.fix_of.Goals as goal

pub returns-then-is_some-clause-fix : goal.returns-then-is_some-clause-fix
returns-then-is_some-clause-fix c =
    let known = c.args.known in
    let same : bytes_eq (string_bytes c.args.template.now.file) (string_bytes c.args.source.now.file) ≡ true = search rules in
    let (faults, of_template, all) = c.in_ok-found.ensures.found in
    let are : IsAllOf (known_in known.catalogue.now) known.is_open c.args.number c.args.template.now c.in_ok-found.found.items = record { faults = faults; are = of_template; found = all } in
    fix_of_found known.catalogue.now known.is_open (marks_in c.args.reading.now.markers) c.args.reading.now.faults c.args.rules c.args.number c.args.template.now c.args.source.now
    _ _ c.in_ok-found.found.items c.in_ok-fix.fix same are
    (ap (λ (fs : List (Bor Finding)). map (λ (f : Bor Finding). f.now) fs) c.as_slice.ensures.value ∙ c.in_ok-reported.ensures) c.in_ok-fix.ensures.fix
