use Rattle.std.proofs.Common.{◌∙◌, Bool, ap, sym}
use Rattle.std.proofs.lemmas.Bool.{ne_eqb}
use Rattle.std.specs.Prelude.{◌++◌, codes, if◌then◌else◌}
use Rattle.terminal_text.specs.Counted.{counted}
use Rattle.tera_jobs.specs.Counting.{again_text}
use Rattle.tera_jobs.proofs.Joined.{joined}
use Rattle.tera_jobs.proofs.counting.fixed_line.Goals as goal

pub returns : goal.returns
returns c =
    let text = counted c.args.findings (codes "finding") ++ (codes " fixed in " ++ (counted c.args.files (codes "file") ++ again_text c.args.more)) in
    joined _ _ _ _ _ _ _ _ c.in_ok-line.ensures c.in_ok-push_str.ensures.bytes c.in_ok-push_counted.ensures c.in_ok-push_str-2.ensures.bytes
    ∙ ap (λ end. counted c.args.findings (codes "finding") ++ (codes " fixed in " ++ (counted c.args.files (codes "file") ++ end))) c.again.ensures
    ∙ ap (λ (none : Bool). if none then codes "nothing fixed\n" else text) (sym (ne_eqb c.args.findings 0 c.if-findings-eq0.false))
