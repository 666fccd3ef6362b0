use Rattle.std.proofs.lemmas.Result.{err_from_is_err_and}
use Rattle.tera_tags.proofs.tag_parts.pass.Goals as goal

pub returns-then-skip-clause-passes : goal.returns-then-skip-clause-passes
returns-then-skip-clause-passes c = rw c.if-skip.true at c.skip.ensures.skips

pub returns-in_err-next_or_eoi-clause-passes : goal.returns-in_err-next_or_eoi-clause-passes
returns-in_err-next_or_eoi-clause-passes c =
    let p = err_from_is_err_and c.from_residual.result c.from_residual.ensures.1 in
    let stayed = rw c.if-skip.false at c.skip.ensures.skips in
    rw (p.1, p.2) (rw stayed.1 at c.in_err-next_or_eoi.ensures.takes)

pub returns-clause-passes : goal.returns-clause-passes
returns-clause-passes c =
    let stayed = rw c.if-skip.false at c.skip.ensures.skips in
    (_, rw stayed.1 at c.in_ok-next_or_eoi.ensures.takes)
