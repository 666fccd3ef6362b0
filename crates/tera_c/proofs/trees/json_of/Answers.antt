use Rattle.std.proofs.Common.{refl, inr}
use Rattle.tera_base.specs.ErrorView.{report_view}
use Rattle.tera_c.proofs.trees.json_of.Goals as goal

pub returns-in-Err-Fault-clause-err : goal.returns-in-Err-Fault-clause-err
returns-in-Err-Fault-clause-err c =
    inr (refl, (report_view c.in-Err-Fault.field-0-0.value, rw c.in-Err-Fault.field-0-is at c.in-Err-Fault.ensures.err))
