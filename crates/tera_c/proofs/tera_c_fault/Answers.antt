use Rattle.std.proofs.Common.{refl, inl, inr}
use Rattle.tera_base.specs.ErrorView.{report_view}
use Rattle.tera_tree.specs.Outputs.{output_view}
use Rattle.tera_c.specs.declared.status.Status.TheVariants.{Nothing}
use Rattle.tera_c.proofs.tera_c_fault.Goals as goal

pub returns-in-Ok : goal.returns-in-Ok
returns-in-Ok c =
    (Nothing, c.number.ensures, inr (inl (refl, (output_view c.in-Ok.field-0, c.in-Ok.ensures.ok), (refl, refl), refl)))

pub returns-in-Err-Fault : goal.returns-in-Err-Fault
returns-in-Err-Fault c =
    let fault = rw c.in-Err-Fault.field-0-is at c.in-Err-Fault.ensures.err in
    let put = rw c.deref.ensures at c.put_fault.ensures in
    (c.put_fault.result, c.number-in-Err-Fault.ensures, inl (report_view c.in-Err-Fault.report.value, fault, put))
