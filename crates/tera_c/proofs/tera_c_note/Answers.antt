use Rattle.std.proofs.Common.{refl, inl, inr}
use Rattle.tera_tree.specs.Outputs.{output_view}
use Rattle.tera_c.specs.declared.status.Status.TheVariants.{Nothing}
use Rattle.tera_c.proofs.tera_c_note.Goals as goal

pub returns-in-Ok : goal.returns-in-Ok
returns-in-Ok c =
    (Nothing, c.number.ensures, inr (inl (refl, (output_view c.in-Ok.field-0, c.in-Ok.ensures.ok), (refl, refl), refl)))
