use Rattle.std.proofs.Common.{ap, sym, ◌∙◌}
use Rattle.std.specs.Map.{values_of}
use Rattle.tera_base.proofs.KeysAndValues.{values_of-zip}
use Rattle.tera_base.proofs.values.MapOf.values.Goals as goal

pub returns : goal.returns
returns g c = c.as_slice.ensures.value ∙ sym (values_of-zip _ _ c.self.invariant) ∙ ap values_of c.self.view_is
