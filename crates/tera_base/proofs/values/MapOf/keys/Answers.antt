use Rattle.std.proofs.Common.{ap, sym, ◌∙◌}
use Rattle.std.specs.Map.{keys_of}
use Rattle.std.proofs.lemmas.Map.Made.{keys_of-zip}
use Rattle.tera_base.proofs.values.MapOf.keys.Goals as goal

pub returns : goal.returns
returns g c = c.as_slice.ensures.keys ∙ sym (keys_of-zip _ _ c.self.invariant) ∙ ap keys_of c.self.view_is
