use Rattle.std.proofs.Common.{◌∙◌}
use Rattle.tera_base.proofs.KeysAndValues.{rows_len}
use Rattle.tera_base.proofs.values.MapOf.len.Goals as goal

pub returns : goal.returns
returns g c = c.len.ensures ∙ rows_len _ _ _ c.self.view_is c.self.invariant
