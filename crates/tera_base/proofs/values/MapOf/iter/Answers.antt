use Rattle.std.proofs.Common.{ap, sym, subst, ◌∙◌}
use Rattle.std.specs.List.{IsDistinct}
use Rattle.std.specs.Map.{keys_of}
use Rattle.std.proofs.lemmas.Map.Made.{keys_of-zip}
use Rattle.tera_base.specs.Pairs.{same_key}
use Rattle.tera_base.proofs.values.MapOf.iter.Goals as goal

pub returns-clause-distinct : goal.returns-clause-distinct
returns-clause-distinct g c =
    subst (IsDistinct same_key) (sym (keys_of-zip _ _ c.self.invariant) ∙ ap keys_of c.self.view_is) c.as_slice.ensures.distinct
