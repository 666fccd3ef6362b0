use Rattle.std.proofs.Common.{[], ap, sym, subst, ◌∙◌}
use Rattle.std.specs.List.{IsDistinct}
use Rattle.tera_base.specs.Keys.{keys_in}
use Rattle.tera_base.specs.Pairs.{same_key}
use Rattle.tera_base.proofs.keys.Keys.as_slice.Goals as goal

none_twice : IsDistinct same_key []
unfolding IsDistinct
none_twice = tt

pub returns-in-None-clause-distinct : goal.returns-in-None-clause-distinct
returns-in-None-clause-distinct c = subst (IsDistinct same_key) (ap keys_in (sym c.in-None.is) ∙ c.self.view_is) none_twice
