use Rattle.std.proofs.Common.{ap, ◌∙◌, sym}
use Rattle.tera_base.proofs.Puts.{value_read, value_new}
use Rattle.tera_base.specs.Pairs.{value_at}
use Rattle.tera_base.proofs.values.MapOf.get.Goals as goal

pub returns-in-Some : goal.returns-in-Some
returns-in-Some g c =
    value_read c.args.key.now _ _ c.in-Some.place _ c.self.invariant c.in-Some.ensures.place c.index.ensures
    ∙ ap (value_at c.args.key.now) c.self.view_is

pub returns-in-None : goal.returns-in-None
returns-in-None g c =
    sym (value_new c.args.key.now c.self.inside.keys c.self.inside.values.items (sym c.in-None.is ∙ c.place_of.ensures.place))
    ∙ ap (value_at c.args.key.now) c.self.view_is
