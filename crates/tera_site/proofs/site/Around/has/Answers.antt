use Rattle.std.proofs.Common.{◌∙◌, ap, sym}
use Rattle.tera_site.specs.Views.{around_view}
use Rattle.tera_site.proofs.site.Around.has.Goals as goal

pub returns-in-In : goal.returns-in-In
returns-in-In c = c.has.ensures c.in-In.field-1 ∙ sym (ap (λ a. (around_view a).has c.args.name.now) c.in-In.is)
