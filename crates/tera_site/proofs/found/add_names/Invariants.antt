use Rattle.std.proofs.Common.{◌≡◌}
use Rattle.tera_site.specs.Found.{AreAdded}
use Rattle.tera_site.specs.Views.{around_in}
use Rattle.tera_site.proofs.found.add_names.Given as goal

abbrev pub invariant-loop-number : goal.invariant-loop-number
invariant-loop-number l = AreAdded (around_in l.site) l.names l.templates.items l.number l.fn.all.items l.all.items
