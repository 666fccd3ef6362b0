use Rattle.std.proofs.Common.{◌∙◌, ap}
use Rattle.tera_workspace.specs.Sites.{around_named}
use Rattle.tera_workspace.proofs.sites.KeptSite.around.Goals as goal

pub around_in-requires : goal.around_in-requires
around_in-requires c = c.self.invariant.ordered

pub returns : goal.returns
returns c = c.around_in.ensures ∙ ap (λ s. around_named c.args.name.now s.documents) c.self.view_is
