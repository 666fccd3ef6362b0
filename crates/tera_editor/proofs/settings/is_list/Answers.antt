use Rattle.std.proofs.Common.{◌∙◌}
use Rattle.tera_editor.proofs.ListLemmas.{listed_alike}
use Rattle.tera_editor.proofs.settings.is_list.Goals as goal

pub returns : goal.returns
returns c = c.is_some.ensures ∙ listed_alike c.args.list.now
