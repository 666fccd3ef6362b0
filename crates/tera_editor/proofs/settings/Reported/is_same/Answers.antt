use Rattle.std.proofs.Common.{◌∙◌, ap}
use Rattle.tera_editor.specs.Settings.{reported_view}
use Rattle.tera_editor.proofs.settings.Reported.is_same.Goals as goal

pub returns-in-By : goal.returns-in-By
returns-in-By c = λ is. ap reported_view c.in-By.is ∙ c.is_by.ensures is
