use Rattle.std.proofs.Common.{subst, true≢false, sym}
use Rattle.std.specs.Result.{IsOk}
use Rattle.tera_workspace.proofs.between.Markers.of.Goals as goal

pub returns-in-Err : goal.returns-in-Err
returns-in-Err c = λ valid. true≢false (sym (subst IsOk c.in-Err.is (c.validate.ensures.valid valid)))
