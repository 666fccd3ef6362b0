use Rattle.tera_outline.proofs.Stopping.{parts_sound}
use Rattle.tera_outline.proofs.laws.pieces_in_order.Goals as goal

pub returns : goal.returns
returns c = λ text parts are. parts_sound text parts are
