use Rattle.std.proofs.Common.{◌∙◌, ap}
use Rattle.tera_outline.specs.declared.pieces.Piece.{Piece}
use Rattle.tera_outline.proofs.NameParts.{end_at}
use Rattle.tera_outline.proofs.dotted.end_of.Goals as goal

pub returns-in-len1-up : goal.returns-in-len1-up
returns-in-len1-up c = ap (λ (p : Piece). p.end) c.last-item.is ∙ end_at c.args.name.now c.last-item.result c.in-len1-up.len_at_least
