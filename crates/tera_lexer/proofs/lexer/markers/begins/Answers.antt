use Rattle.std.proofs.Common.{◌∙◌}
use Rattle.tera_lexer.proofs.Markers.{first_differs, second_decides}
use Rattle.tera_lexer.proofs.lexer.markers.begins.Goals as goal
use Rattle.tera_lexer.proofs.lexer.markers.begins.Goals.{then-bytes-marker, else-bytes-marker}

pub returns-then-bytes-ge2 : goal.returns-then-bytes-ge2
returns-then-bytes-ge2 c =
    elim c.if-bytes-marker.branch [
      | then-bytes-marker w ↦ w.result-is ∙ second_decides c.args.marker.now c.args.bytes.now c.if-marker-eq2.true c.if-bytes-ge2.true w.if-bytes-marker.true
      | else-bytes-marker w ↦ w.result-is ∙ first_differs c.args.marker.now c.args.bytes.now c.if-marker-eq2.true w.if-bytes-marker.false
    ]
