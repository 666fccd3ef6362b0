use Rattle.memchr.specs.Find.{Nowhere, OccursAt}
use Rattle.tera_lexer.proofs.lexer.markers.near_marker.Given as goal

-- none was passed
abbrev pub invariant-loop-i : goal.invariant-loop-i
invariant-loop-i l = Nowhere (OccursAt l.bytes l.marker) 0 l.i
