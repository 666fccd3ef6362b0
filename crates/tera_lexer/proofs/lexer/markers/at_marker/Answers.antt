use Rattle.std.proofs.Common.{◌≡◌, ℕ, List, Bool, true, false, length, IsUtf8, sym, ◌∙◌}
use Rattle.std.specs.Bool.{OnTrue}
use Rattle.std.specs.Str.{IsCharBoundary}
use Rattle.tera_lexer.specs.grammar.Marks.{begins}
use Rattle.tera_lexer.proofs.Markers.{marker_cut}
use Rattle.tera_lexer.proofs.lexer.markers.at_marker.Goals as goal

-- where the test says yes, the text may be cut after the marker
if_begins : (bytes marker : List ℕ) (r : Bool) → IsUtf8 bytes → IsUtf8 marker → r ≡ begins marker bytes → OnTrue r (IsCharBoundary bytes (length marker))
if_begins bytes marker true utf8 text e = marker_cut bytes marker utf8 text (sym e)
if_begins bytes marker false utf8 text e = tt

pub returns-clause-cut : goal.returns-clause-cut
returns-clause-cut c = if_begins _ _ _ c.utf8.rest c.utf8.marker (c.begins.ensures ∙ (λ i. begins (c.as_bytes-2.ensures.value i) (c.as_bytes.ensures.value i)))
