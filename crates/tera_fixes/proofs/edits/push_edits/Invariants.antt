use Rattle.std.proofs.Common.{◌≡◌, ◌++◌, drop, map}
use Rattle.tera_fixes.specs.Edited.{edit_view, edits_of}
use Rattle.tera_fixes.specs.Suggestions.{suggestion_view}
use Rattle.tera_fixes.proofs.edits.push_edits.Given as goal

abbrev pub invariant-loop-part : goal.invariant-loop-part
invariant-loop-part l =
    map edit_view l.edits.items ++ map (λ part. record { part = part; text = (suggestion_view l.suggestion).text }) (drop l.part-index l.part-items)
    ≡ map edit_view l.initial.edits.items ++ edits_of (suggestion_view l.suggestion)
