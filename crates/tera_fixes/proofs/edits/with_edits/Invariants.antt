use Rattle.std.proofs.Common.{◌≡◌, ◌++◌, drop, map, string_bytes}
use Rattle.std.specs.Str.{IsCharBoundary}
use Rattle.tera_fixes.specs.Edited.{edit_view, edited}
use Rattle.tera_fixes.proofs.edits.with_edits.Given as goal

-- the text so far, and then the rest with the edits that are left
abbrev pub invariant-loop-edit : goal.invariant-loop-edit
invariant-loop-edit l =
    IsCharBoundary l.text l.from
    × (string_bytes l.whole ++ edited l.text l.from (map edit_view (drop l.edit-index l.edit-items)) ≡ edited l.text 0 (map edit_view l.edit-items))
