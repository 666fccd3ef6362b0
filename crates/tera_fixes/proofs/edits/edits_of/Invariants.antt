use Rattle.std.proofs.Common.{◌≡◌, ◌++◌, drop, map}
use Rattle.std.specs.List.{flat_map}
use Rattle.std.specs.Option.{option_map}
use Rattle.tera_fixes.specs.Edited.{edit_view, edits_if_any}
use Rattle.tera_fixes.specs.Suggestions.{suggestion_view}
use Rattle.tera_fixes.proofs.edits.edits_of.Given as goal

abbrev pub invariant-loop-suggestion : goal.invariant-loop-suggestion
invariant-loop-suggestion l =
    map edit_view l.edits.items ++ flat_map edits_if_any (map (option_map suggestion_view) (drop l.suggestion-index l.suggestions))
    ≡ flat_map edits_if_any (map (option_map suggestion_view) l.suggestions)
