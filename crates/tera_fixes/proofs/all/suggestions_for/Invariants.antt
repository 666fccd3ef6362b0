use Rattle.std.proofs.Common.{◌≡◌, ◌++◌, drop, map}
use Rattle.std.specs.Option.{option_map}
use Rattle.tera_fixes.specs.All.{suggested}
use Rattle.tera_fixes.specs.Components.{AreMeanings}
use Rattle.tera_fixes.specs.Names.{component_names}
use Rattle.tera_fixes.specs.Suggestions.{context_view, suggestion_view}
use Rattle.tera_fixes.proofs.all.suggestions_for.Given as goal

-- what is suggested so far, and then for the findings that are left
abbrev pub invariant-loop-finding : goal.invariant-loop-finding
invariant-loop-finding l =
    (
    map (option_map suggestion_view) l.suggestions.items ++ suggested (context_view l.context) l.left (map (λ f. f.now) (drop l.finding-index l.findings))
    ≡ suggested (context_view l.context) 100 (map (λ f. f.now) l.findings)
    )
    × AreMeanings (component_names l.context.catalogue.now) l.meanings
