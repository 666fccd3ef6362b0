use Rattle.std.proofs.Common.{◌≡◌, ◌++◌, drop, map}
use Rattle.tera_workspace.specs.Definitions.{text_view}
use Rattle.tera_workspace.specs.Kept.{sources_of}
use Rattle.tera_workspace.proofs.workspace.Workspace.texts.Given as goal

abbrev pub invariant-loop-judged : goal.invariant-loop-judged
invariant-loop-judged l =
    map text_view l.texts.items ++ sources_of (drop l.judged-index l.judged-items) ≡ sources_of l.judged-items
