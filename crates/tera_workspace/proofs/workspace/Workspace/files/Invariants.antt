use Rattle.std.proofs.Common.{◌≡◌, ◌++◌, drop, map}
use Rattle.tera_workspace.specs.Components.{files_by}
use Rattle.tera_workspace.specs.Kept.{name_of}
use Rattle.tera_workspace.proofs.workspace.Workspace.files.Given as goal

abbrev pub invariant-loop-judged : goal.invariant-loop-judged
invariant-loop-judged l =
    files_by l.self.documents (map name_of l.judged-items)
    ≡ map (λ f. f.now) l.files.items ++ files_by l.self.documents (map name_of (drop l.judged-index l.judged-items))
