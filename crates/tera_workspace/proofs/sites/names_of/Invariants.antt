use Rattle.std.proofs.Common.{◌≡◌, map, take}
use Rattle.tera_ast.specs.View.{name_view}
use Rattle.tera_workspace.specs.Kept.{name_of}
use Rattle.tera_workspace.specs.Sites.{name_below}
use Rattle.tera_workspace.proofs.sites.names_of.Given as goal

abbrev pub invariant-loop-judged : goal.invariant-loop-judged
invariant-loop-judged l = map name_view l.names.items ≡ map (λ j. name_below l.root (name_of j.now)) (take l.judged-index l.judged-items)
