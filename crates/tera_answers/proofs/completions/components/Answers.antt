use Rattle.std.proofs.Common.{◌+◌, ◌++◌, map, refl}
use Rattle.tera_outline.specs.Names.{name_view}
use Rattle.tera_tree.specs.Calls.{texts}
use Rattle.tera_workspace.specs.Components.{components_of}
use Rattle.tera_workspace.proofs.LeftLemmas.{left_last}
use Rattle.tera_answers.specs.Completions.{defined_names}
use Rattle.tera_answers.proofs.completions.components.Goals as goal

pub returns : goal.returns
returns c =
    left_last (λ ns. defined_names (map name_view ns)) (components_of c.args.workspace.now ++ defined_names (map name_view c.args.named.now)) (texts c.loop-name.names.items) c.args.named.now c.loop-name.name-index
    c.loop-name-test.false refl c.loop-name.invariant
