use Rattle.std.proofs.Common.{◌≡◌, ◌∙◌, map, get_or, sym, ap}
use Rattle.std.proofs.lemmas.List.{get_or_read}
use Rattle.tera_workspace.specs.Diagnostics.{diagnostic_view}
use Rattle.tera_workspace.specs.Kept.{reported_of}
use Rattle.tera_workspace.proofs.NumberLemmas.{reported_numbered, reported_nowhere}
use Rattle.tera_workspace.proofs.workspace.Workspace.reported.Goals as goal

pub returns-in-Ok : goal.returns-in-Ok
returns-in-Ok c =
    let items = c.args.self.now.judged.items in
    let j = c.index.result.now in
    let is : j ≡ get_or items c.in-Ok.number j = get_or_read items c.in-Ok.number j c.in-Ok.ensures.within c.index.ensures j in
    ap (map diagnostic_view) c.as_slice.ensures.value ∙ ap reported_of is ∙ sym (reported_numbered c.args.name.now items c.in-Ok.number j c.in-Ok.ensures)

pub returns-in-Err : goal.returns-in-Err
returns-in-Err c = sym (reported_nowhere c.args.name.now c.args.self.now.judged.items c.in-Err.ensures.none)
