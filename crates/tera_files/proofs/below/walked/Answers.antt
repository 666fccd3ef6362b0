use Rattle.std.proofs.Common.{Some, string_bytes}
use Rattle.std.proofs.lemmas.List.Elements.{All-pop}
use Rattle.tera_files.specs.Names.{texts}
use Rattle.tera_files.specs.Paths.{IsKnown}
use Rattle.tera_files.specs.declared.below.Folder.{Folder}
use Rattle.tera_files.proofs.below.walked.Goals as goal

pub loop-init : goal.loop-init
loop-init g c = c.in_ok-below.ensures (texts c.args.extensions.now)

pub loop-preserved : goal.loop-preserved
loop-preserved g c =
    let top = c.args.top.now in
    let itself = c.loop.invariant.0 in
    let found = c.loop.invariant.1 in
    let folder = c.in-Some.folder in
    let Is : Folder → Type 0 = λ folder. IsKnown top itself (string_bytes folder.path) (string_bytes folder.itself) in
    let parted = All-pop Is c.loop.below.folders.items c.pop.new.self.items (Some folder) c.in-Some.ensures.items found.folders in
    (itself, c.in_ok-list.ensures top itself parted.1 (record { templates = found.templates; known = found.known; folders = parted.0; unlisted = found.unlisted }))
