use Rattle.std.proofs.Common.{ap, rules}
use Rattle.tera_editor.specs.Editors.{seen_view, lost}
use Rattle.tera_editor.proofs.EditorLemmas.{seen_changed}
use Rattle.tera_editor.proofs.editor.Editor.lose.Goals as goal

pub returns-in-Some : goal.returns-in-Some
returns-in-Some c =
    let new = c.lose.new.self in
    seen_changed c.args.name.now c.args.self.now.seen (c.get_mut.follows.lender new) lost c.in-Some.seen.now new
    ((c.get_mut.follows.holds new).3 (search rules)) (search rules) (ap seen_view c.lose.ensures)
