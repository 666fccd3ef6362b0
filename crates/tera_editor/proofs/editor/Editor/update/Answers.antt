use Rattle.std.proofs.Common.{rules, refl}
use Rattle.tera_editor.specs.Editors.{with_state}
use Rattle.tera_editor.proofs.EditorLemmas.{seen_changed}
use Rattle.tera_editor.proofs.editor.Editor.update.Goals as goal

pub returns-in-Some : goal.returns-in-Some
returns-in-Some c =
    let new = record c.in-Some.seen.now { version = c.args.version; state = c.args.state } in
    seen_changed c.args.name.now c.args.self.now.seen (c.get_mut.follows.lender new) (with_state c.args.version c.args.state) c.in-Some.seen.now new
    ((c.get_mut.follows.holds new).3 (search rules)) (search rules) refl
