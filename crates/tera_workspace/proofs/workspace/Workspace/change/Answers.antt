use Rattle.std.proofs.Common.{map}
use Rattle.text_edits.specs.Documents.{changed}
use Rattle.text_edits.specs.Edits.{change_view}
use Rattle.tera_workspace.proofs.WorkspaceLemmas.{kept_either}
use Rattle.tera_workspace.proofs.workspace.Workspace.change.Goals as goal

pub returns-clause-kept : goal.returns-clause-kept
returns-clause-kept c = λ k.
    kept_either c.change.result c.args.self.now c.change.new.self c.push.new.self c.in_ok-from_str.field-0 c.args.name.now (changed c.args.self.now.encoding (map change_view c.args.changes.now))
    c.in_ok-push.ensures.items c.in_ok-from_str.ensures.ok c.change.ensures.changed c.change.ensures.err k
