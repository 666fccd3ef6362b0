use Rattle.text_edits.specs.Documents.{removed}
use Rattle.tera_workspace.proofs.WorkspaceLemmas.{kept_changed}
use Rattle.tera_workspace.proofs.workspace.Workspace.remove_file.Goals as goal

pub returns-clause-kept : goal.returns-clause-kept
returns-clause-kept c = λ k.
    kept_changed c.args.self.now c.remove_file.new.self c.push.new.self c.in_ok-from_str.field-0 c.args.name.now removed
    c.in_ok-push.ensures.items c.in_ok-from_str.ensures.ok c.remove_file.ensures k
