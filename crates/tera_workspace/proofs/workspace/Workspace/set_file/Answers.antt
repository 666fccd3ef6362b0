use Rattle.text_edits.specs.Documents.{written}
use Rattle.tera_workspace.proofs.WorkspaceLemmas.{kept_either}
use Rattle.tera_workspace.proofs.workspace.Workspace.set_file.Goals as goal

pub returns-clause-kept : goal.returns-clause-kept
returns-clause-kept c = λ k.
    kept_either c.set_file.result c.args.self.now c.set_file.new.self c.push.new.self c.in_ok-from_str.field-0 c.args.name.now (written c.args.text.now)
    c.in_ok-push.ensures.items c.in_ok-from_str.ensures.ok c.set_file.ensures.written c.set_file.ensures.err k
