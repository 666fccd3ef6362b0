use Rattle.text_edits.specs.Documents.{opened}
use Rattle.tera_workspace.proofs.WorkspaceLemmas.{kept_either}
use Rattle.tera_workspace.proofs.workspace.Workspace.open.Goals as goal

pub returns-clause-kept : goal.returns-clause-kept
returns-clause-kept c = λ k.
    kept_either c.open.result c.args.self.now c.open.new.self c.push.new.self c.in_ok-from_str.field-0 c.args.name.now (opened c.args.text.now)
    c.in_ok-push.ensures.items c.in_ok-from_str.ensures.ok c.open.ensures.opened c.open.ensures.err k
