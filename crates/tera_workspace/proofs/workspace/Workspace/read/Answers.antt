use Rattle.tera_workspace.proofs.WorkspaceLemmas.{kept_so_far, kept_after, are_read}
use Rattle.tera_workspace.proofs.workspace.Workspace.read.Goals as goal

pub returns-in_err-read_changed-clause-kept : goal.returns-in_err-read_changed-clause-kept
returns-in_err-read_changed-clause-kept c = λ kept. kept_so_far c.args.self.now c.read_changed.new.all kept c.read_changed.ensures.kept c.read_changed.ensures.texts

pub returns-clause-kept : goal.returns-clause-kept
returns-clause-kept c = λ kept.
    kept_after c.args.self.now c.read_changed.new.all kept c.read_changed.ensures.kept c.read_changed.ensures.texts c.clear.new.self c.in_ok-read_changed.ensures.read

pub returns-clause-read : goal.returns-clause-read
returns-clause-read c = λ kept.
    are_read _
    (kept_after c.args.self.now c.read_changed.new.all kept c.read_changed.ensures.kept c.read_changed.ensures.texts c.clear.new.self c.in_ok-read_changed.ensures.read)
    c.clear.ensures.items
