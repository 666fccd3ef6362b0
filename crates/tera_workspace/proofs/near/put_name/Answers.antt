use Rattle.tera_workspace.proofs.NearSteps.{put_more}
use Rattle.tera_workspace.proofs.near.put_name.Goals as goal

pub returns-clause-more : goal.returns-clause-more
returns-clause-more c = put_more c.args.name c.args.names.now c.insert.new.self c.in_ok-insert.ensures.updates
