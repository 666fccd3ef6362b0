use Rattle.tera_rules.proofs.RegisteredLemmas.{put_now}
use Rattle.tera_rules.proofs.registered.put_name.Goals as goal

pub returns : goal.returns
returns c = put_now c.args.name c.args.names.now c.insert.new.self c.in_ok-insert.ensures.updates
