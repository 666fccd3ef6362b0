use Rattle.tera_editor.specs.Sites.{used_view}
use Rattle.tera_server.proofs.NamingLemmas.{only_same}
use Rattle.tera_exchange.proofs.NameLemmas.{name_said}
use Rattle.tera_exchange.proofs.server.say_name.Goals as goal

pub returns-in_err-is_there-clause-only : goal.returns-in_err-is_there-clause-only
returns-in_err-is_there-clause-only g c = only_same c.args.server.now

pub returns-clause-said : goal.returns-clause-said
returns-clause-said g c =
    name_said c.set_presence.result (used_view c.args.used.now) c.in_ok-is_there.is_there c.args.server.now c.set_presence.new.self c.set_presence.ensures.around c.set_presence.ensures.said
