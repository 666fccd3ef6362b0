use Rattle.std.proofs.Common.{rules}
use Rattle.tera_editor.specs.Sites.{asked_again}
use Rattle.tera_editor.proofs.SiteLemmas.{asked_of_name}
use Rattle.tera_editor.proofs.sites.ask.Goals as goal

pub returns-in-Some : goal.returns-in-Some
returns-in-Some c =
    let new = asked_again c.in-Some.presence.now in
    asked_of_name c.args.name.now c.args.presences.now (c.get_mut.follows.lender new) c.in-Some.presence.now (search rules) ((c.get_mut.follows.holds new).3 (search rules))
