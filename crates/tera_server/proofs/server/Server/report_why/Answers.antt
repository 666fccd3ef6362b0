use Rattle.std.proofs.Common.{◌∙◌}
use Rattle.std.specs.Option.{option_map}
use Rattle.tera_editor.specs.UnreadFiles.{reason_view, why_of}
use Rattle.tera_server.proofs.ConfiguringLemmas.{at_itself, reason_grows}
use Rattle.tera_answers.proofs.Tails.{and_so}
use Rattle.tera_server.proofs.server.Server.report_why.Goals as goal

pub returns-clause-set : goal.returns-clause-set
returns-clause-set c =
    let file = c.args.file.now in
    let why = option_map reason_view c.args.why in
    and_so c.set_why.result c.set_why.ensures.set (λ h. h file ∙ at_itself file why (why_of c.args.self.now.unread file))

pub returns-clause-grows : goal.returns-clause-grows
returns-clause-grows c =
    reason_grows c.set_why.result c.args.file.now (option_map reason_view c.args.why) c.args.self.now c.set_why.new.self c.set_why.ensures.edited c.set_why.ensures.unedited
