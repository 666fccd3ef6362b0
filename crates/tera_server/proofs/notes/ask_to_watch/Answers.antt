use Rattle.std.proofs.Common.{◌≡◌, codes, refl, append_assoc}
use Rattle.json_rpc.specs.Ids.{TextId}
use Rattle.json_rpc.specs.Writing.{body, request}
use Rattle.tera_answers.specs.Abilities.{registrations_json}
use Rattle.tera_server.proofs.notes.ask_to_watch.Goals as goal

pub returns-clause-sent : goal.returns-clause-sent
returns-clause-sent c =
    let e : c.in_ok-message.message.items ≡ body (request (TextId (codes "watch")) (codes "client/registerCapability") registrations_json) =
    rw (c.in_ok-message.ensures.bytes, c.in_ok-put_registrations.ensures.before, c.in_ok-writer.ensures.before, c.in_ok-put_registrations.ensures.tokens, c.in_ok-writer.ensures.tokens, c.text.ensures)
    (simp append_assoc refl) in
    rw e at c.push.ensures.ok
