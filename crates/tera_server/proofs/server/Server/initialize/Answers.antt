use Rattle.std.proofs.Common.{◌≡◌, ◌∙◌, ◌++◌, refl, ap}
use Rattle.json.specs.Tree.{json_tokens}
use Rattle.json_rpc.specs.Writing.{answer_begin}
use Rattle.protocol_values.specs.Members.{seen}
use Rattle.tera_answers.specs.Abilities.{abilities_json}
use Rattle.tera_editor.specs.Clients.{client_in}
use Rattle.tera_editor.specs.declared.client.Client.{Client}
use Rattle.tera_server.proofs.RequestLemmas.{answered}
use Rattle.tera_server.proofs.server.Server.initialize.Goals as goal

pub returns-clause-begun : goal.returns-clause-begun
returns-clause-begun c =
    let id = c.args.id.now in
    let client : c.of-client.result ≡ client_in (seen c.args.params) = c.of-client.ensures in (
      record {
        same = refl;
        phase = refl;
        client = client;
        encoding = c.new.ensures.encoding;
        folders = c.in_ok-folders.ensures;
        documents = c.new.ensures.documents;
        reported = c.new.ensures.reported;
        kept = c.new.ensures.kept;
      },
      answered id (abilities_json (client_in (seen c.args.params)).encoding) c.put_abilities.new.out.before c.in_ok-answer.answer.items c.put_abilities.new.out.tokens
          c.in_ok-answer.ensures.bytes
          (c.in_ok-put_abilities.ensures.before ∙ c.in_ok-out.ensures.before)
          (c.in_ok-put_abilities.ensures.tokens ∙ ap (λ ts. ts ++ json_tokens (abilities_json c.of-client.result.encoding)) c.in_ok-out.ensures.tokens
          ∙ ap (λ (k : Client). answer_begin id ++ json_tokens (abilities_json k.encoding)) client),
    )
