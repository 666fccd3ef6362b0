use Rattle.std.proofs.Common.{Some, sym, ap, ◌∙◌}
use Rattle.json.specs.Lex.{tokens}
use Rattle.json_rpc.specs.Messages.{message_in}
use Rattle.json_rpc.specs.Outline.{answered_id, document_at}
use Rattle.json_rpc.proofs.Documents.{json_of-none, json_of-utf8}
use Rattle.json_rpc.proofs.unread.id_to_answer.Goals as goal

pub returns-in_default-clause-id : goal.returns-in_default-clause-id
returns-in_default-clause-id c =
    ap Some c.null.ensures
    ∙ sym (ap (λ o. answered_id (message_in o)) (json_of-none c.args.bytes.now (λ u. absurd (c.in_default.ensures.cases.0 u))))

pub returns-clause-id : goal.returns-clause-id
returns-clause-id c =
    let cases = c.in-Ok.ensures.cases in
    c.id_in.ensures
    ∙ ap (λ ts. answered_id (message_in (document_at ts))) (c.in_ok-reader.ensures.ok ∙ ap tokens cases.0)
    ∙ sym (ap (λ o. answered_id (message_in o)) (json_of-utf8 c.args.bytes.now cases.1))
