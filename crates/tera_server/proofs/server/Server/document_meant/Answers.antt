use Rattle.std.proofs.Common.{◌≡◌, ◌∙◌, Some, ap, codes, inr, string_bytes, subst}
use Rattle.std.proofs.lemmas.Result.{err_from_is_err_and}
use Rattle.protocol_values.specs.Members.{seen, member_of, text_in}
use Rattle.tera_server.specs.Notes.{document_in, uri_given}
use Rattle.tera_server.specs.Requests.{IsMeantAs, RefusesDocument}
use Rattle.tera_server.proofs.server.Server.document_meant.Goals as goal

pub returns-in_err-text : goal.returns-in_err-text
returns-in_err-text c =
    let given : Some c.in-Some.uri.now ≡ uri_given (document_in (seen c.args.params)) = c.in-Some.ensures ∙ ap text_in (c.member-2.ensures ∙ ap (member_of (codes "uri")) c.member.ensures) in
    let p = err_from_is_err_and c.from_residual-in_err-text.result c.from_residual-in_err-text.ensures.1 in
    rw (p.1, p.2) (inr (subst (λ uri. RefusesDocument uri c.args.self.now c.in_err-text.field-0.0) given
    (string_bytes c.in_ok-name.name, c.in_ok-name.ensures, rw c.as_str.ensures.value at c.in_err-text.ensures)))

pub returns : goal.returns
returns c =
    let given : Some c.in-Some.uri.now ≡ uri_given (document_in (seen c.args.params)) = c.in-Some.ensures ∙ ap text_in (c.member-2.ensures ∙ ap (member_of (codes "uri")) c.member.ensures) in
    subst (λ uri. IsMeantAs uri c.args.self.now (string_bytes c.in_ok-name.name) c.in_ok-text.text.now) given
    (c.in_ok-name.ensures, rw c.as_str.ensures.value at c.in_ok-text.ensures)
