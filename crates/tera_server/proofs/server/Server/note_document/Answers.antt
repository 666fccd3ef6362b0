use Rattle.std.proofs.Common.{◌∙◌, codes, string_bytes, OnOk, ap, subst}
use Rattle.protocol_values.specs.Members.{seen, member_of, text_in}
use Rattle.protocol_values.specs.Reading.{changes_in}
use Rattle.tera_server.specs.Notes.{document_in, uri_given, version_of, IsChanged}
use Rattle.tera_server.specs.declared.notes.DocumentNote.TheVariants.{Changed, Closed}
use Rattle.tera_server.proofs.KnownLemmas.{aside_err, noted_of}
use Rattle.tera_server.proofs.server.Server.note_document.Goals as goal

pub returns-in-Opened-clause-err : goal.returns-in-Opened-clause-err
returns-in-Opened-clause-err c =
    aside_err c.open.result (uri_given (document_in (seen c.args.params))) c.in-Some.uri.now (string_bytes c.in-Ok.name) c.as_str.result.now c.args.self.now c.open.new.self
    (c.in-Some.ensures ∙ ap text_in (c.member.ensures ∙ ap (member_of (codes "uri")) c.member-document.ensures)) c.in-Ok.ensures c.as_str.ensures.value c.open.ensures.err

pub returns-in-Changed-clause-noted : goal.returns-in-Changed-clause-noted
returns-in-Changed-clause-noted c =
    let s = c.args.self.now in
    let t = c.change.new.self in
    let params = seen c.args.params in
    let name = c.as_str-in-Changed.result.now in
    let r = c.change.result in
    noted_of r c.args.note Changed (uri_given (document_in params)) c.in-Some.uri.now (string_bytes c.in-Ok.name) name params s t c.in-Changed.is
    (c.in-Some.ensures ∙ ap text_in (c.member.ensures ∙ ap (member_of (codes "uri")) c.member-document.ensures)) c.in-Ok.ensures c.as_str-in-Changed.ensures.value
    (subst (λ changes. OnOk r (IsChanged name (version_of (document_in params)) changes s t)) (ap changes_in c.member-changes.ensures)
    (subst (λ document. OnOk r (IsChanged name (version_of document) (changes_in (seen c.member-changes.result)) s t)) c.member-document.ensures c.change.ensures.changed))

pub returns-in-Changed-clause-err : goal.returns-in-Changed-clause-err
returns-in-Changed-clause-err c =
    aside_err c.change.result (uri_given (document_in (seen c.args.params))) c.in-Some.uri.now (string_bytes c.in-Ok.name) c.as_str-in-Changed.result.now c.args.self.now c.change.new.self
    (c.in-Some.ensures ∙ ap text_in (c.member.ensures ∙ ap (member_of (codes "uri")) c.member-document.ensures)) c.in-Ok.ensures c.as_str-in-Changed.ensures.value c.change.ensures.err

pub returns-clause-noted : goal.returns-clause-noted
returns-clause-noted c =
    noted_of c.close.result c.args.note Closed (uri_given (document_in (seen c.args.params))) c.in-Some.uri.now (string_bytes c.in-Ok.name) c.as_str-in-Closed.result.now (seen c.args.params)
    c.args.self.now c.close.new.self c.in-Closed.is
    (c.in-Some.ensures ∙ ap text_in (c.member.ensures ∙ ap (member_of (codes "uri")) c.member-document.ensures)) c.in-Ok.ensures c.as_str-in-Closed.ensures.value c.close.ensures.closed

pub returns-clause-err : goal.returns-clause-err
returns-clause-err c =
    aside_err c.close.result (uri_given (document_in (seen c.args.params))) c.in-Some.uri.now (string_bytes c.in-Ok.name) c.as_str-in-Closed.result.now c.args.self.now c.close.new.self
    (c.in-Some.ensures ∙ ap text_in (c.member.ensures ∙ ap (member_of (codes "uri")) c.member-document.ensures)) c.in-Ok.ensures c.as_str-in-Closed.ensures.value c.close.ensures.err
