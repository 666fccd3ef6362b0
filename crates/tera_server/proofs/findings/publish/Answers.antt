use Rattle.std.proofs.Common.{◌≡◌, ◌∙◌, ◌⊎◌, refl, subst, append_assoc}
use Rattle.tera_server.specs.Sending.{found_message, publisher}
use Rattle.tera_editor.specs.declared.editor.DocumentState.{DocumentState}
use Rattle.tera_editor.specs.declared.editor.DocumentState.TheVariants.{Open, Closed}
use Rattle.tera_server.proofs.PublishLemmas.{one_sent}
use Rattle.tera_answers.proofs.Tails.{and_so}
use Rattle.tera_server.proofs.findings.publish.Goals as goal

pub returns-in_ok-end_message-in-Open-clause-published : goal.returns-in_ok-end_message-in-Open-clause-published
unfolding found_message
returns-in_ok-end_message-in-Open-clause-published c =
    let p = publisher c.args.publishing in
    let w = c.args.workspace.now in
    let name = c.args.name.now in
    let message = c.in_ok-end_message-in-Open.field-0.items in
    let is : message ≡ found_message p w name =
    rw (
      c.in_ok-end_message-in-Open.ensures.bytes,
      c.in_ok-put_published-in-Open.ensures.before,
      c.in_ok-message-in-Open.ensures.before,
      c.in_ok-put_published-in-Open.ensures.tokens,
      c.in_ok-message-in-Open.ensures.tokens,
      c.reported.ensures,
      c.as_slice.ensures.value,
      c.as_slice-in-Open.ensures.value,
      c.in_ok-unknown-in-Open.ensures,
      c.in_ok-named-in-Open.ensures,
    )
    (simp append_assoc refl) in
    and_so c.push.result c.push.ensures.ok
    (λ h. h ∙ one_sent p w name message c.args.out.now (subst (λ (s : DocumentState). (s ≡ Open) ⊎ (s ≡ Closed)) c.state.ensures c.in-Open.is) is)
