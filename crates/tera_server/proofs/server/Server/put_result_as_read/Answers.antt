use Rattle.std.proofs.Common.{◌≡◌, ◌∙◌, None, Some, map, option_map, string_bytes, sym, ap, subst}
use Rattle.tera_server.specs.Requests.{IsResultAsRead}
use Rattle.tera_editor.specs.Settings.{markers_for}
use Rattle.tera_answers.proofs.Tails.{and_so}
use Rattle.tera_server.proofs.server.Server.put_result_as_read.Goals as goal

pub returns-in-Some-clause-tokens : goal.returns-in-Some-clause-tokens
returns-in-Some-clause-tokens c =
    let s = c.args.self.now in
    let is : markers_for s.settings (map string_bytes s.folders.items) c.args.name.now ≡ Some c.in-Some.markers.now =
    sym (rw c.as_slice.ensures.value at c.markers_for.ensures) ∙ ap (option_map (λ m. m.now)) c.in-Some.is in
    and_so c.put_result_between.result c.put_result_between.ensures.tokens
    (λ h. let (j, are, written) = h in (j, subst (λ o. IsResultAsRead o c.args.request s.client.encoding c.args.text.now j) (sym is) are, written))

pub returns-in-None-clause-tokens : goal.returns-in-None-clause-tokens
returns-in-None-clause-tokens c =
    let s = c.args.self.now in
    let is : markers_for s.settings (map string_bytes s.folders.items) c.args.name.now ≡ None =
    sym (rw c.as_slice.ensures.value at c.markers_for.ensures) ∙ ap (option_map (λ m. m.now)) c.in-None.is in
    and_so c.put_result_of_text.result c.put_result_of_text.ensures.tokens
    (λ h. let (j, are, written) = h in (j, subst (λ o. IsResultAsRead o c.args.request s.client.encoding c.args.text.now j) (sym is) are, written))
