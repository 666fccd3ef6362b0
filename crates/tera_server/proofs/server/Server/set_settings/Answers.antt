use Rattle.std.proofs.Common.{◌≡◌, ◌∙◌, None, Some, cond, string_bytes, ap, subst}
use Rattle.std.specs.Str.{bytes_eq}
use Rattle.tera_editor.specs.Settings.{settings_in, settings_view}
use Rattle.tera_editor.specs.UnreadFiles.{why_of}
use Rattle.tera_server.specs.declared.server.Server.{Server}
use Rattle.tera_server.proofs.ConfiguringLemmas.{and_both, at_itself}
use Rattle.tera_answers.proofs.Tails.{and_so}
use Rattle.tera_server.proofs.server.Server.set_settings.Goals as goal

pub returns-clause-set : goal.returns-clause-set
returns-clause-set c =
    let folder = c.args.folder.now in
    let t = c.report_why.new.self in
    let same : t.settings ≡ c.args.self.now.settings = ap (λ (x : Server). x.settings) c.report_why.ensures.same in
    and_so c.set.result (and_both _ _ c.set.result c.set.ensures.set c.set.ensures.named)
    (λ both. record {
      settings = λ f. both.0 f ∙ ap (λ x. cond (bytes_eq folder f) (Some (settings_view c.args.settings)) (settings_in x f)) same;
      file = both.1 folder ∙ at_itself folder (Some (string_bytes c.args.file)) _;
      why = subst (λ n. why_of t.unread n ≡ None) c.as_str.ensures.value c.in_ok-report_why.ensures.set;
    })
