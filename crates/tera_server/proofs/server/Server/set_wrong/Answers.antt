use Rattle.std.proofs.Common.{◌≡◌, ◌∙◌, Some, string_bytes, ap, subst}
use Rattle.std.specs.Str.{bytes_eq}
use Rattle.tera_editor.specs.Settings.{settings_in}
use Rattle.tera_editor.specs.UnreadFiles.{reason_view, why_of}
use Rattle.tera_server.specs.declared.server.Server.{Server}
use Rattle.tera_server.proofs.ConfiguringLemmas.{at_itself, cond_same}
use Rattle.tera_answers.proofs.Tails.{and_so}
use Rattle.tera_server.proofs.server.Server.set_wrong.Goals as goal

pub returns-clause-set : goal.returns-clause-set
returns-clause-set c =
    let folder = c.args.folder.now in
    let s = c.args.self.now in
    let t = c.report_why.new.self in
    let same : t.settings ≡ s.settings = ap (λ (x : Server). x.settings) c.report_why.ensures.same in
    and_so c.set_file.result c.set_file.ensures.named
    (λ named. record {
      settings = λ f. c.set_file.ensures.settings f ∙ ap (λ x. settings_in x f) same ∙ cond_same (bytes_eq folder f) (settings_in s.settings f);
      file = named folder ∙ at_itself folder (Some (string_bytes c.args.file)) _;
      why = subst (λ n. why_of t.unread n ≡ Some (reason_view c.args.why)) c.as_str.ensures.value c.in_ok-report_why.ensures.set;
    })
