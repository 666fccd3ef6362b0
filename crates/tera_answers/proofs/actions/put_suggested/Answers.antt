use Rattle.std.proofs.Common.{◌≡◌, ◌∙◌, ◌++◌, ℕ, List, filter, filter_map, flat_map, map, option_map, string_bytes, refl, sym, ap, subst}
use Rattle.tera_findings.specs.declared.finding.Finding.{Finding}
use Rattle.tera_fixes.specs.All.{AreSuggestedIn}
use Rattle.tera_fixes.specs.Suggestions.{suggestion_view}
use Rattle.tera_answers.specs.Actions.{action_json, action_tokens, is_asked}
use Rattle.tera_editor.specs.Editors.{seen_of, uri_in}
use Rattle.tera_editor.specs.Settings.{Shown, reported_for}
use Rattle.tera_answers.proofs.ActionLemmas.{actions_written}
use Rattle.tera_answers.proofs.Tails.{and_so}
use Rattle.tera_answers.proofs.actions.put_suggested.Goals as goal

pub returns-clause-tokens : goal.returns-clause-tokens
returns-clause-tokens c =
    let acting = c.args.acting in
    let e = acting.encoding in
    let name = c.args.document.file.now in
    let text = c.args.document.text.now in
    let uri = uri_in name (seen_of acting.editor.now name) in
    let found = c.args.judgement.now.findings.items in
    let shown = reported_for acting.settings.now (map string_bytes acting.folders.now) name in
    let suggestions = map (option_map suggestion_view) c.in_ok-suggestions.suggestions.items in
    let asked : map (λ f. f.now) c.as_slice.result.now ≡ filter (is_asked e text c.args.range shown) found =
    ap (map (λ f. f.now)) c.as_slice.ensures.value ∙ (c.in_ok-asked.ensures
    ∙ ap (λ (s : Shown). filter (is_asked e text c.args.range s) found) c.reported-reported.ensures) in
    and_so c.put_each.result c.put_each.ensures.tokens (λ h. (
      filter_map (option_map (action_json e uri text)) suggestions,
      record {
        suggestions = suggestions;
        suggested =
            subst (λ (fs : List Finding). AreSuggestedIn c.args.judgement.now.catalogue c.args.judgement.now.template.now text fs suggestions) asked
            c.in_ok-suggestions.ensures;
        are = refl;
      },
      h
          ∙ (ap (λ ss. c.args.out.now.tokens ++ flat_map (action_tokens e c.as_str.result.now text) (map (option_map suggestion_view) ss)) c.as_slice-2.ensures.value
          ∙ (ap (λ u. c.args.out.now.tokens ++ flat_map (action_tokens e u text) suggestions) (c.as_str.ensures.value ∙ c.in_ok-uri.ensures)
          ∙ ap (λ ts. c.args.out.now.tokens ++ ts) (actions_written e uri text suggestions))),
    ))
