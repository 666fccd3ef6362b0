use Rattle.std.proofs.Common.{◌≡◌, ◌∙◌, ◌++◌, map, string_bytes, refl, sym, ap, append_assoc}
use Rattle.std.proofs.lemmas.List.Concat.{flat_map-append}
use Rattle.std.specs.List.{flat_map}
use Rattle.tera_workspace.specs.Diagnostics.{diagnostic_view}
use Rattle.tera_server.specs.Between.{faults_in}
use Rattle.tera_server.specs.Findings.{found_if_on, one_found}
use Rattle.tera_editor.specs.Settings.{FaultsAlone, reported_for, reported_view, shown_in}
use Rattle.tera_editor.specs.UnreadFiles.{why_of}
use Rattle.tera_server.proofs.FindingLemmas.{found_tokens, found_written, on_written}
use Rattle.tera_answers.proofs.Tails.{and_so}
use Rattle.tera_server.proofs.findings.put_published.Goals as goal

pub returns : goal.returns
returns c =
    let e = c.args.publishing.editor.now in
    let reported = c.args.publishing.related in
    let name = c.args.name.now in
    let why = why_of c.args.publishing.unread.now name in
    let shown = reported_for c.args.publishing.settings.now (map string_bytes c.args.publishing.folders.now) name in
    let found = map diagnostic_view c.args.found.now in
    let unknown = map diagnostic_view c.args.unknown.now in
    let named = map diagnostic_view c.args.named.now in
    let all = found ++ (unknown ++ named) in
    let between = faults_in c.args.publishing.between.now name in
    let front = shown_in shown all in
    let ds = front ++ shown_in FaultsAlone between in
    let old = c.args.out.now.tokens in
    let start = c.put_reason.new.out.tokens in
    let one = found_if_on e reported (reported_view c.reported-reported.result) in
    let tokens = flat_map one in
    let both : c.put_found-3.new.out.tokens ≡ start ++ tokens all =
    c.in_ok-put_found-3.ensures.tokens
    ∙ ap (λ ts. ts ++ tokens named) (c.in_ok-put_found-2.ensures.tokens ∙ ap (λ ts. ts ++ tokens unknown) c.in_ok-put_found.ensures.tokens)
    ∙ append_assoc (start ++ tokens found) (tokens unknown) (tokens named)
    ∙ append_assoc start (tokens found) (tokens unknown ++ tokens named)
    ∙ ap (λ ts. start ++ ts) (ap (λ ts. tokens found ++ ts) (sym (flat_map-append one unknown named)) ∙ sym (flat_map-append one found (unknown ++ named))) in
    let most : c.put_found-3.new.out.tokens ≡ start ++ flat_map (one_found e reported) front =
    both
    ∙ ap (λ rules. start ++ flat_map (found_if_on e reported rules) all) c.reported-reported.ensures
    ∙ ap (λ ts. start ++ ts) (on_written e reported shown all) in
    let each : c.put_found-4.new.out.tokens ≡ start ++ flat_map (one_found e reported) ds =
    c.in_ok-put_found-4.ensures.tokens
    ∙ ap (λ given. c.put_found-3.new.out.tokens ++ flat_map (found_if_on e reported FaultsAlone) given) c.of-between.ensures
    ∙ ap (λ ts. c.put_found-3.new.out.tokens ++ ts) (on_written e reported FaultsAlone between)
    ∙ ap (λ ts. ts ++ flat_map (one_found e reported) (shown_in FaultsAlone between)) most
    ∙ append_assoc start (flat_map (one_found e reported) front) (flat_map (one_found e reported) (shown_in FaultsAlone between))
    ∙ ap (λ ts. start ++ ts) (sym (flat_map-append (one_found e reported) front (shown_in FaultsAlone between))) in
    record {
      tokens =
          and_so c.put_tokens-3.result c.put_tokens-3.ensures.tokens
          (λ h.
          let written : c.put_tokens-3.new.out.tokens ≡ old ++ found_tokens e reported name why ds =
          rw (h, each, c.in_ok-put_reason.ensures.tokens, c.of.ensures, c.in_ok-put_tokens-2.ensures.tokens, c.in_ok-put_version.ensures.tokens, c.in_ok-put_tokens.ensures.tokens, c.as_str.ensures.value, c.in_ok-uri.ensures)
          (simp append_assoc refl) in
          written ∙ ap (λ ts. old ++ ts) (sym (found_written e reported name why ds)));
      before = c.put_tokens-3.ensures.before ∙ c.in_ok-put_found-4.ensures.before ∙ c.in_ok-put_found-3.ensures.before ∙ c.in_ok-put_found-2.ensures.before ∙ c.in_ok-put_found.ensures.before ∙ c.in_ok-put_reason.ensures.before ∙ c.in_ok-put_tokens-2.ensures.before ∙ c.in_ok-put_version.ensures.before ∙ c.in_ok-put_tokens.ensures.before;
    }
