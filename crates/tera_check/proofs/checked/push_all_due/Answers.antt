use Rattle.std.proofs.Common.{◌≡◌, ◌∙◌, ◌++◌, [], Some, ap, filter, map, subst, append_assoc, OnOk}
use Rattle.std.specs.Option.{option_map_or}
use Rattle.tera_tree.specs.Outputs.{output_view}
use Rattle.tera_check.specs.Due.{due_among, due_findings, is_due}
use Rattle.tera_findings.specs.Findings.{finding_view}
use Rattle.tera_check.specs.Named.{known_in, tree_findings}
use Rattle.tera_templates.specs.Templates.{tree_of}
use Rattle.tera_check.specs.Silenced.{unused_ignores}
use Rattle.tera_check.proofs.checked.push_all_due.Goals as goal

pub returns-in_ok-push_unused_ignores-in-Some : goal.returns-in_ok-push_unused_ignores-in-Some
returns-in_ok-push_unused_ignores-in-Some c =
    let t = c.args.template.now in
    let open_text = c.args.is_open in
    let known = known_in c.args.catalogue.now in
    let old = map finding_view c.args.findings.now.items in
    let found = map finding_view c.in_ok-found-in-Some.found.items in
    let tree : Some c.in-Some.output.now ≡ tree_of t = c.in-Some.ensures in
    let due : due_among open_text t found ≡ due_findings known open_text c.args.number t =
    ap (due_among open_text t) c.in_ok-found-in-Some.ensures ∙ ap (λ r. option_map_or (λ o. due_among open_text t (tree_findings known c.args.number t (output_view o))) r []) tree in
    subst (λ fs. OnOk c.push_due.result (map finding_view c.push_due.new.findings.items ≡ fs))
    (ap (λ fs. fs ++ filter (is_due open_text t) found) c.in_ok-push_unused_ignores-in-Some.ensures
    ∙ append_assoc old (unused_ignores open_text t found) (filter (is_due open_text t) found)
    ∙ ap (λ fs. old ++ fs) due)
    c.push_due.ensures
