use Rattle.std.proofs.Common.{◌≡◌, ◌∙◌, ◌++◌, false, map, ap, subst, append_assoc, OnOk}
use Rattle.std.specs.List.{flat_map}
use Rattle.tera_ast.specs.View.{nodes_of}
use Rattle.tera_tree.specs.View.{definition_view}
use Rattle.tera_findings.specs.Findings.{finding_view}
use Rattle.tera_check.specs.Named.{known_in, taken_in}
use Rattle.tera_check.specs.Parameters.{named_in_nodes, parameter_at, unused_if, unused_of, unused_rest}
use Rattle.tera_check.specs.Scopes.{is_named}
use Rattle.tera_check.proofs.parameters.push_unused.Goals as goal

pub returns : goal.returns
returns c =
    let d = definition_view c.args.definition.now in
    let at = parameter_at c.args.template.now d.name in
    let old = map finding_view c.args.findings.now.items in
    let named = is_named c.in_ok-naming.naming in
    let all : named ≡ (λ n. named_in_nodes (taken_in (known_in c.args.catalogue.now)) false n (nodes_of d.body)) = λ i n. c.in_ok-naming.ensures n i in
    subst (λ fs. OnOk c.push_unused_rest.result (map finding_view c.push_unused_rest.new.findings.items ≡ fs))
    (ap (λ fs. fs ++ unused_rest d named at d.rest) c.in_ok-push_unused_arguments.ensures
    ∙ append_assoc old (flat_map (λ a. unused_if d named at a.0) d.arguments) (unused_rest d named at d.rest)
    ∙ ap (λ p. old ++ unused_of d p at) all)
    c.push_unused_rest.ensures
