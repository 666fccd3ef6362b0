use Rattle.std.proofs.Common.{◌∙◌, ◌++◌, ℕ, List, map, ap}
use Rattle.std.specs.List.{flat_map}
use Rattle.tera_tree.specs.Tree.{Argument}
use Rattle.tera_tree.specs.View.{definition_view}
use Rattle.tera_findings.specs.Findings.{FindingVal, finding_view}
use Rattle.tera_check.specs.Parameters.{parameter_at, unused_if}
use Rattle.tera_check.specs.Scopes.{is_named}
use Rattle.tera_check.proofs.ParametersLemmas.{argument_next}
use Rattle.tera_check.proofs.parameters.push_unused_arguments.Goals as goal

pub loop-name-preserved : goal.loop-name-preserved
loop-name-preserved c =
    let d = definition_view c.args.definition.now in
    let found : List ℕ × Argument → List FindingVal = λ a. unused_if d (is_named c.args.naming.now) (parameter_at c.args.template.now d.name) a.0 in
    let now = map finding_view c.loop-name.findings.items in
    argument_next found (map finding_view c.args.findings.now.items ++ flat_map found d.arguments) now (map finding_view c.push_if_unused.new.findings.items)
    c.loop-name.name-iterator c.next.new.self (c.in-Some.name.now, c.in-Some._argument.now) c.in-Some.ensures.steps c.loop-name.invariant
    (c.in_ok-push_if_unused.ensures ∙ ap (λ n. now ++ unused_if d (is_named c.args.naming.now) (parameter_at c.args.template.now d.name) n) c.as_str.ensures.value)
