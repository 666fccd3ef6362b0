use Rattle.std.proofs.Common.{◌≡◌, ◌++◌, map, string_bytes}
use Rattle.std.specs.BTreeSet.{contains_text}
use Rattle.std.specs.List.{flat_map}
use Rattle.tera_tree.specs.View.{argument_view}
use Rattle.tera_findings.specs.Findings.{finding_view}
use Rattle.tera_rules.specs.Judged.{known_view, remarked, missed, missing_findings}
use Rattle.tera_rules.proofs.arguments.push_missing.Given as goal

abbrev pub invariant-loop-name : goal.invariant-loop-name
invariant-loop-name l =
    map finding_view l.initial.findings.items ++ missing_findings (known_view l.known) (contains_text l.passed.under) l.span
    ≡ map finding_view l.findings.items
    ++ flat_map (λ a. remarked (known_view l.known) l.span (missed (contains_text l.passed.under) a)) (map (λ a. (string_bytes a.0, argument_view a.1)) l.name-iterator)
