-- The rules on what the program registers: `unknown-filter`, `unknown-test` and `unknown-function`.
use Rattle.std.specs.Prelude.{◌++◌, ℕ, List, [], ◌∷◌, false, codes, if◌then◌else◌}
use Rattle.std.specs.List.{filter, flat_map}
use Rattle.std.specs.Option.{option_map_or}
use Rattle.tera_base.specs.declared.utils.Span.{Span}
use Rattle.tera_ast.specs.Tree.{Filter, Test, FunctionCall}
use Rattle.tera_tree.specs.Outputs.{output_view}
use Rattle.tera_tree.specs.Parts.{PartVal, ExpressionPart}
use Rattle.tera_tree.specs.Tree.{Output}
use Rattle.tera_check.specs.Added.{AreAdded}
use Rattle.tera_check.specs.Due.{is_due}
use Rattle.tera_findings.specs.Findings.{FindingVal, FindingOf}
use Rattle.tera_templates.specs.Templates.{tree_of}
use Rattle.tera_rules.specs.Registered.{RegisteredVal, has}
use Rattle.tera_rules.specs.Within.{parts_of}
use Rattle.tera_findings.specs.declared.finding.Kind.{Kind}
use Rattle.tera_findings.specs.declared.finding.Kind.TheVariants as kinds
use Rattle.tera_check.specs.declared.found.Found.{Found}
use Rattle.tera_rules.specs.declared.registered.Registry.{Registry}
use Rattle.tera_rules.specs.declared.registered.Registry.TheVariants as registries
use Rattle.tera_templates.specs.declared.templates.Template.{Template}

-- the finding that a name is not registered
abbrev pub unknown_kind : Registry → Kind
unknown_kind registries.Filters = kinds.UnknownFilter
unknown_kind registries.Tests = kinds.UnknownTest
unknown_kind registries.Functions = kinds.UnknownFunction

abbrev pub unknown_text : Registry → List ℕ → List ℕ
unknown_text registries.Filters name = codes "No filter is named `" ++ (name ++ codes "`")
unknown_text registries.Tests name = codes "No test is named `" ++ (name ++ codes "`")
unknown_text registries.Functions name = codes "No function is named `" ++ (name ++ codes "`")

abbrev pub unknown_if : RegisteredVal → Registry → List ℕ → Span → List FindingVal
unknown_if r registry name span =
    if has r registry name then [] else FindingOf (unknown_kind registry) span (unknown_text registry name) [] ∷ []

-- what these rules find in a part
abbrev pub unknown_in : RegisteredVal → PartVal → List FindingVal
unknown_in r (ExpressionPart (Filter e name args span)) = unknown_if r registries.Filters name span
unknown_in r (ExpressionPart (Test e name args span)) = unknown_if r registries.Tests name span
unknown_in r (ExpressionPart (FunctionCall name args span)) = unknown_if r registries.Functions name span
unknown_in r _ = []

-- .. and in all parts of a tree
abbrev pub unknown_findings : RegisteredVal → Output → List FindingVal
unknown_findings r o = flat_map (unknown_in r) (parts_of o)

-- what of that is due in a template, as for the other findings in its tree
abbrev pub due_unknown : RegisteredVal → Template → List FindingVal
due_unknown r t =
    option_map_or (λ o. filter (is_due false t) (unknown_findings r (output_view o))) (tree_of t) []

-- this is added to what is found in the first templates
abbrev pub AreWithUnknown : RegisteredVal → List Template → ℕ → List Found → List Found → Type 0
AreWithUnknown r = AreAdded (due_unknown r)
