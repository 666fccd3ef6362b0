-- The rule `unused-component`: a component that no template calls.
use Rattle.std.specs.Prelude.{ℕ, suc, List, [], ◌∷◌, ◌++◌, Bool, true, false, ◌||◌, Result, Ok, Err, codes, if◌then◌else◌}
use Rattle.std.specs.List.{filter, list_any}
use Rattle.std.specs.Str.{bytes_eq}
use Rattle.tera_base.specs.declared.errors.Error.{Error}
use Rattle.tera_base.specs.declared.utils.Span.{Span}
use Rattle.tera_ast.specs.Tree.{Expr, ComponentCall}
use Rattle.tera_tree.specs.Outputs.{output_view}
use Rattle.tera_tree.specs.Tree.{Definition}
use Rattle.tera_tree.specs.declared.outputs.ParserOutput.{ParserOutput}
use Rattle.tera_check.specs.Added.{AreAdded}
use Rattle.tera_rules.specs.Calls.{calls_of}
use Rattle.tera_check.specs.Due.{is_due}
use Rattle.tera_findings.specs.Findings.{FindingVal, FindingOf}
use Rattle.tera_templates.specs.Templates.{definitions_of}
use Rattle.tera_check.specs.Named.{span_at}
use Rattle.tera_check.specs.Parameters.{may_be_unused}
use Rattle.tera_rules.specs.Registered.{has_name}
use Rattle.tera_findings.specs.declared.finding.Kind.TheVariants as kinds
use Rattle.tera_check.specs.declared.found.Found.{Found}
use Rattle.tera_templates.specs.declared.templates.Template.{Template}
use Rattle.tera_check.specs.declared.unused_components.Called.{Called}

-- it is a call of the component of this name
abbrev pub is_call_of : List ℕ → Expr → Bool
is_call_of n (ComponentCall name es body closed span) = bytes_eq name n
is_call_of n _ = false

-- A template may call the component: one of its calls is a call of it. What a template with a fault calls is not known.
abbrev pub may_call_by : List ℕ → Result ParserOutput Error → Bool
may_call_by n (Ok o) = list_any (is_call_of n) (calls_of (output_view o))
may_call_by n (Err e) = true

abbrev pub may_call : List ℕ → Template → Bool
may_call n t = may_call_by n t.parsed

-- one of the templates may
abbrev pub may_be_called : List Template → List ℕ → Bool
may_be_called ts n = list_any (may_call n) ts

-- the finding, at the name of the component
abbrev pub unused_component_text : List ℕ → List ℕ
unused_component_text name = codes "No template calls the component `" ++ (name ++ codes "`")

abbrev pub unused_component : List ℕ → Span → FindingVal
unused_component name span = FindingOf kinds.UnusedComponent span (unused_component_text name) []

-- for a component that no template may call, and whose name does not say that it may be unused
abbrev pub unused_component_if : (List ℕ → Bool) → List ℕ → Span → List FindingVal
unused_component_if called name span = if may_be_unused name || called name then [] else unused_component name span ∷ []

-- for these definitions, whose names are at these places, from a number on
abbrev pub unused_components : (List ℕ → Bool) → (ℕ → Span) → ℕ → List Definition → List FindingVal
unused_components called spans at [] = []
unused_components called spans at (d ∷ ds) =
    unused_component_if called d.name (spans at) ++ unused_components called spans (suc at) ds

-- what of that is due in a template, as for the other findings in its tree
abbrev pub due_unused_components : (List ℕ → Bool) → Template → List FindingVal
due_unused_components called t = filter (is_due false t) (unused_components called (span_at t) 0 (definitions_of t))

-- this, by what all templates may call, is added to what is found in the first of them
abbrev pub AreWithUnusedComponents : List Template → ℕ → List Found → List Found → Type 0
AreWithUnusedComponents ts = AreAdded (due_unused_components (may_be_called ts)) ts

-- ---- in the code

-- whether the component of a name may be called
abbrev pub is_called : Called → List ℕ → Bool
is_called c n = c.all || has_name c.names n
