-- What is suggested for the findings of a template.
use Rattle.std.specs.Prelude.{◌≡◌, ℕ, ◌-◌, List, [], ◌∷◌, Bool, true, false, ◌&&◌, filter, if◌then◌else◌, length, map, nat_lt, Option, None, Some, String}
use Rattle.std.specs.declared.alloc.Global.{Global}
use Rattle.std.specs.Borrow.{Bor}
use Rattle.std.specs.BTreeMap.{BTreeMap}
use Rattle.tera_base.specs.declared.utils.Spanned.{Spanned}
use Rattle.tera_ast.specs.declared.ast.ComponentCall.{ComponentCall}
use Rattle.tera_tree.specs.Outputs.{output_view}
use Rattle.tera_tree.specs.declared.outputs.ParserOutput.{ParserOutput}
use Rattle.tera_rules.specs.Calls.{calls_of}
use Rattle.tera_findings.specs.Findings.{finding_view}
use Rattle.tera_check.specs.Named.{known_in}
use Rattle.tera_templates.specs.Templates.{tree_of}
use Rattle.tera_rules.specs.Pending.{seen}
use Rattle.tera_rules.specs.declared.known.Known.{Known}
use Rattle.tera_findings.specs.declared.finding.Finding.{Finding}
use Rattle.tera_findings.specs.declared.finding.Kind.{Kind}
use Rattle.tera_findings.specs.declared.finding.Kind.TheVariants as kinds
use Rattle.tera_templates.specs.declared.templates.Template.{Template}
use Rattle.tera_fixes.specs.Names.{component_names}
use Rattle.tera_fixes.specs.Suggestions.{ContextVal, SuggestionVal, suggestion_of}

-- something may be suggested for a finding of the kind
abbrev pub is_suggestible : Kind → Bool
is_suggestible kinds.UndefinedComponent = true
is_suggestible kinds.UnknownArgument = true
is_suggestible kinds.RepeatedArgument = true
is_suggestible _ = false

-- .. and so many more findings may have a suggestion
abbrev pub gets_suggestion : ℕ → Kind → Bool
gets_suggestion left kind = nat_lt 0 left && is_suggestible kind

-- what is suggested for each finding: for the first of such findings, at most so many
abbrev pub suggested : ContextVal → ℕ → List Finding → List (Option SuggestionVal)
suggested x left [] = []
suggested x left (f ∷ fs) =
    if gets_suggestion left f.kind then suggestion_of x (finding_view f) ∷ suggested x (left - 1) fs else None ∷ suggested x left fs

-- more of the findings may have a suggestion than get one
abbrev pub are_too_many : List Finding → Bool
are_too_many findings = nat_lt 100 (length (filter (λ f. is_suggestible f.kind) findings))

-- the calls are those of the tree of a template; none, if it has no tree
abbrev pub AreCallsIn : Option ParserOutput → List (Bor (Spanned ComponentCall)) → Type 0
AreCallsIn None calls = calls ≡ []
AreCallsIn (Some o) calls = map seen calls ≡ calls_of (output_view o)

-- .. with the calls of a template
pub record AreSuggestedIn (catalogue : BTreeMap (String Global) Known) (t : Template) (source : List ℕ) (findings : List Finding) (suggestions : List (Option SuggestionVal)) : Type 0 where
  pub calls : List (Bor (Spanned ComponentCall))
  pub are : AreCallsIn (tree_of t) calls
  pub suggestions_are : suggestions ≡ suggested (record { known = known_in catalogue; names = component_names catalogue; calls = calls; source = source }) 100 findings
