-- What may have been meant where something is found.
use Rattle.std.specs.Prelude.{ℕ, List, [], ◌∷◌, ◌++◌, if◌then◌else◌, Option, None, Some, codes, string_bytes}
use Rattle.std.specs.Borrow.{Bor}
use Rattle.std.specs.Option.{option_and_then, option_map}
use Rattle.tera_base.specs.declared.utils.Span.{Span}
use Rattle.tera_base.specs.declared.utils.Spanned.{Spanned}
use Rattle.tera_ast.specs.declared.ast.ComponentCall.{ComponentCall}
use Rattle.tera_findings.specs.Findings.{FindingVal, FoundAs}
use Rattle.tera_rules.specs.Judged.{KnownVal}
use Rattle.tera_check.specs.Named.{known_in}
use Rattle.tera_findings.specs.declared.finding.Kind.{Kind}
use Rattle.tera_findings.specs.declared.finding.Kind.TheVariants as kinds
use Rattle.tera_fixes.specs.Attributes.{AttributeVal, CallVal, attribute_at, call_at}
use Rattle.tera_fixes.specs.Meant.{meant}
use Rattle.tera_fixes.specs.Names.{component_names, free_parameters}
use Rattle.tera_fixes.specs.Parts.{argument_part, name_before, part_after, part_before}
use Rattle.tera_fixes.specs.declared.parts.Part.{Part}
use Rattle.tera_fixes.specs.declared.suggestions.Context.{Context}
use Rattle.tera_fixes.specs.declared.suggestions.Suggestion.{Suggestion}

-- one text that replaces each of some parts, and a title that says so
pub record SuggestionVal : Type 0 where
  pub title : List ℕ
  pub parts : List Part
  pub text : List ℕ

abbrev pub suggestion_view : Suggestion → SuggestionVal
suggestion_view s = record { title = string_bytes s.title; parts = s.parts.items; text = string_bytes s.text }

-- to write a name in place of the parts, each of which is a word
abbrev pub renaming : List Part → List ℕ → List ℕ → SuggestionVal
renaming parts word name =
    record { title = codes "Replace `" ++ (word ++ (codes "` with `" ++ (name ++ codes "`"))); parts = parts; text = name }

-- to remove an argument of this name
abbrev pub removal : List ℕ → Part → SuggestionVal
removal name part = record { title = codes "Remove this `" ++ (name ++ codes "`"); parts = part ∷ []; text = [] }

-- what is known around a finding: the components, by their names; the names; the calls and the text of the template
pub record ContextVal : Type 0 where
  pub known : List ℕ → Option KnownVal
  pub names : List (List ℕ)
  pub calls : List (Bor (Spanned ComponentCall))
  pub source : List ℕ

abbrev pub context_view : Context → ContextVal
context_view c = record { known = known_in c.catalogue.now; names = component_names c.catalogue.now; calls = c.calls.now; source = c.source.now }

-- ---- a component that no template defines

-- where the text has the name of a call: after its start, and if it has a body, before its end
abbrev pub with_last : Part → Option Part → Option (List Part)
with_last first last = option_map (λ p. first ∷ p ∷ []) last

abbrev pub name_parts : List ℕ → CallVal → Span → Option (List Part)
name_parts source c span =
    option_and_then (λ first. if c.is_closed then Some (first ∷ []) else with_last first (part_before source c.name span.range.end)) (part_after source c.name span.range.start)

abbrev pub renamed_call : ContextVal → Span → CallVal → Option SuggestionVal
renamed_call x span c = option_and_then (λ name. option_map (λ parts. renaming parts c.name name) (name_parts x.source c span)) (meant c.name x.names)

abbrev pub component_for : ContextVal → Span → Option SuggestionVal
component_for x span = option_and_then (renamed_call x span) (call_at x.calls span.range.start)

-- ---- an argument that its component does not have

abbrev pub meant_parameter : (List ℕ → Option KnownVal) → AttributeVal → Option (List ℕ)
meant_parameter known a = option_and_then (λ (k : KnownVal). meant a.name (free_parameters k.definition a.call)) (known a.call.name)

abbrev pub renamed_argument : ContextVal → ℕ → AttributeVal → Option SuggestionVal
renamed_argument x byte a =
    option_and_then (λ part. option_map (renaming (part ∷ []) a.name) (meant_parameter x.known a)) (name_before x.source a.name byte)

abbrev pub argument_for : ContextVal → Span → Option SuggestionVal
argument_for x span = option_and_then (renamed_argument x span.range.start) (attribute_at x.calls span.range.start)

-- ---- an argument that is given again

abbrev pub removed_argument : ContextVal → Span → AttributeVal → Option SuggestionVal
removed_argument x span a =
    option_and_then (λ (name : Part). option_map (removal a.name) (argument_part x.source name.start span.range.end))
    (name_before x.source a.name span.range.start)

abbrev pub removal_for : ContextVal → Span → Option SuggestionVal
removal_for x span = option_and_then (removed_argument x span) (attribute_at x.calls span.range.start)

-- ---- by the kind of the finding

abbrev pub suggestion_by : ContextVal → Kind → Span → Option SuggestionVal
suggestion_by x kinds.UndefinedComponent span = component_for x span
suggestion_by x kinds.UnknownArgument span = argument_for x span
suggestion_by x kinds.RepeatedArgument span = removal_for x span
suggestion_by x _ span = None

abbrev pub suggestion_of : ContextVal → FindingVal → Option SuggestionVal
suggestion_of x (FoundAs kind severity span text notes) = suggestion_by x kind span
