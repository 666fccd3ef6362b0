-- Which findings the ignores of a template silence, and which ignores silence none.
use Rattle.std.specs.Prelude.{◌≡◌, ◌↔◌, ◌+◌, ◌-◌, ◌^◌, min, ℕ, List, [], ◌++◌, Bool, true, false, not, ◌&&◌, ◌||◌, ◌==◌, if◌then◌else◌, codes, length, map, String, Option}
use Rattle.std.specs.declared.alloc.Global.{Global}
use Rattle.std.specs.BTreeMap.{BTreeMap}
use Rattle.std.specs.BTreeSet.{BTreeSet}
use Rattle.std.specs.List.{Contains, filter, find, list_any}
use Rattle.std.specs.Option.{is_some, option_map_or}
use Rattle.std.specs.Str.{bytes_eq}
use Rattle.tera_findings.specs.Findings.{FindingVal, FindingOf, FoundAs, all_kinds, depends_on_others, kind_name}
use Rattle.tera_templates.specs.Ignores.{IgnoreVal, ignores_view}
use Rattle.tera_templates.specs.Lost.{places_under}
use Rattle.tera_findings.specs.declared.finding.Kind.{Kind}
use Rattle.tera_findings.specs.declared.finding.Kind.TheVariants as kinds
use Rattle.tera_templates.specs.declared.templates.Template.{Template}

-- the line after a comment
abbrev pub next_line : IgnoreVal → ℕ
next_line i = min (i.span.end_line + 1) (2 ^ 64 - 1)

-- An ignore covers the line on which its comment begins, and if that is alone on its lines, the line after it.
abbrev pub covers : IgnoreVal → ℕ → Bool
covers i line = (i.span.start_line == line) || (i.alone && (next_line i == line))

-- it covers the line for a rule, and a finding of the rule that begins on the line
abbrev pub silences_at : IgnoreVal → List ℕ → ℕ → Bool
silences_at i rule line = bytes_eq i.rule rule && covers i line

abbrev pub silences : IgnoreVal → FindingVal → Bool
silences i (FoundAs kind severity span text notes) = silences_at i (kind_name kind) span.start_line

-- one of the ignores does
abbrev pub is_silenced_at : List IgnoreVal → List ℕ → ℕ → Bool
is_silenced_at is rule line = list_any (λ i. silences_at i rule line) is

abbrev pub is_silenced : Template → FindingVal → Bool
is_silenced t f = list_any (λ i. silences i f) (ignores_view t.ignores.items)

-- ---- ignores that silence nothing

-- the kind whose word is the rule
abbrev pub kind_named : List ℕ → Option Kind
kind_named rule = find (λ kind. bytes_eq (kind_name kind) rule) all_kinds

abbrev pub is_undefined_kind : Kind → Bool
is_undefined_kind kinds.UndefinedComponent = true
is_undefined_kind _ = false

-- if the template has no fault, all findings of the kind are known; `open_text`: a text may define more components
abbrev pub is_known_kind : Bool → Kind → Bool
is_known_kind open_text kind = not (depends_on_others kind) && not (open_text && is_undefined_kind kind)

-- an ignore can be reported then, and also if its rule does not exist
abbrev pub is_judged : Bool → List ℕ → Bool
is_judged open_text rule = option_map_or (is_known_kind open_text) (kind_named rule) true

abbrev pub is_unused : Bool → List FindingVal → IgnoreVal → Bool
is_unused open_text found i = is_judged open_text i.rule && not (list_any (silences i) found)

-- the finding, at the comment
abbrev pub no_finding_text : List ℕ → List ℕ
no_finding_text rule = codes "This comment silences no finding of the rule `" ++ (rule ++ codes "`")

abbrev pub no_rule_text : List ℕ → List ℕ
no_rule_text rule = codes "No rule is named `" ++ (rule ++ codes "`")

abbrev pub missing_rule_text : List ℕ
missing_rule_text = codes "The name of a rule is missing"

abbrev pub not_a_rule_text : List ℕ → List ℕ
not_a_rule_text rule = if length rule == 0 then missing_rule_text else no_rule_text rule

abbrev pub unused_ignore_text : List ℕ → List ℕ
unused_ignore_text rule = if is_some (kind_named rule) then no_finding_text rule else not_a_rule_text rule

abbrev pub unused_ignore : IgnoreVal → FindingVal
unused_ignore i = FindingOf kinds.UnusedIgnore i.span (unused_ignore_text i.rule) []

-- the findings in a template without a fault, from all that is found in its tree
abbrev pub unused_among : Bool → List FindingVal → List IgnoreVal → List FindingVal
unused_among open_text found is = map unused_ignore (filter (is_unused open_text found) is)

abbrev pub unused_ignores : Bool → Template → List FindingVal → List FindingVal
unused_ignores open_text t found = if is_some t.mended then [] else unused_among open_text found (ignores_view t.ignores.items)

-- ---- lines under the words for rules: those that ignores cover, and those on which findings begin

abbrev pub Lines : Type 0
Lines = BTreeMap (String Global) (BTreeSet ℕ)

abbrev pub AreLinesOf : (List ℕ → ℕ → Bool) → Lines → Type 0
AreLinesOf has lines = (rule : List ℕ) (line : ℕ) → Contains (places_under lines rule) line ↔ (has rule line ≡ true)

-- a finding of the rule begins on the line
abbrev pub begins_at : List ℕ → ℕ → FindingVal → Bool
begins_at rule line (FoundAs kind severity span text notes) = bytes_eq rule (kind_name kind) && (line == span.start_line)

abbrev pub has_finding_at : List FindingVal → List ℕ → ℕ → Bool
has_finding_at found rule line = list_any (begins_at rule line) found
