-- Which findings of a tree are due, if a part of its text was written for faults.
use Rattle.std.specs.Prelude.{ℕ, ◌+◌, ◌-◌, ◌^◌, min, nat_le, nat_lt, unwrap_or, List, [], ◌++◌, Bool, true, false, not, ◌&&◌, ◌||◌, codes, length, string_bytes, Option, None, Some}
use Rattle.std.specs.BTreeSet.{keys}
use Rattle.std.specs.List.{filter, find, list_any}
use Rattle.std.specs.Option.{option_map_or}
use Rattle.tera_base.specs.declared.utils.Span.{Span}
use Rattle.tera_tree.specs.Outputs.{output_view}
use Rattle.tera_templates.specs.Boundaries.{is_same_part, text_at}
use Rattle.tera_findings.specs.Findings.{FindingVal, FoundAs}
use Rattle.tera_rules.specs.Judged.{KnownVal}
use Rattle.tera_templates.specs.Lost.{places_under}
use Rattle.tera_check.specs.Named.{tree_findings}
use Rattle.tera_templates.specs.Templates.{tree_of}
use Rattle.tera_check.specs.Silenced.{is_silenced, is_undefined_kind, unused_ignores}
use Rattle.tera_findings.specs.declared.finding.Kind.{Kind}
use Rattle.tera_findings.specs.declared.finding.Kind.TheVariants as kinds
use Rattle.tera_templates.specs.declared.mended.Mended.{Mended}
use Rattle.tera_templates.specs.declared.templates.Template.{Template}

-- the first byte that a finding is about, and the byte after the last; for a call only its `<`, as its body may have
-- faults
abbrev pub mark_by : Kind → Span → ℕ × ℕ
mark_by kinds.UndefinedComponent span = (span.range.start, min (span.range.start + 1) (2 ^ 64 - 1))
mark_by kinds.MissingArgument span = (span.range.start, min (span.range.start + 1) (2 ^ 64 - 1))
mark_by _ span = (span.range.start, span.range.end)

abbrev pub mark_of : FindingVal → ℕ × ℕ
mark_of (FoundAs kind severity span text notes) = mark_by kind span

-- the source has what the finding is about, at the same place as the text that was read
abbrev pub is_written : Mended → FindingVal → Bool
is_written m f = is_same_part (string_bytes m.source) (string_bytes m.text) (mark_of f)

-- the end of the definition that contains a byte of the text: the next word that ends one, or the end of the text
abbrev pub end_of_definition : Mended → ℕ → ℕ
end_of_definition m start = unwrap_or (find (λ at. nat_le start at) (keys m.ends)) (length (string_bytes m.text))

-- the word is lost somewhere between these bytes
abbrev pub is_lost_between : Mended → List ℕ → ℕ → ℕ → Bool
is_lost_between m word start end = list_any (λ at. nat_le start at && nat_lt at end) (places_under m.lost word)

-- what the source has at the span, if that is between characters
abbrev pub name_at : Mended → Span → Option (List ℕ)
name_at m span = text_at (string_bytes m.source) (span.range.start, span.range.end)

-- Whether something that was overwritten in the definition may name the parameter that is found to be unused: a word,
-- an `include`, the variable that shows all others, or a call.
abbrev pub is_lost_in : Mended → ℕ → List ℕ → Bool
is_lost_in m start word = is_lost_between m word start (end_of_definition m start)

abbrev pub may_name_by : Mended → ℕ → Option (List ℕ) → Bool
may_name_by m start None = true
may_name_by m start (Some name) =
    is_lost_in m start name || (is_lost_in m start (codes "include") || (is_lost_in m start (codes "__tera_context") || is_lost_in m start (codes "<")))

abbrev pub may_name : Mended → Span → Bool
may_name m span = may_name_by m span.range.start (name_at m span)

abbrev pub is_doubtful_by : Mended → Kind → Span → Bool
is_doubtful_by m kinds.UnusedParameter span = may_name m span
is_doubtful_by m _ span = false

abbrev pub is_doubtful : Mended → FindingVal → Bool
is_doubtful m (FoundAs kind severity span text notes) = is_doubtful_by m kind span

-- the finding is of a component that no template defines
abbrev pub is_undefined : FindingVal → Bool
is_undefined (FoundAs kind severity span text notes) = is_undefined_kind kind

-- A finding is due if no text with a fault can be its cause. So an undefined component is due if no text may define
-- more components; and in a text that was written for faults, a finding is due if the source has what it is about. What
-- an ignore silences is not due.
abbrev pub is_due_in : Option Mended → FindingVal → Bool
is_due_in None f = true
is_due_in (Some m) f = is_written m f && not (is_doubtful m f)

abbrev pub is_due : Bool → Template → FindingVal → Bool
is_due open_text t f = not (open_text && is_undefined f) && (is_due_in t.mended f && not (is_silenced t f))

-- what is due among the findings in the tree of a template, and its ignores that silence none of these
abbrev pub due_among : Bool → Template → List FindingVal → List FindingVal
due_among open_text t found = unused_ignores open_text t found ++ filter (is_due open_text t) found

-- what is due in a template of a number; nothing, if it has no tree
abbrev pub due_findings : (List ℕ → Option KnownVal) → Bool → ℕ → Template → List FindingVal
due_findings known open_text number t =
    option_map_or (λ o. due_among open_text t (tree_findings known number t (output_view o))) (tree_of t) []
