-- The components that templates define, by their names.
use Rattle.std.specs.Prelude.{ℕ, suc, List, [], ◌∷◌, ◌++◌, cond, Option, None, Some, String, string_bytes, slice_index_or}
use Rattle.std.specs.declared.alloc.Global.{Global}
use Rattle.std.specs.BTreeMap.{BTreeMap, get_by_text}
use Rattle.std.specs.Option.{option_map}
use Rattle.std.specs.Str.{bytes_eq}
use Rattle.tera_base.specs.declared.utils.Span.{Span}
use Rattle.std.specs.List.{flat_map}
use Rattle.tera_tree.specs.Tree.{Definition, Output}
use Rattle.tera_templates.specs.Templates.{definitions_of, shows_in}
use Rattle.tera_rules.specs.Calls.{calls_of}
use Rattle.tera_findings.specs.Findings.{FindingVal, first_span}
use Rattle.tera_rules.specs.Judged.{KnownVal, known_view, taken_by, call_findings, again_findings}
use Rattle.tera_check.specs.Parameters.{Taking, parameter_at, unused_in}
use Rattle.tera_rules.specs.Rules.{small_findings}
use Rattle.tera_rules.specs.declared.known.Known.{Known}
use Rattle.tera_templates.specs.declared.templates.Template.{Template}

-- what a catalogue has under a name
abbrev pub known_in : BTreeMap (String Global) Known → List ℕ → Option KnownVal
known_in catalogue n = option_map known_view (get_by_text catalogue n)

-- the span of the name of a template's component of a number, from 0; the start of the file if it is not known
abbrev pub span_at : Template → ℕ → Span
span_at t at = slice_index_or t.defined_at.items at first_span

abbrev pub known_at : ℕ → Template → ℕ → Definition → KnownVal
known_at number t at d = record {
  definition = d;
  template = number;
  file = string_bytes t.file;
  span = span_at t at;
  parameters = parameter_at t d.name;
  shows_body = shows_in t d.name;
}

-- the components of a template: these definitions, of which the first has this number
abbrev pub defined_from : ℕ → Template → ℕ → List Definition → List KnownVal
defined_from number t at [] = []
defined_from number t at (d ∷ ds) = known_at number t at d ∷ defined_from number t (suc at) ds

abbrev pub defined_in : ℕ → Template → List KnownVal
defined_in number t = defined_from number t 0 (definitions_of t)

-- the components of templates in order, of which the first has this number
abbrev pub defined_by : ℕ → List Template → List KnownVal
defined_by number [] = []
defined_by number (t ∷ ts) = defined_in number t ++ defined_by (suc number) ts

-- the first component of a name
abbrev pub first_named : List ℕ → List KnownVal → Option KnownVal
first_named n [] = None
first_named n (k ∷ ks) = cond (bytes_eq k.definition.name n) (Some k) (first_named n ks)

-- the first that there is
abbrev pub or_else : Option KnownVal → Option KnownVal → Option KnownVal
or_else None other = other
or_else (Some k) other = Some k

-- which variables a call of a component of a name may take by itself
abbrev pub taken_in : (List ℕ → Option KnownVal) → Taking
taken_in known name = taken_by (known name)

-- what is found in a template of a number, by what is known under each name: components that an earlier template
-- defines, parameters that are never used, the findings of calls, and those of each part by itself
abbrev pub tree_findings : (List ℕ → Option KnownVal) → ℕ → Template → Output → List FindingVal
tree_findings known number t o =
    again_findings known number (span_at t) 0 o.definitions
    ++ (flat_map (unused_in (taken_in known) (parameter_at t)) o.definitions
    ++ (flat_map (call_findings (string_bytes t.file) known) (calls_of o) ++ small_findings (string_bytes t.file) o))
