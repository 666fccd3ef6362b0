-- What is found in a document by what the program registers.
use Rattle.std.specs.Prelude.{ℕ, List, [], Bool, map, string_bytes}
use Rattle.std.specs.List.{find}
use Rattle.std.specs.Option.{option_map_or}
use Rattle.std.specs.Str.{bytes_eq}
use Rattle.tera_rules.specs.Registered.{RegisteredVal}
use Rattle.tera_check.specs.Unknown.{due_unknown}
use Rattle.tera_templates.specs.declared.templates.Template.{Template}
use Rattle.text_edits.specs.declared.positions.Encoding.{Encoding}
use Rattle.tera_workspace.specs.Diagnostics.{DiagnosticVal, diagnostic_of}
use Rattle.tera_workspace.specs.Kept.{sources_of, templates_of}
use Rattle.tera_workspace.specs.Sources.{Source, text_named}
use Rattle.tera_workspace.specs.declared.workspace.Workspace.{Workspace}

-- the filters, tests and functions of a template that are not registered, with positions in its text
abbrev pub unknown_in : Encoding → List Source → RegisteredVal → List ℕ → Template → List DiagnosticVal
unknown_in e sources r text t = map (diagnostic_of e sources text) (due_unknown r t)

-- .. of the template in the file of a name; nothing, if there is none
abbrev pub is_of_file : List ℕ → Template → Bool
is_of_file n t = bytes_eq (string_bytes t.file) n

abbrev pub unknown_by : Encoding → List Source → List Template → RegisteredVal → List ℕ → List DiagnosticVal
unknown_by e sources ts r n = option_map_or (unknown_in e sources r (text_named n sources)) (find (is_of_file n) ts) []

-- what is found by the documents that were read
abbrev pub unknown_of_name : Workspace → RegisteredVal → List ℕ → List DiagnosticVal
unknown_of_name w r n = unknown_by w.encoding (sources_of w.judged.items) (templates_of w.judged.items) r n
