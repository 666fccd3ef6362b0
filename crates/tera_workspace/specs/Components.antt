-- The components that documents define, their parameters, and the files that exist.
use Rattle.std.specs.Prelude.{ℕ, List, [], map, filter, is_some}
use Rattle.std.specs.List.{flat_map}
use Rattle.std.specs.Option.{option_map_or}
use Rattle.text_edits.specs.Documents.{text_of}
use Rattle.text_edits.specs.Stored.{document_of}
use Rattle.text_edits.specs.declared.documents.Documents.{Documents}
use Rattle.tera_rules.specs.Judged.{KnownVal}
use Rattle.tera_templates.specs.Templates.{definitions_of}
use Rattle.tera_check.specs.Named.{first_named, defined_by}
use Rattle.tera_templates.specs.declared.templates.Template.{Template}
use Rattle.tera_workspace.specs.Kept.{name_of, templates_of}
use Rattle.tera_workspace.specs.declared.workspace.Workspace.{Workspace}

-- the names of the components that a template defines, in order, and those that templates define
abbrev pub names_defined : Template → List (List ℕ)
names_defined t = map (λ d. d.name) (definitions_of t)

abbrev pub components_by : List Template → List (List ℕ)
components_by ts = flat_map names_defined ts

-- the parameters of a component that is known, in the byte order of their names
abbrev pub parameters_of : KnownVal → List (List ℕ)
parameters_of k = map (λ a. a.0) k.definition.arguments

-- the parameters under a name: those of its first definition, and none if it has no definition
abbrev pub parameters_by : List Template → List ℕ → List (List ℕ)
parameters_by ts name = option_map_or parameters_of (first_named name (defined_by 0 ts)) []

-- the files among these that exist
abbrev pub files_by : Documents → List (List ℕ) → List (List ℕ)
files_by ds files = filter (λ f. is_some (text_of (document_of ds f))) files

-- what is given by the documents that were read
abbrev pub components_of : Workspace → List (List ℕ)
components_of w = components_by (templates_of w.judged.items)

abbrev pub parameters_of_name : Workspace → List ℕ → List (List ℕ)
parameters_of_name w name = parameters_by (templates_of w.judged.items) name

abbrev pub files_of : Workspace → List (List ℕ)
files_of w = files_by w.documents (map name_of w.judged.items)
