-- Where what is named in a text is defined.
use Rattle.std.specs.Prelude.{◌≡◌, if◌then◌else◌, ℕ, List, Bool, true, false, Option, None, Some}
use Rattle.std.specs.List.{find}
use Rattle.std.specs.Option.{option_map}
use Rattle.json.specs.Json.{Json, null}
use Rattle.tera_outline.specs.Names.{Named, names_of, holds}
use Rattle.tera_outline.specs.Pieces.{Part, ArePartsOf}
use Rattle.tera_outline.specs.declared.names.NameKind.{NameKind}
use Rattle.tera_outline.specs.declared.names.NameKind.TheVariants.{Called, Closed, Defined, Extended, Included}
use Rattle.text_edits.specs.Lines.{lines_of}
use Rattle.text_edits.specs.Positions.{byte_of}
use Rattle.text_edits.specs.declared.positions.Encoding.{Encoding}
use Rattle.text_edits.specs.declared.positions.Position.{Position}
use Rattle.protocol_values.specs.Writing.{location_json}
use Rattle.tera_workspace.specs.Components.{files_of}
use Rattle.tera_workspace.specs.Definitions.{DefinitionVal, definition_of_name}
use Rattle.tera_workspace.specs.declared.workspace.Workspace.{Workspace}
use Rattle.tera_editor.specs.Editors.{seen_of, uri_in}
use Rattle.tera_editor.specs.Templates.{RootsVal, template_in}
use Rattle.tera_editor.specs.declared.editor.Editor.{Editor}

-- the name at a position of a text, if one is there
abbrev pub IsNamedAt : Encoding → List ℕ → Position → Option Named → Type 0
IsNamedAt e text p named =
    (parts : List Part) × ArePartsOf text parts × (named ≡ find (holds (byte_of e (lines_of text) p)) (names_of parts))

-- the beginning of a file
abbrev pub first_of : List ℕ → DefinitionVal
first_of file = record { file = file; start = record { line = 0; character = 0 }; end = record { line = 0; character = 0 } }

-- the name of a template leads to the file that has it
abbrev pub template_place : Workspace → RootsVal → List ℕ → Option DefinitionVal
template_place w roots name = option_map first_of (template_in roots (files_of w) name)

-- whether a name stands for a component; else it stands for a template
abbrev pub is_component : NameKind → Bool
is_component Called = true
is_component Closed = true
is_component Defined = true
is_component Extended = false
is_component Included = false

-- what a name leads to
abbrev pub place_by : NameKind → Workspace → RootsVal → List ℕ → Option DefinitionVal
place_by kind w roots name = if is_component kind then definition_of_name w name else template_place w roots name

abbrev pub place_of : Workspace → RootsVal → Option Named → Option DefinitionVal
place_of w roots None = None
place_of w roots (Some n) = place_by n.kind w roots n.text

-- the place as a location; `null` if the name leads nowhere
abbrev pub place_json : Editor → Option DefinitionVal → Json
place_json e None = null
place_json e (Some d) = location_json (uri_in d.file (seen_of e d.file)) d.start d.end
