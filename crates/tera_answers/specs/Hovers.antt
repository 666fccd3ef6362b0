-- What is shown for the name of a component in a text.
use Rattle.std.specs.Prelude.{◌≡◌, if◌then◌else◌, ℕ, List, codes, Option, None, Some}
use Rattle.json.specs.Json.{Json, null, string, object, no_members, member}
use Rattle.tera_outline.specs.Heads.{head_of}
use Rattle.tera_outline.specs.Names.{Named}
use Rattle.tera_outline.specs.Pieces.{Part, ArePartsOf}
use Rattle.tera_workspace.specs.Definitions.{DefinitionVal, definition_of_name}
use Rattle.tera_workspace.specs.declared.workspace.Workspace.{Workspace}
use Rattle.text_edits.specs.Documents.{text_of}
use Rattle.text_edits.specs.Stored.{document_of}
use Rattle.tera_answers.specs.Definitions.{is_component, place_of}
use Rattle.tera_editor.specs.Templates.{RootsVal}

-- the component that a name stands for, if it stands for one
abbrev pub component_in : Option Named → Option (List ℕ)
component_in None = None
component_in (Some n) = if is_component n.kind then Some n.text else None

-- the text of the file where a component is defined
abbrev pub text_at : Workspace → Option DefinitionVal → Option (List ℕ)
text_at w None = None
text_at w (Some d) = text_of (document_of w.documents d.file)

-- this is the head of the first definition of a component in a text, if it has one
abbrev pub IsHeadIn : Option (List ℕ) → List ℕ → Option (List ℕ) → Type 0
IsHeadIn None name head = head ≡ None
IsHeadIn (Some text) name head = (parts : List Part) × ArePartsOf text parts × (head ≡ head_of text parts name)

-- .. in the first file that defines the component
abbrev pub IsHeadBy : Workspace → Option (List ℕ) → Option (List ℕ) → Type 0
IsHeadBy w None head = head ≡ None
IsHeadBy w (Some name) head = IsHeadIn (text_at w (definition_of_name w name)) name head

-- .. of the component that a name stands for
abbrev pub IsHead : Workspace → Option Named → Option (List ℕ) → Type 0
IsHead w named head = IsHeadBy w (component_in named) head

-- the head as plain text; `null` if there is none
abbrev pub hover_json : Option (List ℕ) → Json
hover_json None = null
hover_json (Some head) =
    object (member (codes "contents")
    (object (member (codes "kind") (string (codes "plaintext")) (member (codes "value") (string head) no_members))) no_members)

-- ---- what holds of it

-- this is the head of a definition of the component, in the text of the file to which the name leads
pub record IsOfDefinition (w : Workspace) (roots : RootsVal) (named : Option Named) (reported : List ℕ) : Type 0 where
  pub name : List ℕ
  pub component : component_in named ≡ Some name
  pub place : DefinitionVal
  pub leads : place_of w roots named ≡ Some place
  pub head : IsHeadIn (text_of (document_of w.documents place.file)) name (Some reported)
