-- What may be typed at a place of a text.
use Rattle.std.specs.Prelude.{◌≡◌, ◌++◌, ℕ, Bool, true, false, List, [], ◌∷◌, codes, length, map, filter, Option, None, Some, option_map}
use Rattle.std.specs.List.{filter_map, find}
use Rattle.std.specs.Option.{option_map_or}
use Rattle.json.specs.Json.{Json, null, string, array, object, no_members, member}
use Rattle.json.specs.Token.{Token}
use Rattle.json.specs.Tree.{json_tokens}
use Rattle.json.specs.Value.{items_of}
use Rattle.protocol_values.specs.Writing.{edit_json, number_json}
use Rattle.tera_lexer.specs.grammar.Words.{statement_words}
use Rattle.tera_outline.specs.Bound.{bound_of}
use Rattle.tera_outline.specs.Completions.{completion_at, slot_of}
use Rattle.tera_outline.specs.Names.{Named, names_of, holds}
use Rattle.tera_outline.specs.Pieces.{Part, ArePartsOf}
use Rattle.tera_outline.specs.declared.completions.Completion.{Completion}
use Rattle.tera_outline.specs.declared.completions.CompletionKind.{CompletionKind}
use Rattle.tera_outline.specs.declared.completions.CompletionKind.TheVariants.{Statement, Component, Template, Argument, Filter, Test, Operand}
use Rattle.tera_outline.specs.declared.names.NameKind.{NameKind}
use Rattle.tera_outline.specs.declared.names.NameKind.TheVariants.{Defined}
use Rattle.tera_tree.specs.Calls.{once_each}
use Rattle.tera_workspace.specs.Components.{components_of, parameters_of_name, files_of}
use Rattle.tera_workspace.specs.declared.workspace.Workspace.{Workspace}
use Rattle.text_edits.specs.Lines.{lines_of}
use Rattle.text_edits.specs.Positions.{byte_of}
use Rattle.text_edits.specs.declared.positions.Encoding.{Encoding}
use Rattle.text_edits.specs.declared.positions.Position.{Position}
use Rattle.tera_answers.specs.Positions.{position_at}
use Rattle.tera_editor.specs.Settings.{RegisteredVal}
use Rattle.tera_editor.specs.Templates.{RootsVal, template_name}

-- the names in a text that stand for a definition there
abbrev pub is_defined : NameKind → Bool
is_defined Defined = true
is_defined kind = false

abbrev pub defined_names : List Named → List (List ℕ)
defined_names named = map (λ n. n.text) (filter (λ n. is_defined n.kind) named)

-- the variables of a loop
abbrev pub loop_names : List (List ℕ)
loop_names = codes "loop.first" ∷ codes "loop.index" ∷ codes "loop.index0" ∷ codes "loop.last" ∷ codes "loop.length" ∷ []

-- the names of a kind that may be typed, by the documents, by what templates have their names, by the names that the program
-- registers, and by these names and variables of the text
abbrev pub offered : Workspace → RootsVal → RegisteredVal → List Named → List (List ℕ) → CompletionKind → List (List ℕ)
offered w roots r named bound Statement = statement_words
offered w roots r named bound Component = components_of w ++ defined_names named
offered w roots r named bound Template = filter_map (template_name roots) (files_of w)
offered w roots r named bound Filter = r.filters
offered w roots r named bound Test = r.tests
offered w roots r named bound Operand = (loop_names ++ bound) ++ r.functions
offered w roots r named bound (Argument call) = option_map_or (λ n. parameters_of_name w n.text) (find (holds call) named) []

-- the numbers that the protocol has for a keyword, a class, a file, a function, a variable and a field
abbrev pub kind_number : CompletionKind → ℕ
kind_number Statement = 14
kind_number Component = 7
kind_number Template = 17
kind_number Filter = 3
kind_number Test = 3
kind_number Operand = 6
kind_number (Argument call) = 5

-- a name that may be typed, as it is sent: it replaces what is between two positions
abbrev pub item_json : Position → Position → ℕ → List ℕ → Json
item_json start end kind name =
    object (member (codes "label") (string name)
    (member (codes "kind") (number_json kind)
    (member (codes "textEdit") (edit_json start end name) no_members)))

unfoldable pub item_tokens : Position → Position → ℕ → List ℕ → List Token
item_tokens start end kind name = json_tokens (item_json start end kind name)

-- names in byte order, each once
abbrev pub items_json : Position → Position → ℕ → List (List ℕ) → Json
items_json start end kind names = array (items_of (map (item_json start end kind) (once_each names)))

-- at a byte of a text with these parts: the typed part of a name there is replaced; `null` if nothing may be typed
abbrev pub completion_json : Encoding → Workspace → RootsVal → RegisteredVal → List ℕ → List Named → List (List ℕ) → ℕ → Option Completion → Json
completion_json e w roots r text named bound byte None = null
completion_json e w roots r text named bound byte (Some c) =
    items_json (position_at e text c.start) (position_at e text byte) (kind_number c.kind) (offered w roots r named bound c.kind)

abbrev pub completion_of : Encoding → Workspace → RootsVal → RegisteredVal → List ℕ → List Part → ℕ → Json
completion_of e w roots r text parts byte =
    completion_json e w roots r text (names_of parts) (bound_of parts) byte (option_map (completion_at byte) (slot_of (length text) byte parts))

-- at a position of a text
abbrev pub IsCompletion : Encoding → Workspace → RootsVal → RegisteredVal → List ℕ → Position → Json → Type 0
IsCompletion e w roots r text p j =
    (parts : List Part) × ArePartsOf text parts × (j ≡ completion_of e w roots r text parts (byte_of e (lines_of text) p))
