-- The layout of a text, as edits.
use Rattle.std.specs.Prelude.{◌≡◌, ◌⊎◌, ℕ, List, Bool, true, false, All, map, Option, None, Some}
use Rattle.json.specs.Json.{Json, null, array}
use Rattle.json.specs.Token.{Token}
use Rattle.json.specs.Tree.{json_tokens}
use Rattle.json.specs.Value.{items_of}
use Rattle.tera_grammar.specs.Limits.{usual}
use Rattle.tera_grammar.specs.statements.Top.{Derives}
use Rattle.tera_layout.specs.Layout.{laid_out}
use Rattle.tera_lexer.specs.grammar.Marks.{Marks}
use Rattle.tera_outline.specs.Edits.{applied, AreApart, ReplacesWhite}
use Rattle.tera_outline.specs.declared.edits.Edit.{Edit}
use Rattle.tera_tree.specs.Tree.{Output}
use Rattle.text_edits.specs.declared.positions.Encoding.{Encoding}
use Rattle.protocol_values.specs.Writing.{edit_json as edit_between}
use Rattle.tera_answers.specs.Positions.{position_at}

-- an edit of a text
abbrev pub edit_json : Encoding → List ℕ → Edit → Json
edit_json e text edit = edit_between (position_at e text edit.start) (position_at e text edit.end) edit.text.now

-- its tokens
unfoldable pub edit_tokens : Encoding → List ℕ → Edit → List Token
edit_tokens e text edit = json_tokens (edit_json e text edit)

-- edits of white space that turn the old text into the new one, in order and without overlap
pub record AreEdits (old new : List ℕ) (edits : List Edit) : Type 0 where
  pub applied_are : applied edits old ≡ new
  pub apart : AreApart edits
  pub white : All (ReplacesWhite old) edits

-- edits to the layout of a text; `null` if it has none
abbrev pub IsLayoutOf : Encoding → List ℕ → Option (List ℕ) → Json → Type 0
IsLayoutOf e text None j = j ≡ null
IsLayoutOf e text (Some layout) j =
    (edits : List Edit) × AreEdits text layout edits × (j ≡ array (items_of (map (edit_json e text) edits)))

-- the text is a template between markers, within the usual limits
abbrev pub IsTemplate : Marks → List ℕ → Type 0
IsTemplate m text = (tree : Output) × Derives usual m text tree

-- the layout of a text, if it is a template; a text with a fault has none
abbrev pub IsLaidOut : Marks → List ℕ → Option (List ℕ) → Type 0
IsLaidOut m text None = ¬ (IsTemplate m text) ⊎ (laid_out m text ≡ None)
IsLaidOut m text (Some layout) = IsTemplate m text × (laid_out m text ≡ Some layout)

abbrev pub IsLayout : Marks → Encoding → List ℕ → Json → Type 0
IsLayout m e text j = (layout : Option (List ℕ)) × IsLaidOut m text layout × IsLayoutOf e text layout j

-- between markers that are not steady there is none
abbrev pub IsLayoutIf : Bool → Marks → Encoding → List ℕ → Json → Type 0
IsLayoutIf true m e text j = IsLayout m e text j
IsLayoutIf false m e text j = j ≡ null
