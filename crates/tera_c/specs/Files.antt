-- Files that are asked about, and the templates that are read of them.
use Rattle.std.specs.Prelude.{◌≡◌, ℕ, List, [], ◌∷◌, None, IfOk, IfErr, IfSome, MatchOption, MatchResult, map, string_bytes, IsUtf8}
use Rattle.std.specs.List.{All}
use Rattle.tera_templates.specs.Mended.{IsMended, text_of}
use Rattle.tera_templates.specs.Templates.{tree_of}
use Rattle.tera_templates.specs.declared.templates.Template.{Template}
use Rattle.tera_grammar.specs.Limits.{usual}
use Rattle.tera_grammar.specs.statements.Places.{Places}
use Rattle.tera_grammar.specs.statements.Reading.Meeting.{group_all, nothing_grouped}
use Rattle.tera_grammar.specs.statements.Top.{Derives, DerivesNames}
use Rattle.tera_lexer.specs.grammar.Marks.{default_marks}
use Rattle.tera_parser.specs.Notes.{NotesName}
use Rattle.tera_parser.specs.Refusal.{LosesSource, Refuses}
use Rattle.tera_tags.specs.Known.{grouped_of}
use Rattle.tera_tree.specs.Outputs.{output_view}
use Rattle.tera_tree.specs.Tree.{Output}
use Rattle.tera_c.specs.declared.shapes.AskedFile.{AskedFile}
use Rattle.tera_c.specs.declared.status.Status.{Status}
use Rattle.tera_c.specs.declared.status.Status.TheVariants.{Written, Short, Faulty, Nothing}
use Rattle.tera_c.specs.declared.status.Status.TheVariants.{NotUtf8, BadMarkers, BadLimits, Memory}

-- the name and the source of a file are texts
abbrev pub IsText : AskedFile → Type 0
IsText file = IsUtf8 file.name.now × IsUtf8 file.source.now

-- A template is that of a file: it has the name of the file, and the tree of the source or a fault, which a source with a
-- tree has not. What a source with faults is read as has at most so many of them, and what a template defines is at the
-- places of the text that was read.
pub record IsReadFrom (faults : ℕ) (file : AskedFile) (template : Template) : Type 0 where
  pub text : IsText file
  pub named : string_bytes template.file ≡ file.name.now
  pub sound : IfOk template.parsed (λ o. Derives usual default_marks file.source.now (output_view o))
  pub complete : (output : Output) → Derives usual default_marks file.source.now output →
      MatchResult template.parsed (λ o. output_view o ≡ output) (λ _. ⊥)
  pub refusal : IfErr template.parsed (Refuses default_marks file.source.now)
  pub lost : IfErr template.parsed (LosesSource usual default_marks file.source.now)
  pub notes : IfErr template.parsed (NotesName file.name.now)
  pub whole : IfOk template.parsed (λ _. template.mended ≡ None)
  pub mended : IfSome template.mended (IsMended file.name.now file.source.now faults)
  pub places : MatchOption (tree_of template)
      ((template.defined_at.items ≡ []) × (grouped_of template.parameters_at ≡ nothing_grouped))
      (λ o. (names : Places)
      × DerivesNames usual default_marks (text_of file.source.now template) (output_view o) names
      × (template.defined_at.items ≡ map (λ n. n.span) names.components)
      × (grouped_of template.parameters_at ≡ group_all names.parameters nothing_grouped))

-- templates are those of files, one of each, in the same order
abbrev pub AreReadFrom : ℕ → List AskedFile → List Template → Type 0
AreReadFrom faults [] [] = Unit {0}
AreReadFrom faults [] (template ∷ templates) = ⊥
AreReadFrom faults (file ∷ files) [] = ⊥
AreReadFrom faults (file ∷ files) (template ∷ templates) =
    IsReadFrom faults file template × AreReadFrom faults files templates

-- why no template is read: what is read is not a text; or an allocation failed
abbrev pub IsUnreadBy : Type 0 → Status → Type 0
IsUnreadBy IsRead Written = ⊥
IsUnreadBy IsRead Short = ⊥
IsUnreadBy IsRead Faulty = ⊥
IsUnreadBy IsRead Nothing = ⊥
IsUnreadBy IsRead NotUtf8 = IsRead → ⊥
IsUnreadBy IsRead BadMarkers = ⊥
IsUnreadBy IsRead BadLimits = ⊥
IsUnreadBy IsRead Memory = Unit {0}

abbrev pub IsUnreadFile : AskedFile → Status → Type 0
IsUnreadFile file = IsUnreadBy (IsText file)

abbrev pub IsUnread : List AskedFile → Status → Type 0
IsUnread files = IsUnreadBy (All IsText files)
