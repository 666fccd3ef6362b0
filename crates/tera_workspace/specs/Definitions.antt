-- Where components are defined, and when queries are answered by the documents as they are.
use Rattle.std.specs.Prelude.{◌≡◌, ℕ, List, map, string_bytes, slice_get, Option, Some}
use Rattle.std.specs.List.{Contains}
use Rattle.std.specs.Option.{option_map}
use Rattle.text_edits.specs.declared.positions.Encoding.{Encoding}
use Rattle.text_edits.specs.declared.positions.Position.{Position}
use Rattle.tera_tree.specs.Tree.{Argument, Definition as TreeDefinition}
use Rattle.tera_rules.specs.Judged.{KnownVal}
use Rattle.tera_templates.specs.Templates.{definitions_of}
use Rattle.tera_check.specs.Named.{first_named, defined_by, span_at}
use Rattle.tera_rules.specs.Registered.{RegisteredVal}
use Rattle.tera_templates.specs.declared.templates.Template.{Template}
use Rattle.tera_workspace.specs.Components.{names_defined, components_by, parameters_by, files_by, components_of, parameters_of_name, files_of}
use Rattle.tera_workspace.specs.Diagnostics.{position_in}
use Rattle.tera_workspace.specs.Fresh.{AreTemplates}
use Rattle.tera_workspace.specs.Judgements.{IsJudgementIfAny, IsJudgementOf}
use Rattle.tera_workspace.specs.Kept.{sources_of, templates_of}
use Rattle.tera_workspace.specs.SiteValues.{KeptSiteVal}
use Rattle.tera_workspace.specs.Sites.{AreNamed, FitsWorkspace, named_of_name, templates_below}
use Rattle.tera_workspace.specs.Sources.{Source, AreSources, text_named}
use Rattle.tera_workspace.specs.Unregistered.{unknown_by, unknown_of_name}
use Rattle.tera_workspace.specs.declared.judgements.Judgement.{Judgement}
use Rattle.tera_workspace.specs.declared.queries.Definition.{Definition}
use Rattle.tera_workspace.specs.declared.queries.FileText.{FileText}
use Rattle.tera_workspace.specs.declared.workspace.Workspace.{Workspace}

-- a file, and the part of its text that is the name of a component in its definition
pub record DefinitionVal : Type 0 where
  pub file : List ℕ
  pub start : Position
  pub end : Position

abbrev pub definition_view : Definition → DefinitionVal
definition_view d = record { file = string_bytes d.file; start = d.start; end = d.end }

-- where a known component is defined, in documents with these texts
abbrev pub definition_at : Encoding → List Source → KnownVal → DefinitionVal
definition_at e sources k = record {
  file = k.file;
  start = position_in e (text_named k.file sources) k.span.range.start;
  end = position_in e (text_named k.file sources) k.span.range.end;
}

-- where the component of a name is defined: in the first document, by the order of the names, that defines it
abbrev pub definition_by : Encoding → List Source → List Template → List ℕ → Option DefinitionVal
definition_by e sources ts name = option_map (definition_at e sources) (first_named name (defined_by 0 ts))

-- what is found by the documents that were read
abbrev pub definition_of_name : Workspace → List ℕ → Option DefinitionVal
definition_of_name w name = definition_by w.encoding (sources_of w.judged.items) (templates_of w.judged.items) name

-- the documents that were read, with their texts
abbrev pub text_view : FileText → Source
text_view t = record { name = t.file.now; text = t.text.now }

abbrev pub texts_read : Workspace → List Source
texts_read w = sources_of w.judged.items

-- the documents were read as they are: the answers to queries are those by the texts of the documents, wherever these
-- are computed
pub record AreRead (w : Workspace) : Type 0 where
  pub sources : List Source
  pub are : AreSources w.documents sources
  pub templates : List Template
  pub read : AreTemplates sources templates
  pub definitions : (n : List ℕ) → definition_of_name w n ≡ definition_by w.encoding sources templates n
  pub texts : texts_read w ≡ sources
  pub components : components_of w ≡ components_by templates
  pub parameters : (n : List ℕ) → parameters_of_name w n ≡ parameters_by templates n
  pub there : files_of w ≡ files_by w.documents (map (λ s. s.name) sources)
  pub judgements : (n : List ℕ) (j : Option Judgement) → IsJudgementOf w n j → IsJudgementIfAny sources templates n j
  pub unknown : (r : RegisteredVal) (n : List ℕ) → unknown_of_name w r n ≡ unknown_by w.encoding sources templates r n
  pub named : (s : KeptSiteVal) → FitsWorkspace s w
      → AreNamed w.encoding sources (templates_below s.root w.documents templates) s.root s.others (named_of_name w s)

-- ---- what holds of the answers

-- the template defines a component of the name, and the name in one of its definitions is there
pub record IsDefinedIn (e : Encoding) (sources : List Source) (t : Template) (name : List ℕ) (d : DefinitionVal) : Type 0 where
  pub file : d.file ≡ string_bytes t.file
  pub at : ℕ
  pub named : slice_get (names_defined t) at ≡ Some name
  pub start : d.start ≡ position_in e (text_named d.file sources) (span_at t at).range.start
  pub end : d.end ≡ position_in e (text_named d.file sources) (span_at t at).range.end

-- one of these templates defines a component of the name that has this parameter
pub record IsParameterIn (ts : List Template) (name parameter : List ℕ) : Type 0 where
  pub template : Template
  pub among : Contains ts template
  pub definition : TreeDefinition
  pub at : ℕ
  pub here : slice_get (definitions_of template) at ≡ Some definition
  pub named : definition.name ≡ name
  pub argument : List ℕ × Argument
  pub there : Contains definition.arguments argument
  pub is : argument.0 ≡ parameter
