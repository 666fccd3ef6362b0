-- The actions for what is found in a part of a document.
use Rattle.std.specs.Prelude.{◌≡◌, ◌&&◌, ℕ, List, [], ◌∷◌, Bool, true, false, codes, map, nat_le, string_bytes, Option, None, Some}
use Rattle.std.specs.List.{filter, filter_map, list_any}
use Rattle.std.specs.Option.{option_map, option_map_or}
use Rattle.json.specs.Find.{as_str}
use Rattle.json.specs.Json.{Json, boolean, string, array, object, no_items, no_members, member}
use Rattle.json.specs.Token.{Token}
use Rattle.json.specs.Tree.{json_tokens}
use Rattle.json.specs.Value.{items_of}
use Rattle.protocol_values.specs.Members.{array_in, member_of}
use Rattle.protocol_values.specs.Writing.{edit_json}
use Rattle.tera_findings.specs.declared.finding.Finding.{Finding}
use Rattle.tera_fixes.specs.All.{AreSuggestedIn}
use Rattle.tera_fixes.specs.Suggestions.{SuggestionVal}
use Rattle.tera_fixes.specs.declared.parts.Part.{Part}
use Rattle.tera_lexer.specs.grammar.Words.{is_one_of}
use Rattle.tera_workspace.specs.Judgements.{IsJudgementOf}
use Rattle.tera_workspace.specs.Sources.{Source}
use Rattle.tera_workspace.specs.declared.judgements.Judgement.{Judgement}
use Rattle.tera_workspace.specs.declared.workspace.Workspace.{Workspace}
use Rattle.text_edits.specs.declared.positions.Encoding.{Encoding}
use Rattle.text_edits.specs.declared.positions.Position.{Position}
use Rattle.tera_editor.specs.Editors.{seen_of, uri_in}
use Rattle.tera_answers.specs.Positions.{position_at}
use Rattle.tera_editor.specs.Settings.{Shown, is_on, reported_for}
use Rattle.tera_answers.specs.declared.actions.Acting.{Acting}
use Rattle.tera_editor.specs.declared.editor.Editor.{Editor}
use Rattle.tera_editor.specs.declared.settings.Settings.{Settings}

-- what they depend on: the documents, what the editor has, the settings, the folders that are open, and how positions
-- are counted
pub record ActingVal : Type 0 where
  pub workspace : Workspace
  pub editor : Editor
  pub settings : Settings
  pub folders : List (List ℕ)
  pub encoding : Encoding

abbrev pub acting_view : Acting → ActingVal
acting_view a = record {
  workspace = a.workspace.now;
  editor = a.editor.now;
  settings = a.settings.now;
  folders = map string_bytes a.folders.now;
  encoding = a.encoding;
}

-- a finding is on lines of a range: it does not begin after the last of them, nor end before the first
abbrev pub is_on_lines : Encoding → List ℕ → Position × Position → Finding → Bool
is_on_lines e text range f =
    nat_le (position_at e text f.span.range.start).line range.1.line && nat_le range.0.line (position_at e text f.span.range.end).line

-- .. and its rule is on
abbrev pub is_asked : Encoding → List ℕ → Position × Position → Shown → Finding → Bool
is_asked e text range shown f = is_on shown f.kind && is_on_lines e text range f

-- ---- an action

-- the edit that replaces a part of a text
abbrev pub part_json : Encoding → List ℕ → List ℕ → Part → Json
part_json e source text p = edit_json (position_at e source p.start) (position_at e source p.end) text

unfoldable pub part_tokens : Encoding → List ℕ → List ℕ → Part → List Token
part_tokens e source text p = json_tokens (part_json e source text p)

-- edits of the document of a URI
abbrev pub changes_json : List ℕ → List Json → Json
changes_json uri edits = object (member (codes "changes") (object (member uri (array (items_of edits)) no_members)) no_members)

-- the action that makes a correction in a text
abbrev pub action_json : Encoding → List ℕ → List ℕ → SuggestionVal → Json
action_json e uri source s =
    object (member (codes "title") (string s.title)
    (member (codes "kind") (string (codes "quickfix"))
    (member (codes "isPreferred") (boolean true)
    (member (codes "edit") (changes_json uri (map (part_json e source s.text) s.parts)) no_members))))

unfoldable pub action_tokens : Encoding → List ℕ → List ℕ → Option SuggestionVal → List Token
action_tokens e uri source None = []
action_tokens e uri source (Some s) = json_tokens (action_json e uri source s)

-- ---- the actions of a document

-- the corrections that are suggested for what is found on lines of a range
pub record AreActionsBy (x : ActingVal) (s : Source) (range : Position × Position) (j : Judgement) (actions : List Json) : Type 0 where
  pub suggestions : List (Option SuggestionVal)
  pub suggested : AreSuggestedIn j.catalogue j.template.now s.text
      (filter (is_asked x.encoding s.text range (reported_for x.settings x.folders s.name)) j.findings.items) suggestions
  pub are : actions ≡ filter_map (option_map (action_json x.encoding (uri_in s.name (seen_of x.editor s.name)) s.text)) suggestions

-- .. if it was read
abbrev pub AreActionsIfAny : ActingVal → Source → Position × Position → Option Judgement → List Json → Type 0
AreActionsIfAny x s range None actions = actions ≡ []
AreActionsIfAny x s range (Some j) actions = AreActionsBy x s range j actions

-- ---- which kinds are asked for

-- a kind that covers the kind of corrections: the same, or the empty one, which covers all
abbrev pub covers_corrections : List ℕ → Bool
covers_corrections kind = is_one_of (codes "" ∷ codes "quickfix" ∷ []) kind

abbrev pub is_correction : Json → Bool
is_correction kind = option_map_or covers_corrections (as_str kind) false

-- corrections are among these kinds, or no kinds are named
abbrev pub are_wanted : List Json → Bool
are_wanted [] = true
are_wanted (kind ∷ kinds) = list_any is_correction (kind ∷ kinds)

-- .. by the parameters of a request
abbrev pub asks_for_corrections : Option Json → Bool
asks_for_corrections params =
    option_map_or are_wanted (array_in (member_of (codes "only") (member_of (codes "context") params))) true

-- ---- all

-- the array of all actions
pub record AreActions (x : ActingVal) (s : Source) (range : Position × Position) (offered : Json) : Type 0 where
  pub judgement : Option Judgement
  pub judged : IsJudgementOf x.workspace s.name judgement
  pub actions : List Json
  pub are : AreActionsIfAny x s range judgement actions
  pub written : offered ≡ array (items_of actions)

-- .. or none, if no corrections are asked for
abbrev pub AreWanted : Bool → ActingVal → Source → Position × Position → Json → Type 0
AreWanted true x s range offered = AreActions x s range offered
AreWanted false x s range offered = offered ≡ array no_items
