-- Publishing what is found in a document.
use Rattle.std.specs.Prelude.{ℕ, List, [], ◌++◌, Bool, if◌then◌else◌, codes, is_some, map, Option, None, Some, unwrap_or}
use Rattle.std.specs.Option.{option_map, option_map_or, option_to_list}
use Rattle.json.specs.Json.{Json, string, array, object, Members, no_members, member}
use Rattle.json.specs.Token.{Token}
use Rattle.json.specs.Tree.{json_tokens}
use Rattle.json.specs.Value.{items_of}
use Rattle.json_rpc.specs.Writing.{notification}
use Rattle.protocol_values.specs.Writing.{number_json, range_json, location_json, member_tokens}
use Rattle.tera_findings.specs.Findings.{kind_name}
use Rattle.tera_findings.specs.declared.finding.Severity.TheVariants.{Error}
use Rattle.tera_workspace.specs.Diagnostics.{DiagnosticVal, RelatedVal}
use Rattle.text_edits.specs.declared.positions.Position.{Position}
use Rattle.tera_editor.specs.Editors.{seen_of, uri_in, version_in}
use Rattle.tera_editor.specs.Settings.{Shown, shown_as}
use Rattle.tera_editor.specs.UnreadFiles.{ReasonVal, severity_number}
use Rattle.tera_editor.specs.declared.editor.Editor.{Editor}

-- a note of a finding
abbrev pub related_json : Editor → RelatedVal → Json
related_json e r =
    object (member (codes "location") (location_json (uri_in r.file (seen_of e r.file)) r.start r.end)
    (member (codes "message") (string r.message) no_members))

-- the tokens of that
unfoldable pub one_related : Editor → RelatedVal → List Token
one_related e r = json_tokens (related_json e r)

abbrev pub related_members : Editor → Bool → List RelatedVal → Members
related_members e reported rs =
    if reported then member (codes "relatedInformation") (array (items_of (map (related_json e) rs))) no_members else no_members

-- the tokens of that
abbrev pub related_tokens : Editor → Bool → List RelatedVal → List Token
related_tokens e reported rs = if reported then member_tokens (codes "relatedInformation") (array (items_of (map (related_json e) rs))) else []

-- a finding
abbrev pub diagnostic_json : Editor → Bool → DiagnosticVal → Json
diagnostic_json e reported d =
    object (member (codes "range") (range_json d.start d.end)
    (member (codes "severity") (number_json (severity_number d.severity))
    (member (codes "code") (string (kind_name d.kind))
    (member (codes "source") (string (codes "tera"))
    (member (codes "message") (string d.message) (related_members e reported d.related))))))

unfoldable pub one_found : Editor → Bool → DiagnosticVal → List Token
one_found e reported d = json_tokens (diagnostic_json e reported d)

-- the version if it is known, before other members
abbrev pub with_version : Option ℕ → Members → Members
with_version None ms = ms
with_version (Some n) ms = member (codes "version") (number_json n) ms

-- the tokens of that
abbrev pub version_tokens : Option ℕ → List Token
version_tokens None = []
version_tokens (Some n) = member_tokens (codes "version") (number_json n)

-- why a file cannot be read, at its beginning; or what is wrong in a file of settings, at a line
abbrev pub reason_place : ReasonVal → Position
reason_place r = record { line = unwrap_or r.line 0; character = 0 }

abbrev pub reason_code : ReasonVal → List ℕ
reason_code r = if is_some r.line then codes "settings" else codes "unread"

abbrev pub reason_json : ReasonVal → Json
reason_json r =
    object (member (codes "range") (range_json (reason_place r) (reason_place r))
    (member (codes "severity") (number_json (severity_number Error))
    (member (codes "code") (string (reason_code r))
    (member (codes "source") (string (codes "tera"))
    (member (codes "message") (string r.message) no_members)))))

-- its tokens, if there is a reason
abbrev pub reason_tokens : Option ReasonVal → List Token
reason_tokens None = []
reason_tokens (Some r) = json_tokens (reason_json r)

-- the tokens of a finding, unless its rule is off
abbrev pub found_if_on : Editor → Bool → Shown → DiagnosticVal → List Token
found_if_on e reported shown d = option_map_or (one_found e reported) (shown_as shown d) []

-- all that is published for a file: first why it cannot be read, if it cannot
abbrev pub diagnostics_json : Editor → Bool → Option ReasonVal → List DiagnosticVal → List Json
diagnostics_json e reported why ds = option_to_list (option_map reason_json why) ++ map (diagnostic_json e reported) ds

abbrev pub found_json : Editor → Bool → List ℕ → Option ReasonVal → List DiagnosticVal → Json
found_json e reported name why ds =
    object (member (codes "uri") (string (uri_in name (seen_of e name)))
    (with_version (version_in (seen_of e name))
    (member (codes "diagnostics") (array (items_of (diagnostics_json e reported why ds))) no_members)))

-- the message that publishes what is found in the document of a name
abbrev pub published : Editor → Bool → List ℕ → Option ReasonVal → List DiagnosticVal → Json
published e reported name why ds = notification (codes "textDocument/publishDiagnostics") (found_json e reported name why ds)
