-- What a server can do, as JSON.
use Rattle.std.specs.Prelude.{ℕ, List, codes, true}
use Rattle.json.specs.Json.{Json, Items, string, boolean, array, object, no_items, item, no_members, member}
use Rattle.text_edits.specs.declared.positions.Encoding.{Encoding}
use Rattle.protocol_values.specs.Writing.{number_json, encoding_name}
use Rattle.tera_answers.specs.SemanticTokens.{legend_json}

-- the client reports texts that are opened and closed, and changes as parts of them
abbrev pub sync_json : Json
sync_json = object (member (codes "openClose") (boolean true) (member (codes "change") (number_json 2) no_members))

-- the characters after which an editor asks by itself what may be typed
abbrev pub triggers : Items
triggers =
    item (string (codes "<")) (item (string (codes "/")) (item (string (codes "."))
    (item (string (codes " ")) (item (string (codes "\"")) (item (string (codes "'")) (item (string (codes "|")) no_items))))))

abbrev pub completion_json : Json
completion_json = object (member (codes "triggerCharacters") (array triggers) no_members)

-- .. and what the component takes whose call the cursor is in
abbrev pub signature_json : Json
signature_json = object (member (codes "triggerCharacters") (array (item (string (codes " ")) (item (string (codes "=")) no_items))) no_members)

-- the kinds of actions that are offered
abbrev pub actions_json : Json
actions_json = object (member (codes "codeActionKinds") (array (item (string (codes "quickfix")) no_items)) no_members)

-- tokens are sent for a whole text
abbrev pub semantic_json : Json
semantic_json = object (member (codes "legend") legend_json (member (codes "full") (boolean true) no_members))

-- folders may be opened and closed while it runs, and the client reports them
abbrev pub folders_json : Json
folders_json = object (member (codes "supported") (boolean true) (member (codes "changeNotifications") (boolean true) no_members))

abbrev pub workspace_json : Json
workspace_json = object (member (codes "workspaceFolders") folders_json no_members)

abbrev pub capabilities_json : Encoding → Json
capabilities_json e =
    object (member (codes "positionEncoding") (string (encoding_name e))
    (member (codes "textDocumentSync") sync_json
    (member (codes "documentFormattingProvider") (boolean true)
    (member (codes "documentSymbolProvider") (boolean true)
    (member (codes "definitionProvider") (boolean true)
    (member (codes "hoverProvider") (boolean true)
    (member (codes "referencesProvider") (boolean true)
    (member (codes "codeActionProvider") actions_json
    (member (codes "completionProvider") completion_json
    (member (codes "signatureHelpProvider") signature_json
    (member (codes "semanticTokensProvider") semantic_json
    (member (codes "workspace") workspace_json no_members))))))))))))

-- the version of the program and of its server
abbrev pub version : List ℕ
version = codes "0.1.0"

abbrev pub server_json : Json
server_json = object (member (codes "name") (string (codes "tera")) (member (codes "version") (string version) no_members))

-- the result of `initialize`
abbrev pub abilities_json : Encoding → Json
abilities_json e =
    object (member (codes "capabilities") (capabilities_json e) (member (codes "serverInfo") server_json no_members))

-- the files that a client is asked to watch: all, as settings say how the names of templates end, and a folder may
-- change too
abbrev pub watcher_json : Json
watcher_json = object (member (codes "globPattern") (string (codes "**/*")) no_members)

abbrev pub watchers_json : Json
watchers_json = object (member (codes "watchers") (array (item watcher_json no_items)) no_members)

abbrev pub registration_json : Json
registration_json =
    object (member (codes "id") (string (codes "watch"))
    (member (codes "method") (string (codes "workspace/didChangeWatchedFiles"))
    (member (codes "registerOptions") watchers_json no_members)))

-- the parameters of this request
abbrev pub registrations_json : Json
registrations_json = object (member (codes "registrations") (array (item registration_json no_items)) no_members)
