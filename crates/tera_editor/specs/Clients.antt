-- What a client reports about itself.
use Rattle.std.specs.Prelude.{codes, Option}
use Rattle.json.specs.Json.{Json}
use Rattle.protocol_values.specs.Members.{member_of, is_set}
use Rattle.protocol_values.specs.Reading.{encoding_in}
use Rattle.tera_editor.specs.declared.client.Client.{Client}

-- where its capabilities say which encodings it knows, whether it shows the notes of a finding, whether it can be asked
-- to watch files, and whether it accepts the place of a parameter in a head
abbrev pub offered_in : Option Json → Option Json
offered_in j = member_of (codes "positionEncodings") (member_of (codes "general") j)

abbrev pub related_in : Option Json → Option Json
related_in j = member_of (codes "relatedInformation") (member_of (codes "publishDiagnostics") (member_of (codes "textDocument") j))

abbrev pub watches_in : Option Json → Option Json
watches_in j = member_of (codes "dynamicRegistration") (member_of (codes "didChangeWatchedFiles") (member_of (codes "workspace") j))

abbrev pub labels_in : Option Json → Option Json
labels_in j =
    member_of (codes "labelOffsetSupport")
    (member_of (codes "parameterInformation")
    (member_of (codes "signatureInformation")
    (member_of (codes "signatureHelp") (member_of (codes "textDocument") j))))

-- the client by the parameters of `initialize`
abbrev pub client_in : Option Json → Client
client_in params =
    let j = member_of (codes "capabilities") params in
    record {
      encoding = encoding_in (offered_in j);
      related = is_set (related_in j);
      watches = is_set (watches_in j);
      labels = is_set (labels_in j);
    }
