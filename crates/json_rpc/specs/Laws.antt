-- What the laws say of messages that are written.
use Rattle.std.specs.Prelude.{◌≡◌, ◌<◌, Some}
use Rattle.json.specs.Json.{Json, max_depth, document}
use Rattle.json.specs.Tree.{depth, HasNumbers}
use Rattle.json_rpc.specs.Writing.{body}

-- a value that may be written in a message
abbrev pub IsPart : Json → Type 0
IsPart j = HasNumbers j × (depth j < max_depth)

-- its bytes are read as this one value
abbrev pub IsOneValue : Json → Type 0
IsOneValue message = document (body message) ≡ Some message
