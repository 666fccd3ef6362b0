-- What came.
use Rattle.std.specs.Prelude.{Option, option_map}
use Rattle.json.specs.Json.{Json}
use Rattle.json.specs.Value.{value_view}
use Rattle.json_rpc.specs.declared.incoming.Incoming.{Incoming}

-- the value of JSON that was read, if it was one
abbrev pub incoming_view : Incoming → Option Json
incoming_view i = option_map value_view i.tree
