-- What is read, without where its texts lie.
use Rattle.std.specs.Prelude.{option_map}
use Rattle.json.specs.Value.{value_view}
use Rattle.json_rpc.specs.Messages.{MessageVal, Request, Notification, Response, Invalid, NotJson, Naming, Unnamed, Misnamed, NamedBy}
use Rattle.json_rpc.specs.declared.message.Message.{Message}
use Rattle.json_rpc.specs.declared.message.Message.TheVariants as messages
use Rattle.json_rpc.specs.declared.message.Named.{Named}
use Rattle.json_rpc.specs.declared.message.Named.TheVariants as names

abbrev pub message_view : Message → MessageVal
message_view (messages.Request id method params) = Request id method.now (option_map (λ v. value_view v.now) params)
message_view (messages.Notification method params) = Notification method.now (option_map (λ v. value_view v.now) params)
message_view messages.Response = Response
message_view (messages.Invalid id) = Invalid id
message_view messages.NotJson = NotJson

abbrev pub naming_view : Named → Naming
naming_view names.Unnamed = Unnamed
naming_view names.Misnamed = Misnamed
naming_view (names.By id) = NamedBy id
