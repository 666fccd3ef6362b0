-- Codes of errors, and the texts that are written of them.
use Rattle.std.specs.Prelude.{ℕ, List, codes}
use Rattle.json_rpc.specs.declared.code.Code.{Code}
use Rattle.json_rpc.specs.declared.code.Code.TheVariants.{ParseError, InvalidRequest, MethodNotFound, InvalidParams, InternalError, ServerNotInitialized, RequestFailed}

-- the number of a code
abbrev pub code_number : Code → List ℕ
code_number ParseError = codes "-32700"
code_number InvalidRequest = codes "-32600"
code_number MethodNotFound = codes "-32601"
code_number InvalidParams = codes "-32602"
code_number InternalError = codes "-32603"
code_number ServerNotInitialized = codes "-32002"
code_number RequestFailed = codes "-32803"

-- what is reported for it
abbrev pub code_text : Code → List ℕ
code_text ParseError = codes "the message is no JSON"
code_text InvalidRequest = codes "the message is no request that is allowed here"
code_text MethodNotFound = codes "the method is not known"
code_text InvalidParams = codes "the parameters are not those of the method"
code_text InternalError = codes "out of memory"
code_text ServerNotInitialized = codes "the server is not initialized"
code_text RequestFailed = codes "the request cannot be answered now"
