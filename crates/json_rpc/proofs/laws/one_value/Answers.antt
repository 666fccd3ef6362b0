use Rattle.json_rpc.proofs.OneValue.{one_answer, one_refusal, one_notification, one_request}
use Rattle.json_rpc.proofs.laws.one_value.Goals as goal

pub returns : goal.returns
returns c = record { answer = one_answer; refusal = one_refusal; notification = one_notification; request = one_request }
