use Rattle.json_rpc.proofs.ReadBack.{request_back, notification_back, answer_back, refusal_back}
use Rattle.json_rpc.proofs.laws.read_back.Goals as goal

pub returns : goal.returns
returns c = record {
  request = request_back;
  notification = notification_back;
  answer = answer_back;
  refusal = refusal_back;
}
