use Rattle.std.proofs.Common.{◌≡◌, ◌∙◌, arith}
use Rattle.json_rpc.specs.Codes.{code_number, code_text}
use Rattle.json_rpc.proofs.Adding.{adds_more, adds_within}
use Rattle.json_rpc.proofs.RefusalBytes.{number-short, text-short}
use Rattle.json_rpc.proofs.refusing.push_error.Goals as goal

pub returns : goal.returns
returns c =
    let number : c.as_bytes.result.now ≡ code_number c.args.code = c.as_bytes.ensures.value ∙ c.number.ensures in
    let text : c.as_bytes-2.result.now ≡ code_text c.args.code = c.as_bytes-2.ensures.value ∙ c.text.ensures in
    let reported = adds_more (rw text at c.in_ok-push-4.ensures) c.push-5.ensures in
    let all = adds_more c.in_ok-push.ensures (adds_more (rw number at c.in_ok-push-2.ensures) (adds_more c.in_ok-push-3.ensures reported)) in
    adds_within 96 all (omega (arith, number-short c.args.code, text-short c.args.code))
