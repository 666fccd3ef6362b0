use Rattle.std.proofs.Common.{sym, subst, lit≤}
use Rattle.json_rpc.specs.Room.{Adds}
use Rattle.json_rpc.proofs.Adding.{adds_more, adds_within}
use Rattle.json_rpc.proofs.RefusalBytes.{refusal_text}
use Rattle.json_rpc.proofs.refusing.push_refusal.Goals as goal

pub returns : goal.returns
returns c =
    let all = adds_more c.in_ok-push.ensures (adds_more c.in_ok-push_id.ensures c.push_error.ensures) in
    subst (λ l. Adds c.push_error.result c.args.out.now c.push_error.new.out l 1024) (sym (refusal_text c.args.id.now c.args.code))
    (adds_within 1024 all (lit≤ tt))
