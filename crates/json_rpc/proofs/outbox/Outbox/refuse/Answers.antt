use Rattle.std.proofs.Common.{[], ◌∷◌, ◌++◌, map, IsTrue, false, ap, ◌∙◌}
use Rattle.json_rpc.specs.Outgoing.{is_free}
use Rattle.json_rpc.specs.Writing.{body, refusal}
use Rattle.json_rpc.specs.declared.code.Code.TheVariants.{InternalError}
use Rattle.json_rpc.proofs.RefusalBytes.{refusal_begins}
use Rattle.json_rpc.proofs.Reserve.{one-more}
use Rattle.json_rpc.proofs.outbox.Outbox.refuse.Goals as goal

pub returns : goal.returns
returns c =
    let o = c.self.inside in
    let bytes = body (refusal c.args.id.now InternalError) in
    let first = refusal_begins c.args.id.now InternalError in
    let free : IsTrue (is_free o.reserve.items) = ap (λ p. p.reserved) c.self.view_is ∙ c.requires in
    one-more (map (λ m. m.items) o.messages.items) o.reserve.items c.push_refusal.new.out.items 123 first.0 bytes free c.in-Ok.ensures.ok first.1
    ∙ ap (λ p. record { sent = p.sent ++ bytes ∷ []; reserved = false }) c.self.view_is
