use Rattle.std.proofs.Common.{◌≡◌, ℕ, List, Option, None}
use Rattle.json_rpc.specs.Outgoing.{nothing}
use Rattle.tera_server.specs.declared.server.Server.{Server}
use Rattle.tera_exchange.specs.Serving.{IsTalking}
use Rattle.tera_exchange.proofs.server.answer_all.Given as goal

abbrev pub invariant-messages : goal.invariant-messages
invariant-messages g l = record {
  limit : l.frames.limit ≡ l.fn.frames.limit;
  talked : (start : Server) (bytes : List ℕ) (began : Option (List ℕ)) → IsTalking l.fn.frames.limit None start l.fn.server bytes l.fn.frames began (g.W.Write.contents l.fn.writer) →
      IsTalking l.fn.frames.limit None start l.server bytes l.frames began (g.W.Write.contents l.writer);
  sent : l.out ≡ nothing;
}
