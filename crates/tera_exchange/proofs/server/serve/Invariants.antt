use Rattle.std.proofs.Common.{◌≡◌, ℕ, List, length}
use Rattle.std.specs.Io.KnownBytes.{Consumes}
use Rattle.json_rpc.specs.Outgoing.{nothing}
use Rattle.tera_exchange.specs.declared.server.TheConstants.{LONGEST, PIECE}
use Rattle.tera_exchange.proofs.ServingLemmas.{IsReading}
use Rattle.tera_exchange.proofs.server.serve.Given as goal

abbrev pub invariant-pieces : goal.invariant-pieces
invariant-pieces g l = record {
  limit : l.frames.limit ≡ LONGEST;
  read : (bytes : List ℕ) × Consumes (g.R.Read.remaining l.fn.reader) (g.R.Read.remaining l.reader) bytes
      × IsReading LONGEST l.short l.initial.server l.server bytes l.frames (g.W.Write.contents l.fn.writer) (g.W.Write.contents l.writer);
  sent : l.out ≡ nothing;
  room : length l.piece.items ≡ PIECE;
}
