use Rattle.std.proofs.Common.{map, string_bytes, take}
use Rattle.tera_exchange.specs.Serving.{AreLoaded}
use Rattle.tera_exchange.proofs.server.give_apart.Given as goal

abbrev pub invariant-loop-path : goal.invariant-loop-path
invariant-loop-path g l = AreLoaded l.fn.server (map string_bytes (take l.path-index l.path-items)) l.server
