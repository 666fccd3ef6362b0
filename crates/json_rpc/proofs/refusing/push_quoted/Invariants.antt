use Rattle.std.proofs.Common.{◌+◌, ◌*◌, ◌∷◌, take, Ok}
use Rattle.json.specs.Print.{escape}
use Rattle.json_rpc.specs.Room.{Adds}
use Rattle.std.specs.declared.alloc.AllocError.{AllocError}
use Rattle.json_rpc.proofs.refusing.push_quoted.Given as goal

abbrev pub invariant-loop-byte : goal.invariant-loop-byte
invariant-loop-byte l =
    Adds {E = AllocError} (Ok tt) l.fn.out l.out (34 ∷ escape (take l.byte-index l.bytes)) (1 + 6 * l.byte-index)
