use Rattle.std.proofs.Common.{◌≡◌, ◌<◌, drop}
use Rattle.tera_workspace.specs.NameBits.{bit_after}
use Rattle.tera_workspace.proofs.name_list.bit_of.Given as goal

abbrev pub invariant-loop-byte : goal.invariant-loop-byte
invariant-loop-byte l = (bit_after 0 l.byte-items ≡ bit_after l.bit (drop l.byte-index l.byte-items)) × (l.bit < 128)
