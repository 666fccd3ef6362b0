use Rattle.std.proofs.Common.{◌≡◌, drop}
use Rattle.tera_fixes.specs.Attributes.{call_at}
use Rattle.tera_fixes.proofs.attributes.call_at.Given as goal

-- the first of the calls is the first of those that are left
abbrev pub invariant-loop-call : goal.invariant-loop-call
invariant-loop-call l = call_at (drop l.call-index l.calls) l.byte ≡ call_at l.calls l.byte
