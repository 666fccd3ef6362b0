use Rattle.std.proofs.Common.{◌≡◌, drop}
use Rattle.tera_fixes.specs.Attributes.{attribute_at}
use Rattle.tera_fixes.proofs.attributes.attribute_at.Given as goal

-- the first of the attributes is in the calls that are left
abbrev pub invariant-loop-call : goal.invariant-loop-call
invariant-loop-call l = attribute_at (drop l.call-index l.calls) l.byte ≡ attribute_at l.calls l.byte
