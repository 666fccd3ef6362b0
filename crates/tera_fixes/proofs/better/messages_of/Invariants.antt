use Rattle.std.proofs.Common.{◌≡◌, ℕ, List, take}
use Rattle.std.specs.BTreeSet.{contains_text}
use Rattle.tera_fixes.specs.Better.{has_message}
use Rattle.tera_fixes.proofs.better.messages_of.Given as goal

-- the messages of the findings so far
abbrev pub invariant-loop-finding : goal.invariant-loop-finding
invariant-loop-finding l = (text : List ℕ) → contains_text l.messages text ≡ has_message (take l.finding-index l.findings) text
