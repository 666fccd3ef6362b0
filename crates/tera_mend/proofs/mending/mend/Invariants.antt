use Rattle.std.proofs.Common.{◌≤◌, length, string_bytes}
use Rattle.tera_mend.specs.Views.{LeadsTo}
use Rattle.tera_mend.proofs.mending.mend.Given as goal

-- the faults so far lead from the source to the text, and are no more than the limit
abbrev pub invariant-loop-turn : goal.invariant-loop-turn
invariant-loop-turn l = LeadsTo l.fn.file l.fn.source l.faults.items (string_bytes l.text) × (length l.faults.items ≤ l.fn.limit.faults)
