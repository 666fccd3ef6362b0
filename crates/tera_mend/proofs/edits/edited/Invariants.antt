use Rattle.std.proofs.Common.{ℕ, List, map, drop}
use Rattle.tera_mend.specs.Mending.{Edits}
use Rattle.tera_mend.specs.Views.{edit_view}
use Rattle.tera_mend.proofs.edits.edited.Given as goal

-- what the edits that are left make of the bytes now, all make of the text
abbrev pub invariant-loop-edit : goal.invariant-loop-edit
invariant-loop-edit l = (new : List ℕ) → Edits (map edit_view (drop l.edit-index l.edits)) l.bytes.items new → Edits (map edit_view l.edits) l.fn.text new
