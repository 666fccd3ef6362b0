use Rattle.std.proofs.Common.{◌≡◌, ℕ, ◌≤◌, length}
use Rattle.json.specs.Json.{members, value}
use Rattle.json_rpc.specs.Outline.{no_outline}
use Rattle.json_rpc.specs.Outlined.{outline_view}
use Rattle.json_rpc.proofs.Outlines.{outlined}
use Rattle.json_rpc.proofs.unread.read_outline.Given as goal

abbrev pub invariant-loop-key : goal.invariant-loop-key
invariant-loop-key l =
    (n : ℕ) × (length l.reader ≤ n)
    × (outlined no_outline (members (value 127) (length l.initial.reader) l.initial.reader)
    ≡ outlined (outline_view l.outline) (members (value 127) n l.reader))

abbrev pub decreases-loop-key : goal.decreases-loop-key
decreases-loop-key l = length l.reader
