use Rattle.std.proofs.Common.{◌≡◌, ◌++◌, map, reverse}
use Rattle.tera_tree.specs.Outputs.{output_view}
use Rattle.tera_rules.specs.Calls.{calls_of}
use Rattle.tera_rules.specs.Pending.{seen, to_come}
use Rattle.tera_rules.proofs.calls.calls_of.Given as goal

abbrev pub invariant-loop-part : goal.invariant-loop-part
invariant-loop-part l =
    to_come l.left.items ++ reverse (map seen l.calls.items) ≡ calls_of (output_view l.output)
