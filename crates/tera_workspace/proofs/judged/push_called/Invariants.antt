use Rattle.std.proofs.Common.{◌≡◌, ◌++◌, drop, map, string_bytes}
use Rattle.std.specs.List.{flat_map}
use Rattle.tera_check.specs.Alike.{name_called}
use Rattle.tera_rules.specs.Pending.{seen}
use Rattle.tera_workspace.proofs.judged.push_called.Given as goal

abbrev pub invariant-loop-call : goal.invariant-loop-call
invariant-loop-call l =
    map string_bytes l.initial.names.items ++ flat_map name_called (map seen l.call-items)
    ≡ map string_bytes l.names.items ++ flat_map name_called (map seen (drop l.call-index l.call-items))
