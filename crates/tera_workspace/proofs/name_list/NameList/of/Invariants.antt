use Rattle.std.proofs.Common.{take}
use Rattle.std.specs.List.{All}
use Rattle.tera_workspace.proofs.NameListLemmas.{HasBitOf}
use Rattle.tera_workspace.proofs.name_list.NameList.of.Given as goal

abbrev pub invariant-loop-name : goal.invariant-loop-name
invariant-loop-name l = All (HasBitOf l.bits) (take l.name-index l.name-items)
