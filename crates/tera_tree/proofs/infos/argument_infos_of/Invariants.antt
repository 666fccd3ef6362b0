use Rattle.std.proofs.Common.{◌≡◌, List, ◌++◌, map}
use Rattle.tera_tree.specs.Calls.{arguments_view}
use Rattle.tera_tree.specs.Infos.{argument_info, arg_view}
use Rattle.tera_tree.proofs.CallNames.{Entry}
use Rattle.tera_tree.proofs.infos.argument_infos_of.Given as goal

abbrev pub invariant-loop-name : goal.invariant-loop-name
invariant-loop-name l =
    (done : List Entry) × (l.arguments.entries ≡ done ++ l.name-iterator) × (map arg_view l.described.items ≡ map argument_info (arguments_view done))
