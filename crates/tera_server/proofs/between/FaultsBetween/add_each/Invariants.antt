use Rattle.std.proofs.Common.{◌++◌, ℕ, List, map, string_bytes, take}
use Rattle.tera_server.specs.Between.{AreFaultsFor, faults_in}
use Rattle.tera_server.proofs.between.FaultsBetween.add_each.Given as goal

abbrev pub invariant-loop-name : goal.invariant-loop-name
invariant-loop-name l =
    (before : List (List ℕ)) → AreFaultsFor l.settings (map string_bytes l.folders) l.workspace before (faults_in l.initial.self)
    → AreFaultsFor l.settings (map string_bytes l.folders) l.workspace (before ++ map string_bytes (take l.name-index l.names)) (faults_in l.self)
