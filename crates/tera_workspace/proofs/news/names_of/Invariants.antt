use Rattle.std.proofs.Common.{ℕ, List, ◌++◌, drop, map, string_bytes}
use Rattle.tera_workspace.specs.Reported.{AreOfOthers}
use Rattle.tera_workspace.proofs.news.names_of.Given as goal

abbrev pub invariant-loop-number : goal.invariant-loop-number
invariant-loop-number l =
    (rest : List (List ℕ)) → AreOfOthers (drop l.number l.all.items) (drop l.number l.news.items) rest
    → AreOfOthers l.all.items l.news.items (map string_bytes l.names.items ++ rest)
