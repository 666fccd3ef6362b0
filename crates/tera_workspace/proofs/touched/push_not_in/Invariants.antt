use Rattle.std.proofs.Common.{ℕ, List, map, string_bytes}
use Rattle.std.specs.BTreeSet.{contains_text}
use Rattle.tera_workspace.proofs.TouchedLemmas.{IsLeft}
use Rattle.tera_workspace.proofs.touched.push_not_in.Given as goal

abbrev pub invariant-loop-name : goal.invariant-loop-name
invariant-loop-name l =
    (n : List ℕ) → IsLeft (map string_bytes l.touched.items) (map string_bytes l.initial.touched.items) (map string_bytes l.name-iterator) (contains_text l.names) (contains_text l.others) n
