use Rattle.std.proofs.Common.{◌≡◌, ◌||◌, ℕ, List, drop, take, map, string_bytes}
use Rattle.tera_workspace.specs.Kept.{NeedsAll}
use Rattle.tera_workspace.specs.Names.{is_among, contains_name}
use Rattle.tera_workspace.proofs.news.needed_of.Given as goal

abbrev pub invariant-loop-judged : goal.invariant-loop-judged
invariant-loop-judged l =
    NeedsAll l.needed (take l.judged-index l.judged-items)

abbrev pub invariant-loop-name : goal.invariant-loop-name
invariant-loop-name l =
    (n : List ℕ) → (contains_name l.initial.needed n || is_among n (map string_bytes l.name-items))
    ≡ (contains_name l.needed n || is_among n (map string_bytes (drop l.name-index l.name-items)))
