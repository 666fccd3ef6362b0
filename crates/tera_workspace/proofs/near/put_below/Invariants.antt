use Rattle.std.proofs.Common.{◌≡◌, ◌<◌, ℕ, List, Some, true, false, map}
use Rattle.std.specs.Prelude.{slice_get}
use Rattle.tera_workspace.specs.Names.{contains_name}
use Rattle.tera_workspace.specs.Near.{HasOwnBelow}
use Rattle.tera_workspace.specs.declared.judged.Judged.{Judged}
use Rattle.tera_workspace.proofs.near.put_below.Given as goal

abbrev pub invariant-loop-judged : goal.invariant-loop-judged
invariant-loop-judged l =
    ((n : List ℕ) → contains_name l.fn.names n ≡ true → contains_name l.names n ≡ true)
    × (l.put ≡ false → (number : ℕ) (j : Judged) → number < l.judged-index → slice_get (map (λ j. j.now) l.judged-items) number ≡ Some j → HasOwnBelow l.root (contains_name l.names) j)
