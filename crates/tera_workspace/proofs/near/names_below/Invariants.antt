use Rattle.std.proofs.Common.{◌≡◌, Some, true, map}
use Rattle.std.specs.Prelude.{slice_get}
use Rattle.tera_workspace.specs.Names.{contains_name}
use Rattle.tera_workspace.specs.Near.{own_name}
use Rattle.tera_workspace.specs.declared.judged.Judged.{Judged}
use Rattle.tera_workspace.proofs.near.names_below.Given as goal

abbrev pub invariant-loop-pass : goal.invariant-loop-pass
invariant-loop-pass l =
    (j : Judged) → slice_get (map (λ j. j.now) l.below.items) l.at ≡ Some j → contains_name l.names (own_name l.root j) ≡ true
