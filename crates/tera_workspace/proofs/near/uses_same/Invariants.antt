use Rattle.std.proofs.Common.{◌≡◌, ℕ, List, take}
use Rattle.std.specs.List.{Contains}
use Rattle.tera_site.specs.Kept.{is_one_of, names_in}
use Rattle.tera_site.specs.Views.{names_of}
use Rattle.tera_workspace.proofs.near.uses_same.Given as goal

abbrev pub invariant-loop-name : goal.invariant-loop-name
invariant-loop-name l = (n : List ℕ) → Contains (names_of (take l.name-index l.name-items)) n → is_one_of (names_in l.before) n ≡ is_one_of (names_in l.others) n
