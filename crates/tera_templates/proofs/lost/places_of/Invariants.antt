use Rattle.std.proofs.Common.{ℕ, List, ◌↔◌, take}
use Rattle.std.specs.BTreeSet.{keys}
use Rattle.std.specs.List.{Contains}
use Rattle.tera_templates.proofs.PlaceLemmas.{IsWordIn}
use Rattle.tera_templates.proofs.lost.places_of.Given as goal

abbrev pub invariant-loop-start : goal.invariant-loop-start
invariant-loop-start l = (at : ℕ) → Contains (keys l.places) at ↔ IsWordIn l.text l.word (take l.start-index l.start-items) at
