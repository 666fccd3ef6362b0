use Rattle.std.proofs.Common.{ℕ, List, ◌↔◌, take}
use Rattle.std.specs.List.{Contains}
use Rattle.tera_templates.specs.Lost.{places_under}
use Rattle.tera_templates.proofs.PlaceLemmas.{IsLostIn}
use Rattle.tera_templates.proofs.lost.lost_words.Given as goal

abbrev pub invariant-loop-start : goal.invariant-loop-start
invariant-loop-start l = (n : List ℕ) (at : ℕ) → Contains (places_under l.lost n) at ↔ IsLostIn l.source l.text (take l.start-index l.start-items) n at
