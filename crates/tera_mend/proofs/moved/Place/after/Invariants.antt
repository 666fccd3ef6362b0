use Rattle.std.proofs.Common.{◌≡◌, ◌++◌, ℕ, List, take}
use Rattle.tera_lexer.specs.grammar.Place.{place_after}
use Rattle.tera_mend.specs.Views.{place_view}
use Rattle.tera_mend.proofs.moved.Place.after.Given as goal

-- the place is that after the bytes so far
abbrev pub invariant-loop-byte : goal.invariant-loop-byte
invariant-loop-byte l = (front : List ℕ) → place_view l.fn.self ≡ place_after front → place_view l.place ≡ place_after (front ++ take l.byte-index l.byte-items)
