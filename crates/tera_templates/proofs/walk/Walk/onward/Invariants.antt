use Rattle.std.proofs.Common.{◌≡◌, ◌++◌, take}
use Rattle.tera_lexer.specs.grammar.Place.{place_after}
use Rattle.tera_templates.specs.FaultFindings.{IsAt, walk_view}
use Rattle.tera_templates.proofs.walk.Walk.onward.Given as goal

-- the place is that after the bytes so far
abbrev pub invariant-loop-one : goal.invariant-loop-one
invariant-loop-one l = IsAt l.fn.text l.fn.self → walk_view l.walk ≡ place_after (take l.fn.self.byte l.fn.text ++ take l.one-index l.between)
