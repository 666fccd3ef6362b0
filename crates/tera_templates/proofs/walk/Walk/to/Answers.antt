use Rattle.std.proofs.Common.{arith}
use Rattle.tera_templates.proofs.WalkLemmas.{at_first}
use Rattle.tera_templates.proofs.walk.Walk.to.Goals as goal

pub returns-then-byte-self : goal.returns-then-byte-self
returns-then-byte-self c = λ is within.
    let (here, none) = at_first c.args.text.now c.first.result c.first.ensures in
    c.onward.ensures here (omega (arith, none)) within
