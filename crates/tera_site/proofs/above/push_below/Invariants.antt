use Rattle.std.proofs.Common.{◌≡◌, ◌++◌, map, take}
use Rattle.tera_site.specs.declared.above.Step.TheVariants.{Enter}
use Rattle.tera_site.proofs.above.push_below.Given as goal

abbrev pub invariant-loop-child : goal.invariant-loop-child
invariant-loop-child l = l.steps.items ≡ l.fn.steps.items ++ map Enter (take l.child-index l.children)
