use Rattle.std.proofs.Common.{◌≡◌, ◌∙◌, ◌<◌, length, get_or, set, ap, arith}
use Rattle.std.proofs.lemmas.List.Edits.{map_over_more}
use Rattle.tera_check.specs.Levels.{at_level, level_of}
use Rattle.tera_check.proofs.levels.put_levels.Goals as goal

pub loop-finding-preserved : goal.loop-finding-preserved
loop-finding-preserved c =
    let old = c.args.findings.now.items in
    let items = c.loop-finding.finding-items in
    let i = c.loop-finding.finding-index in
    let f = get_or items i c.finding-item.result in
    let is : f ≡ get_or items i f = ap (get_or items i) c.finding-item.is in
    let within : i < length old = omega (arith, ap length c.deref_mut-finding-items.ensures.value) in
    ap (set items i) c.put_level.ensures ∙ map_over_more (at_level (level_of c.args.levels)) old items i f within c.loop-finding.invariant is
