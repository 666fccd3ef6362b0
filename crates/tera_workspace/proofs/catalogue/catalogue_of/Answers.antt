use Rattle.std.proofs.Common.{◌≡◌, ◌<◌, length, get_or, ap, arith}
use Rattle.tera_check.specs.Named.{known_in}
use Rattle.tera_workspace.proofs.NeededLemmas.{document_next}
use Rattle.tera_workspace.proofs.catalogue.catalogue_of.Goals as goal

pub loop-number-preserved : goal.loop-number-preserved
loop-number-preserved c = λ n.
    let all = c.args.all.now.items in
    let number = c.loop-number.number in
    let one = c.judged-item.result in
    let within : number < length all = omega (arith, ap length c.deref-judged-items.ensures.value) in
    let is : one ≡ get_or all number one = cc in
    document_next n all number one (known_in c.loop-number.catalogue n) _ _ within is (c.loop-number.invariant n) (c.in_ok-add_definitions.ensures n)
