use Rattle.std.proofs.Common.{◌≡◌, ◌<◌, length, get_or, map, ap, arith}
use Rattle.tera_rules.specs.Judged.{known_view}
use Rattle.tera_catalogue.proofs.ListedLemmas.{template_next}
use Rattle.tera_catalogue.proofs.components.all_known.Goals as goal

pub loop-number-preserved : goal.loop-number-preserved
loop-number-preserved c =
    let all = c.args.templates.now.items in
    let number = c.loop-number.number in
    let one = c.template-item.result in
    let within : number < length all = omega (arith, ap length c.deref-template-items.ensures.value) in
    let is : one ≡ get_or all number one = cc in
    template_next all number one (map known_view c.loop-number.known.items) _ _ within is c.loop-number.invariant c.in_ok-push_defined.ensures
