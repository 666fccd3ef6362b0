use Rattle.std.proofs.Common.{◌≡◌, ◌∙◌, ◌<◌, true, false, get_or, length, ap, arith, rules}
use Rattle.tera_editor.specs.Sites.{has_folder}
use Rattle.tera_editor.proofs.SiteLemmas.{first_of, none_next}
use Rattle.tera_editor.proofs.sites.Sites.number_of.Goals as goal

pub loop-number-preserved : goal.loop-number-preserved
loop-number-preserved c =
    let xs = c.args.self.now.all.items in
    let k = c.loop-number.number in
    let x = c.one-item.result in
    let within : k < length xs = omega (arith, ap length c.deref-one-items.ensures.value) in
    let is : x ≡ get_or xs k x = c.one-item.is ∙ ap (λ ys. get_or ys k x) c.deref-one-items.ensures.value in
    let differs : has_folder c.args.folder.now x ≡ false = search rules in
    none_next c.args.folder.now xs k x within is differs c.loop-number.invariant

pub returns-then-eq : goal.returns-then-eq
returns-then-eq c =
    let xs = c.args.self.now.all.items in
    let k = c.loop-number.number in
    let x = c.one-item.result in
    let within : k < length xs = omega (arith, ap length c.deref-one-items.ensures.value) in
    let is : x ≡ get_or xs k x = c.one-item.is ∙ ap (λ ys. get_or ys k x) c.deref-one-items.ensures.value in
    let same : has_folder c.args.folder.now x ≡ true = search rules in
    first_of c.args.folder.now xs k x within is same c.loop-number.invariant

pub returns : goal.returns
returns c = λ m d below. c.loop-number.invariant m d (omega (arith, ap length c.deref-one-items.ensures.value, below))
