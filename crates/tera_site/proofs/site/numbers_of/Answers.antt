use Rattle.std.proofs.Common.{◌∷◌}
use Rattle.tera_ast.specs.View.{name_view}
use Rattle.tera_site.specs.Views.{under_name}
use Rattle.tera_site.proofs.NumbersLemmas.{numbers_next}
use Rattle.tera_site.proofs.site.numbers_of.Goals as goal

pub names-preserved : goal.names-preserved
names-preserved c =
    let taken = c.names.invariant in
    let rest = c.in-Some.before.now in
    let one = c.in-Some.name.now in
    let next = numbers_next c.names.left.now rest one taken.0 _ (under_name c.names.numbers) (under_name c.put_number.new.numbers) taken.1 c.in-Some.ensures.cases.0 taken.2 c.in_ok-put_number.ensures in
    (name_view one ∷ taken.0, next.0, next.1)
