use Rattle.std.specs.BTreeSet.{contains_text}
use Rattle.tera_workspace.proofs.TouchedLemmas.{same_tests}
use Rattle.tera_workspace.proofs.touched.touched_names.Goals as goal

pub returns : goal.returns
returns c = λ n free.
    let (after_old, back) = c.in_ok-push_not_in-2.ensures n free in
    let (heads, there) = c.in_ok-push_not_in.ensures n after_old in
    (c.in_ok-touched.ensures n heads, same_tests (contains_text c.args.old.now.bodies_hidden n) (contains_text c.args.new.now.bodies_hidden n) there back)
