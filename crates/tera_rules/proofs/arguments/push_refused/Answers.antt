use Rattle.std.proofs.Common.{rules, ◌≡◌, ◌∷◌, [], ◌++◌}
use Rattle.tera_rules.specs.Judged.{known_view}
use Rattle.tera_rules.specs.Passed.{passed_view}
use Rattle.tera_rules.proofs.JudgedLemmas.{refused_next}
use Rattle.tera_rules.proofs.arguments.push_refused.Goals as goal

pub values-preserved : goal.values-preserved
values-preserved c =
    let held = c.values.invariant in
    let rest = c.pop.new.self.items in
    let one = c.in-Some.one in
    let popped : c.values.passed.items ≡ rest ++ one ∷ [] = search rules in
    let next = refused_next (known_view c.args.known.now) c.values.passed.items rest one held.0 _ c.values.later c.add.new.self _ _ _ held.1 popped held.2 held.3 c.in_ok-push_if_refused.ensures c.in_ok-add.ensures.under c.in_ok-add.ensures.more in
    (passed_view one ∷ held.0, next.0, next.1, next.2)
