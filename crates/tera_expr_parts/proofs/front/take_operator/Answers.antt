use Rattle.std.proofs.Common.{subst}
use Rattle.tera_grammar.specs.expressions.Reading.Front as reading
use Rattle.tera_expr_parts.specs.Fronts.{operator_of}
use Rattle.tera_expr_parts.proofs.FrontsLemmas.{OneOrTwo, operator_taken, not_in_taken, front_took, not_in_took, joined_kind}
use Rattle.tera_expect.proofs.TakingLemmas.{took_all}
use Rattle.tera_expr_parts.proofs.front.take_operator.Goals as goal

pub returns-then-negated-clause-past : goal.returns-then-negated-clause-past
returns-then-negated-clause-past c =
    let first = operator_taken c.args.cursor.now c.skip.new.self c.skip.result c.skip.ensures.skips c.skip.ensures.sight (operator_of c.args.operator) c.args.negated c.requires in
    let both = subst (λ n. OneOrTwo (operator_of c.args.operator) n (reading.front c.args.cursor.now.left) c.skip.new.self.left) c.if-negated.true first in
    rw c.if-negated.true (not_in_taken _ _ c.skip.new.self c.skip-then-negated.new.self c.skip-then-negated.result both c.skip-then-negated.ensures.skips c.skip-then-negated.ensures.sight)

pub returns-else-negated-clause-past : goal.returns-else-negated-clause-past
returns-else-negated-clause-past c =
    let first = operator_taken c.args.cursor.now c.skip.new.self c.skip.result c.skip.ensures.skips c.skip.ensures.sight (operator_of c.args.operator) c.args.negated c.requires in
    rw c.if-negated.false (subst (λ n. OneOrTwo (operator_of c.args.operator) n (reading.front c.args.cursor.now.left) c.skip.new.self.left) c.if-negated.false first)

pub returns-then-negated-clause-later : goal.returns-then-negated-clause-later
returns-then-negated-clause-later c =
    let first = operator_taken c.args.cursor.now c.skip.new.self c.skip.result c.skip.ensures.skips c.skip.ensures.sight (operator_of c.args.operator) c.args.negated c.requires in
    let both = subst (λ n. OneOrTwo (operator_of c.args.operator) n (reading.front c.args.cursor.now.left) c.skip.new.self.left) c.if-negated.true first in
    took_all _ _ _ (front_took c.args.cursor.now c.skip.new.self c.skip.result c.skip.ensures.skips c.skip.ensures.sight (joined_kind _ _ _ c.requires))
    (not_in_took _ _ c.skip.new.self c.skip-then-negated.new.self c.skip-then-negated.result both c.skip-then-negated.ensures.skips c.skip-then-negated.ensures.sight)

pub returns-else-negated-clause-later : goal.returns-else-negated-clause-later
returns-else-negated-clause-later c = front_took c.args.cursor.now c.skip.new.self c.skip.result c.skip.ensures.skips c.skip.ensures.sight (joined_kind _ _ _ c.requires)
