use Rattle.std.proofs.Common.{◌∙◌, ◌∷◌, ◌++◌, ◌≡◌, [], ap, map, reverse, rules}
use Rattle.tera_ast.specs.View.{expression_view}
use Rattle.tera_rules.specs.RepeatedConditions.{condition_text, seen_if, under_text, under_text_if}
use Rattle.tera_rules.proofs.ConditionsLemmas.{put_next, under_is}
use Rattle.tera_rules.proofs.repeated_conditions.nexts_of.Goals as goal

pub conditions-preserved : goal.conditions-preserved
conditions-preserved c =
    let held = c.conditions.invariant in
    let a = c.in-Some.condition in
    let rest = c.pop.new.self.items in
    let popped : c.conditions.conditions.items ≡ rest ++ a ∷ [] = search rules in
    let text = condition_text (expression_view a.now) in
    let next = put_next c.conditions.conditions.items rest c.args.conditions.items a held.0 c.conditions.nexts.items c.in_ok-next.next
    (under_text c.conditions.following) (under_text c.put.new.following) (under_text_if c.conditions.following text)
    held.1 popped held.2 held.3 c.in_ok-next.ensures.next (under_is text c.conditions.following held.0 held.3) c.in_ok-next.ensures.following
    in
    (expression_view a.now ∷ held.0, next.0, ap (λ ns. reverse (map seen_if ns)) c.in_ok-push.ensures.items ∙ next.1, next.2)
