use Rattle.std.proofs.Common.{◌∙◌, ◌++◌, ℕ, List, map, nat_eq, sym, ap, arith}
use Rattle.std.specs.Str.Iter.{split_text, split_has_more, split_pattern}
use Rattle.std.proofs.lemmas.Iterator.Consumers.{YieldsList-end}
use Rattle.std.proofs.lemmas.Iterator.Splits.{YieldsList-from_str_split}
use Rattle.std.proofs.lemmas.Simd.{map-map}
use Rattle.std.specs.Borrow.{Bor}
use Rattle.std.specs.List.{slice_split}
use Rattle.tera_templates.specs.Ignores.{IgnoreVal, ignore_of, ignores_view}
use Rattle.tera_templates.proofs.IgnoreLemmas.{one_rule}
use Rattle.tera_templates.proofs.ignores.push_rules.Goals as goal

pub loop-rule-preserved : goal.loop-rule-preserved
loop-rule-preserved c =
    one_rule (λ (p : Bor (List ℕ)). ignore_of c.args.span.now c.is_alone-alone.result p.now) (ignores_view c.args.ignores.now.items) (ignores_view c.loop-rule.ignores.items)
    (ignores_view c.push_rule.new.ignores.items) c.loop-rule.yielded c.in-Some.rule c.loop-rule.invariant c.in_ok-push_rule.ensures

pub returns : goal.returns
returns c =
    let made = c.split-rule-items.ensures in
    let gives = c.into_iter-rule-iterator.ensures.into_iter_gives in
    let rules = c.args.rules.now in
    let one : List ℕ → IgnoreVal = ignore_of c.args.span.now c.is_alone-alone.result in
    let pieces = YieldsList-from_str_split 44 rules (omega arith) (ap split_text gives ∙ made.text) (ap split_has_more gives ∙ made.has_more) (ap split_pattern gives ∙ made.pattern) in
    let all = YieldsList-end pieces c.loop-rule.yielded _ c.loop-rule.yielded_by _ _ c.in-None.is c.next.ensures.steps in
    c.loop-rule.invariant
    ∙ ap (λ is. ignores_view c.args.ignores.now.items ++ is) (sym (map-map one (λ (p : Bor (List ℕ)). p.now) c.loop-rule.yielded) ∙ ap (map one) all.0)
    ∙ ap (λ alone. ignores_view c.args.ignores.now.items ++ map (ignore_of c.args.span.now alone) (slice_split (λ b. nat_eq b 44) rules)) c.is_alone-alone.ensures
