use Rattle.std.proofs.Common.{◌≡◌, ◌∙◌, ◌<◌, ◌==◌, false, true, length, map, reverse, vec_len, ap, arith, rules}
use Rattle.tera_rules.specs.RepeatedConditions.{nexts, seen_if}
use Rattle.tera_rules.proofs.ConditionsLemmas.{all_none, kept_still, only_one}
use Rattle.tera_rules.proofs.ConditionsLemmas.{not_none}
use Rattle.tera_rules.proofs.repeated_conditions.keep_nexts.Goals as goal

pub returns-then-not-is_empty : goal.returns-then-not-is_empty
returns-then-not-is_empty c =
    let kept = c.args.chain.now.nexts in
    let some : false ≡ (vec_len kept == 0) = search rules in
    let more : 0 < length kept.items = not_none kept some in
    kept_still kept.items _ (λ none. absurd (omega (arith, more, ap length none))) c.requires

pub returns-in_ok-chain-in-Some : goal.returns-in_ok-chain-in-Some
returns-in_ok-chain-in-Some c = c.in_ok-chain-in-Some.ensures ∙ ap nexts c.in_ok-conditions-in-Some.ensures

pub returns-in_ok-push-in-None : goal.returns-in_ok-push-in-None
returns-in_ok-push-in-None c =
    let kept = c.args.chain.now.nexts in
    let none : true ≡ (vec_len kept == 0) = search rules in
    ap (λ ns. reverse (map seen_if ns)) c.in_ok-push-in-None.ensures.items
    ∙ only_one c.args.choice.now kept.items c.in-None.ensures.none (all_none kept none)
