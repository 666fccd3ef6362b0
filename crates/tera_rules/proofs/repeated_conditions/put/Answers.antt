use Rattle.std.proofs.Common.{◌≡◌, ◌∙◌, ap, sym, string_bytes, None, Some, if◌then◌else◌}
use Rattle.std.specs.Option.{option_map}
use Rattle.std.proofs.lemmas.Map.Text.{btree_map_updates_text}
use Rattle.tera_ast.specs.View.{expression_view}
use Rattle.tera_rules.specs.RepeatedConditions.{condition_text, seen_if, under_text, under_text_if}
use Rattle.tera_rules.proofs.ConditionsLemmas.{no_text, same_text, seen_cond}
use Rattle.tera_rules.proofs.repeated_conditions.put.Goals as goal

pub returns-in_ok-insert-in-Some-clause-following : goal.returns-in_ok-insert-in-Some-clause-following
returns-in_ok-insert-in-Some-clause-following c = λ text.
    let e = expression_view c.args.condition.now in
    let key = string_bytes c.in-Some.text in
    let named : Some key ≡ condition_text e = sym (ap (option_map string_bytes) c.in-Some.is) ∙ c.in_ok-text.ensures in
    ap seen_if (btree_map_updates_text key c.args.following.now c.insert.new.self (Some c.args.condition) c.in_ok-insert-in-Some.ensures.updates text)
    ∙ seen_cond _ c.args.condition _
    ∙ ap (λ b. if b then Some e else under_text c.args.following.now text) (same_text key text e named)

pub returns-in-None-clause-next : goal.returns-in-None-clause-next
returns-in-None-clause-next c =
    let none : None ≡ condition_text (expression_view c.args.condition.now) = sym (ap (option_map string_bytes) c.in-None.is) ∙ c.in_ok-text.ensures in
    ap (under_text_if c.args.following.now) none

pub returns-in-None-clause-following : goal.returns-in-None-clause-following
returns-in-None-clause-following c = λ text.
    let e = expression_view c.args.condition.now in
    let none : None ≡ condition_text e = sym (ap (option_map string_bytes) c.in-None.is) ∙ c.in_ok-text.ensures in
    ap (λ b. if b then Some e else under_text c.args.following.now text) (no_text text e none)
