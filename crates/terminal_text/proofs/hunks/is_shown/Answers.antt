use Rattle.std.proofs.Common.{◌≡◌, ◌∙◌, ◌||◌, true, refl, sym, ap, map, min, length, take, arith}
use Rattle.std.specs.List.{list_any}
use Rattle.terminal_text.specs.Edits.{edit_view}
use Rattle.terminal_text.specs.Hunks.{changes, is_shown}
use Rattle.terminal_text.proofs.Placing.{near}
use Rattle.terminal_text.proofs.hunks.is_shown.Goals as goal

pub returns-then-has_change : goal.returns-then-has_change
returns-then-has_change c =
    let front = c.split_at.result.0.now in
    let back = c.split_at.result.1.now in
    let from = c.saturating_sub.result in
    let e = near front back from (min 4 (length back)) (omega (arith, c.split_at.ensures.front_len)) refl in
    let shown : true ≡ is_shown (map edit_view front) (map edit_view back) =
    sym (e ∙ ap (λ t. t || list_any changes (map edit_view (take (min 4 (length back)) back))) (sym c.has_change.ensures ∙ c.if-has_change.true)) in
    c.if-has_change.true ∙ shown ∙ ap (λ l. is_shown (map edit_view l) (map edit_view back)) c.split_at.ensures.front
    ∙ ap (λ l. is_shown (map edit_view (take c.args.at c.args.edits.now)) (map edit_view l)) c.split_at.ensures.back

pub returns-else-has_change : goal.returns-else-has_change
returns-else-has_change c =
    let front = c.split_at.result.0.now in
    let back = c.split_at.result.1.now in
    let from = c.saturating_sub.result in
    let e = near front back from c.min.result (omega (arith, c.split_at.ensures.front_len)) c.min.ensures in
    let shown : c.has_change-else-has_change.result ≡ is_shown (map edit_view front) (map edit_view back) =
    c.has_change-else-has_change.ensures
    ∙ sym (e ∙ ap (λ t. t || list_any changes (map edit_view (take c.min.result back))) (sym c.has_change.ensures ∙ c.if-has_change.false)) in
    shown ∙ ap (λ l. is_shown (map edit_view l) (map edit_view back)) c.split_at.ensures.front
    ∙ ap (λ l. is_shown (map edit_view (take c.args.at c.args.edits.now)) (map edit_view l)) c.split_at.ensures.back
