use Rattle.std.proofs.Common.{◌≡◌, ◌⊎◌, ◌+◌, drop, sym, ap, subst, true}
use Rattle.std.proofs.lemmas.List.{drop_all}
use Rattle.std.specs.List.{Contains}
use Rattle.std.specs.Prelude.{◌↔◌}
use Rattle.tera_templates.specs.Ignores.{ignore_view, ignores_view}
use Rattle.tera_templates.specs.Lost.{places_under}
use Rattle.tera_check.specs.Silenced.{is_silenced_at, silences_at}
use Rattle.tera_templates.proofs.PlaceLemmas.{none_under}
use Rattle.tera_check.proofs.SilencedLemmas.{next_left, none_left, none_there, one_taken}
use Rattle.tera_check.proofs.silenced.silenced_lines.Goals as goal

pub loop-ignore-init : goal.loop-ignore-init
loop-ignore-init c = λ rule line.
    none_there (Contains (places_under c.new-lines.result rule) line) (is_silenced_at (ignores_view c.deref-ignore-items.result.now) rule line)
    (none_under c.new-lines.result rule line c.new-lines.ensures.empty)

pub loop-ignore-preserved : goal.loop-ignore-preserved
loop-ignore-preserved c = λ rule line.
    let items = c.deref-ignore-items.result.now in
    let i = c.loop-ignore.ignore-index in
    let one = c.ignore-item.result in
    let all = is_silenced_at (ignores_view items) rule line in
    let left = is_silenced_at (ignores_view (drop (i + 1) items)) rule line in
    let held = subst (λ is. (Contains (places_under c.loop-ignore.lines rule) line ⊎ (is_silenced_at is rule line ≡ true)) ↔ (all ≡ true)) (next_left ignore_view items i one c.loop-ignore-test.true c.ignore-item.is) (c.loop-ignore.invariant rule line) in
    one_taken (Contains (places_under c.loop-ignore.lines rule) line) (Contains (places_under c.put_ignore.new.lines rule) line) (silences_at (ignore_view one) rule line) left all
    (c.in_ok-put_ignore.ensures rule line) held

pub returns : goal.returns
returns c = λ rule line.
    let items = c.deref-ignore-items.result.now in
    let there = Contains (places_under c.loop-ignore.lines rule) line in
    let ended = subst (λ is. (there ⊎ (is_silenced_at (ignores_view is) rule line ≡ true)) ↔ (is_silenced_at (ignores_view items) rule line ≡ true))
    (drop_all c.loop-ignore.ignore-index items c.loop-ignore-test.false) (c.loop-ignore.invariant rule line) in
    subst (λ is. there ↔ (is_silenced_at (ignores_view is) rule line ≡ true)) c.deref-ignore-items.ensures.value
    (none_left there (is_silenced_at (ignores_view items) rule line) ended)
