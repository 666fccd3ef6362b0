use Rattle.std.proofs.Common.{◌≡◌, ◌∙◌, ◌-◌, ◌<◌, [], Bor, List, ℕ, ap, get_or, length, sym, subst, take}
use Rattle.std.specs.Prelude.{Option, unwrap_or}
use Rattle.std.specs.List.{count_by}
use Rattle.std.specs.Str.{bytes_eq}
use Rattle.std.proofs.lemmas.List.{get_or_default, take_all}
use Rattle.tera_site.specs.Views.{names_of, under_name}
use Rattle.tera_site.proofs.CountLemmas.{counted_less, names_more, one_less}
use Rattle.tera_site.proofs.above.count_no_longer.Goals as goal

pub loop-block-preserved : goal.loop-block-preserved
loop-block-preserved c = λ n.
    let bs = c.deref-block-items.result.now in
    let at = c.loop-block.block-index in
    let d : Bor (List ℕ) = record { ref_ptr = (0, 0); now = [] } in
    let b = get_or bs at d in
    let inside : at < length bs = c.loop-block-test.true in
    let old : List ℕ → Option ℕ = λ m. under_name c.loop-block.counts m in
    let next : List ℕ → Option ℕ = λ m. under_name c.put_count.new.counts m in
    let start = unwrap_or (under_name c.args.counts.now n) 0 in
    let step = one_less old next b.now n c.saturating_sub-less.result (c.in_ok-put_count.ensures n) (c.saturating_sub-less.ensures ∙ ap (λ k. k - 1) c.count_of.ensures) in
    subst (λ ns. unwrap_or (next n) 0 ≡ start - count_by (bytes_eq n) ns) (sym (names_more bs at b inside (get_or_default bs at b d inside)))
    (counted_less n b.now (names_of (take at bs)) start (unwrap_or (old n) 0) (unwrap_or (next n) 0) (c.loop-block.invariant n) step)

pub returns : goal.returns
returns c = λ n.
    c.loop-block.invariant n
    ∙ ap (λ bs. unwrap_or (under_name c.args.counts.now n) 0 - count_by (bytes_eq n) (names_of bs))
    (take_all c.loop-block.block-index c.deref-block-items.result.now c.loop-block-test.false ∙ c.deref-block-items.ensures.value)
