use Rattle.std.proofs.Common.{◌≡◌, ◌∙◌, ◌<◌, [], Bor, List, ℕ, ap, get_or, length, sym, subst, take}
use Rattle.std.specs.Prelude.{◌&&◌, nat_lt, unwrap_or}
use Rattle.std.specs.List.{list_any}
use Rattle.std.specs.Str.{bytes_eq}
use Rattle.std.proofs.lemmas.List.{get_or_default, take_all}
use Rattle.tera_site.specs.Views.{has_name, names_of, under_name}
use Rattle.tera_site.proofs.CountLemmas.{names_more, own_more}
use Rattle.tera_site.proofs.above.own.Goals as goal

pub loop-block-preserved : goal.loop-block-preserved
loop-block-preserved c = λ n.
    let bs = c.deref-block-items.result.now in
    let at = c.loop-block.block-index in
    let d : Bor (List ℕ) = record { ref_ptr = (0, 0); now = [] } in
    let b = get_or bs at d in
    let inside : at < length bs = c.loop-block-test.true in
    let counted = nat_lt 0 (unwrap_or (under_name c.args.counts.now n) 0) in
    subst (λ ns. has_name c.put_counted.new.own n ≡ (list_any (bytes_eq n) ns && counted)) (sym (names_more bs at b inside (get_or_default bs at b d inside)))
    (own_more (has_name c.loop-block.own n) (has_name c.put_counted.new.own n) (names_of (take at bs)) n b.now counted
    (c.loop-block.invariant n) (c.in_ok-put_counted.ensures n))

pub returns : goal.returns
returns c = λ n.
    let counted = nat_lt 0 (unwrap_or (under_name c.args.counts.now n) 0) in
    c.loop-block.invariant n
    ∙ ap (λ bs. list_any (bytes_eq n) (names_of bs) && counted)
    (take_all c.loop-block.block-index c.deref-block-items.result.now c.loop-block-test.false ∙ c.deref-block-items.ensures.value)
