use Rattle.std.proofs.Common.{◌≡◌, ◌∙◌, ◌<◌, [], Bool, Bor, List, ℕ, ap, get_or, length, sym, subst, take}
use Rattle.std.specs.Prelude.{◌&&◌}
use Rattle.std.proofs.lemmas.List.{get_or_default, take_all}
use Rattle.tera_site.specs.Kept.{is_one_of, names_in}
use Rattle.tera_site.specs.Named.{lacks}
use Rattle.tera_site.specs.Views.{around_view, names_of}
use Rattle.tera_site.proofs.CountLemmas.{names_more}
use Rattle.tera_site.proofs.KeptLemmas.{names_next}
use Rattle.tera_site.proofs.kept.those_lacking.Goals as goal

pub loop-block-preserved : goal.loop-block-preserved
loop-block-preserved c = λ n.
    let bs = c.deref-block-items.result.now in
    let at = c.loop-block.block-index in
    let d : Bor (List ℕ) = record { ref_ptr = (0, 0); now = [] } in
    let b = get_or bs at d in
    let inside : at < length bs = c.loop-block-test.true in
    let test : List ℕ → Bool = λ n. lacks (around_view c.args.around) n in
    subst (λ ns. is_one_of (names_in c.put_if.new.names) n ≡ (is_one_of ns n && test n)) (sym (names_more bs at b inside (get_or_default bs at b d inside)))
    (names_next test _ _ c.lacks.result (names_of (take at bs)) n b.now c.lacks.ensures (c.loop-block.invariant n) (c.in_ok-put_if.ensures n))

pub returns : goal.returns
returns c = λ n.
    c.loop-block.invariant n
    ∙ ap (λ bs. is_one_of (names_of bs) n && lacks (around_view c.args.around) n)
    (take_all c.loop-block.block-index c.deref-block-items.result.now c.loop-block-test.false ∙ c.deref-block-items.ensures.value)
