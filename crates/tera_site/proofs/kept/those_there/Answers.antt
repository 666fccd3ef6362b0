use Rattle.std.proofs.Common.{◌≡◌, ◌∙◌, ◌<◌, [], Bool, Bor, List, ℕ, ap, get_or, length, sym, subst, take}
use Rattle.std.specs.Prelude.{◌&&◌}
use Rattle.std.proofs.lemmas.List.{get_or_default, take_all}
use Rattle.tera_site.specs.Kept.{is_one_of, names_in}
use Rattle.tera_site.specs.Views.{around_view, names_of}
use Rattle.tera_site.proofs.CountLemmas.{names_more}
use Rattle.tera_site.proofs.KeptLemmas.{names_next}
use Rattle.tera_site.proofs.kept.those_there.Goals as goal

pub loop-name-preserved : goal.loop-name-preserved
loop-name-preserved c = λ n.
    let bs = c.deref-name-items.result.now in
    let at = c.loop-name.name-index in
    let d : Bor (List ℕ) = record { ref_ptr = (0, 0); now = [] } in
    let b = get_or bs at d in
    let inside : at < length bs = c.loop-name-test.true in
    let test : List ℕ → Bool = λ n. (around_view c.args.around).has n in
    subst (λ ns. is_one_of (names_in c.put_if.new.names) n ≡ (is_one_of ns n && test n)) (sym (names_more bs at b inside (get_or_default bs at b d inside)))
    (names_next test _ _ c.has.result (names_of (take at bs)) n b.now c.has.ensures (c.loop-name.invariant n) (c.in_ok-put_if.ensures n))

pub returns : goal.returns
returns c = λ n.
    c.loop-name.invariant n
    ∙ ap (λ bs. is_one_of (names_of bs) n && (around_view c.args.around).has n)
    (take_all c.loop-name.name-index c.deref-name-items.result.now c.loop-name-test.false ∙ c.deref-name-items.ensures.value)
