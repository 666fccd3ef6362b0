use Rattle.std.proofs.Common.{◌≡◌, ◌∙◌, ◌++◌, ◌<◌, [], Bor, List, ℕ, ap, append_assoc, get_or, length, sym, take}
use Rattle.std.proofs.lemmas.List.{get_or_default}
use Rattle.tera_site.specs.Sites.{if_any, numbers_by}
use Rattle.tera_site.specs.Views.{names_of, under_name}
use Rattle.tera_site.proofs.CountLemmas.{names_more, numbers_push}
use Rattle.tera_site.proofs.site.push_numbers.Goals as goal

pub loop-name-preserved : goal.loop-name-preserved
loop-name-preserved c =
    let bs = c.deref-name-items.result.now in
    let at = c.loop-name.name-index in
    let d : Bor (List ℕ) = record { ref_ptr = (0, 0); now = [] } in
    let b = get_or bs at d in
    let inside : at < length bs = c.loop-name-test.true in
    let named = under_name c.args.numbers.now in
    let start = c.args.links.now.items in
    c.in_ok-push_number.ensures
    ∙ ap (λ xs. xs ++ if_any (named b.now)) c.loop-name.invariant
    ∙ append_assoc start (numbers_by named (names_of (take at bs))) (if_any (named b.now))
    ∙ ap (λ xs. start ++ xs) (sym (numbers_push named (names_of (take at bs)) b.now)
    ∙ ap (numbers_by named) (sym (names_more bs at b inside (get_or_default bs at b d inside))))
