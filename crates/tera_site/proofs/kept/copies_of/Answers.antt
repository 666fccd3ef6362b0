use Rattle.std.proofs.Common.{◌≡◌, ◌∙◌, ◌∷◌, ◌++◌, ◌<◌, [], Bor, List, ℕ, ap, get_or, length, map, string_bytes, sym}
use Rattle.std.proofs.lemmas.List.{get_or_default, map_push}
use Rattle.tera_site.proofs.CountLemmas.{names_more}
use Rattle.tera_site.proofs.kept.copies_of.Goals as goal

pub loop-text-preserved : goal.loop-text-preserved
loop-text-preserved c =
    let bs = c.deref-text-items.result.now in
    let at = c.loop-text.text-index in
    let d : Bor (List ℕ) = record { ref_ptr = (0, 0); now = [] } in
    let b = get_or bs at d in
    let inside : at < length bs = c.loop-text-test.true in
    let copy = c.in_ok-from_str.field-0 in
    ap (map string_bytes) c.in_ok-push.ensures.items
    ∙ map_push string_bytes c.loop-text.copies.items copy
    ∙ (λ i. c.loop-text.invariant i ++ c.in_ok-from_str.ensures.ok i ∷ [])
    ∙ sym (names_more bs at b inside (get_or_default bs at b d inside))
