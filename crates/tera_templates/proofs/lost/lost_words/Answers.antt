use Rattle.std.proofs.Common.{◌≡◌, ◌<◌, ◌≤◌, ◌+◌, ◌∷◌, ◌++◌, ◌∙◌, ◌↔◌, [], ℕ, List, length, take, get_or, ap, sym, subst, arith}
use Rattle.std.specs.List.{Contains}
use Rattle.std.proofs.lemmas.List.{take_all, take_more}
use Rattle.std.proofs.lemmas.List.Elements.{Contains-get_or}
use Rattle.tera_templates.specs.Lost.{IsBetween, places_under}
use Rattle.tera_templates.proofs.PlaceLemmas.{IsLostIn, lost_are, lost_more, none_lost, none_under}
use Rattle.tera_templates.proofs.lost.lost_words.Goals as goal

pub loop-start-init : goal.loop-start-init
loop-start-init c = λ n at. (
  λ has. absurd (none_under c.new-lost.result n at c.new-lost.ensures.empty has),
  λ is. absurd (none_lost c.args.source.now c.args.text.now n at is),
)

pub loop-start-preserved : goal.loop-start-preserved
loop-start-preserved c = λ n at.
    let source = c.args.source.now in
    let text = c.args.text.now in
    let items = c.deref-start-items.result.now in
    let i = c.loop-start.start-index in
    let w = get_or items i (0, 0) in
    let within : i < length items = c.loop-start-test.true in
    let is : IsBetween source w.0 w.1 = (c.in_ok-words.ensures w.0 w.1).0 (subst (λ ws. Contains ws w) c.deref-start-items.ensures.value (Contains-get_or items i (0, 0) within)) in
    subst (λ ws. Contains (places_under c.put_if_lost.new.lost n) at ↔ IsLostIn source text ws n at) (sym (take_more items i (0, 0) within))
    (lost_more source text (take i items) w c.loop-start.lost c.put_if_lost.new.lost n at (c.loop-start.invariant n at) (c.in_ok-put_if_lost.ensures is n at))

pub returns : goal.returns
returns c = λ n at.
    let words = c.in_ok-words.words.items in
    let all : take c.loop-start.start-index c.deref-start-items.result.now ≡ words
    = take_all c.loop-start.start-index c.deref-start-items.result.now c.loop-start-test.false ∙ c.deref-start-items.ensures.value in
    let are = lost_are c.args.source.now c.args.text.now words n at c.in_ok-words.ensures in
    let known = subst (λ ws. Contains (places_under c.loop-start.lost n) at ↔ IsLostIn c.args.source.now c.args.text.now ws n at) all (c.loop-start.invariant n at) in
    (λ has. are.0 (known.0 has), λ is. known.1 (are.1 is))
