use Rattle.std.proofs.Common.{◌≡◌, ◌<◌, ◌≤◌, ◌+◌, ◌∷◌, ◌++◌, ◌∙◌, ◌↔◌, [], true, false, ℕ, List, length, take, get_or, ap, sym, subst, arith}
use Rattle.std.specs.BTreeSet.{BTreeSet, keys}
use Rattle.std.specs.List.{Contains}
use Rattle.std.proofs.lemmas.List.{take_all, take_more}
use Rattle.tera_templates.proofs.PlaceLemmas.{IsWordIn, none_placed, placed_are, placed_more, placed_other}
use Rattle.tera_templates.proofs.lost.places_of.Goals as goal
use Rattle.tera_templates.proofs.lost.places_of.Goals.{then-is_between+in_ok-insert, else-is_between}

pub loop-start-init : goal.loop-start-init
loop-start-init c = λ at. (
  λ has. absurd (omega (arith, (subst (λ ks. Contains ks at) c.new-places.ensures.empty has).1)),
  λ is. absurd (none_placed c.args.text.now c.args.word.now at is),
)

pub loop-start-preserved : goal.loop-start-preserved
loop-start-preserved c = λ at.
    let text = c.args.text.now in
    let word = c.args.word.now in
    let items = c.deref-start-items.result.now in
    let i = c.loop-start.start-index in
    let w = get_or items i (0, 0) in
    let within : i < length items = c.loop-start-test.true in
    let old = keys c.loop-start.places in
    subst (λ ws. Contains (keys c.if-is_between.places) at ↔ IsWordIn text word ws at) (sym (take_more items i (0, 0) within))
    (elim c.if-is_between.branch [
      | then-is_between+in_ok-insert w2 ↦
          placed_more text word (take i items) w old (keys c.if-is_between.places) at (c.loop-start.invariant at) (c.is_between.ensures.0 w2.if-is_between.true)
          (ap (λ (s : BTreeSet ℕ). keys s) w2.places-is ∙ w2.in_ok-insert.ensures.keys)
      | else-is_between w2 ↦
          subst (λ ks. Contains ks at ↔ IsWordIn text word (take i items ++ w ∷ []) at) (sym (ap (λ (s : BTreeSet ℕ). keys s) w2.places-is))
          (placed_other text word (take i items) w old at (c.loop-start.invariant at)
          (λ has. let both : true ≡ false = sym (c.is_between.ensures.1 has) ∙ w2.if-is_between.false in absurd (let never : true ≡ false = both in cc)))
    ])

pub returns : goal.returns
returns c = λ at.
    let words = c.in_ok-words.words.items in
    let all : take c.loop-start.start-index c.deref-start-items.result.now ≡ words
    = take_all c.loop-start.start-index c.deref-start-items.result.now c.loop-start-test.false ∙ c.deref-start-items.ensures.value in
    let are = placed_are c.args.text.now c.args.word.now words at c.in_ok-words.ensures in
    let known = subst (λ ws. Contains (keys c.loop-start.places) at ↔ IsWordIn c.args.text.now c.args.word.now ws at) all (c.loop-start.invariant at) in
    (λ has. are.0 (known.0 has), λ is. known.1 (are.1 is))
