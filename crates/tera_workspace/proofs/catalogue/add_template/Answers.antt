use Rattle.std.proofs.Common.{◌≡◌, ◌∙◌, ◌∷◌, [], ap, sym}
use Rattle.tera_tree.specs.View.{definition_view}
use Rattle.tera_check.specs.Named.{known_in, known_at, defined_from, first_named, or_else}
use Rattle.tera_workspace.proofs.NeededLemmas.{unwanted, definition_next, none_left}
use Rattle.tera_workspace.proofs.catalogue.add_template.Goals as goal
use Rattle.tera_workspace.proofs.catalogue.add_template.Goals.{then-contains+in_ok-add_known, else-contains}

pub loop-at-init : goal.loop-at-init
loop-at-init c = λ n has.
    ap (λ ds. or_else (known_in c.args.catalogue.now n) (first_named n (defined_from c.args.number c.args.template.now 0 ds))) (sym c.definitions_of-definition-items.ensures)

pub loop-at-preserved : goal.loop-at-preserved
loop-at-preserved c = λ n has.
    let map = c.loop-at.catalogue in
    let d = c.definition-item.result in
    let one = known_at c.args.number c.args.template.now c.loop-at.at (definition_view d) in
    let step : known_in c.if-contains.catalogue n ≡ or_else (known_in map n) (first_named n (one ∷ [])) = elim c.if-contains.branch [
      | then-contains+in_ok-add_known w ↦
          ap (λ m. known_in m n) w.catalogue-is
          ∙ (w.in_ok-add_known.ensures n ∙ ap (λ k. or_else (known_in map n) (first_named n (k ∷ []))) w.known_at.ensures)
      | else-contains w ↦
          ap (λ m. known_in m n) w.catalogue-is
          ∙ unwanted c.args.needed.now one n c.as_str.result.now (known_in map n) c.as_str.ensures.value (sym w.if-contains.ensures) has
    ] in
    definition_next n c.args.number c.args.template.now c.definitions_of-definition-items.result.now c.loop-at.at d (known_in map n) (known_in c.if-contains.catalogue n) _
    c.loop-at-test.true c.definition-item.is (c.loop-at.invariant n has) step

pub returns : goal.returns
returns c = λ n has.
    sym (none_left n c.args.number c.args.template.now c.definitions_of-definition-items.result.now c.loop-at.at _ (known_in c.loop-at.catalogue n)
    c.loop-at-test.false (c.loop-at.invariant n has))
