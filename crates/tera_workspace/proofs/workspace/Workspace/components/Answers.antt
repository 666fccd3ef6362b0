use Rattle.std.proofs.Common.{◌∙◌, ◌+◌, ◌∷◌, ◌++◌, [], drop, map, refl, sym, ap}
use Rattle.std.proofs.lemmas.List.{map-append, at_drop_more, at_drop_all}
use Rattle.tera_tree.specs.View.{definition_view}
use Rattle.tera_workspace.specs.Components.{components_by}
use Rattle.tera_workspace.specs.Kept.{templates_of}
use Rattle.tera_workspace.proofs.LeftLemmas.{left_next, left_last}
use Rattle.tera_workspace.proofs.workspace.Workspace.components.Goals as goal

pub loop-judged-init : goal.loop-judged-init
loop-judged-init c = rw c.new-names.ensures.items refl

pub loop-definition-init : goal.loop-definition-init
loop-definition-init c =
    let items = c.deref-judged-items.result.now in
    let i = c.loop-judged.judged-index in
    let rest = drop (i + 1) items in
    c.loop-judged.invariant
    ∙ ap (λ ns. map (λ n. n.now) c.loop-judged.names.items ++ ns)
    (at_drop_more (λ js. components_by (templates_of js)) items i c.judged-item.result c.loop-judged-test.true
    ∙ ap (λ j. components_by (templates_of (j ∷ rest))) (sym c.judged-item.is)
    ∙ ap (λ ds. map (λ d. d.name) ds ++ components_by (templates_of rest)) (sym c.definitions_of-definition-items.ensures))

pub loop-definition-preserved : goal.loop-definition-preserved
loop-definition-preserved c =
    let items = c.deref-judged-items.result.now in
    let rest = components_by (templates_of (drop (c.loop-judged.judged-index + 1) items)) in
    let one = c.definition-item.result in
    let done = c.loop-definition.names.items in
    left_next (λ ds. map (λ d. d.name) (map definition_view ds) ++ rest) (components_by (templates_of items)) (map (λ n. n.now) done) (map (λ n. n.now) c.push.new.self.items) ((definition_view one).name ∷ []) c.definitions_of-definition-items.result.now c.loop-definition.definition-index one
    c.loop-definition-test.true c.definition-item.is refl
    (ap (λ ns. map (λ n. n.now) ns) c.in_ok-push.ensures.items ∙ (map-append (λ n. n.now) done (c.as_str.result ∷ []) ∙ ap (λ n. map (λ n. n.now) done ++ n ∷ []) c.as_str.ensures.value))
    c.loop-definition.invariant

pub loop-judged-preserved : goal.loop-judged-preserved
loop-judged-preserved c =
    let rest = components_by (templates_of (drop (c.loop-judged.judged-index + 1) c.deref-judged-items.result.now)) in
    c.loop-definition.invariant
    ∙ ap (λ ns. map (λ n. n.now) c.loop-definition.names.items ++ ns)
    (at_drop_all (λ ds. map (λ d. d.name) (map definition_view ds) ++ rest) c.definitions_of-definition-items.result.now c.loop-definition.definition-index c.loop-definition-test.false)

pub returns : goal.returns
returns c =
    let items = c.deref-judged-items.result.now in
    left_last (λ js. components_by (templates_of js)) (components_by (templates_of items)) (map (λ n. n.now) c.loop-judged.names.items) items c.loop-judged.judged-index
    c.loop-judged-test.false refl c.loop-judged.invariant
    ∙ ap (λ js. components_by (templates_of js)) c.deref-judged-items.ensures.value
