use Rattle.std.proofs.Common.{◌∷◌, [], ◌++◌, Bor, ℕ, List, sym, ap, ◌∙◌, subst}
use Rattle.std.specs.Iterator.{Yields}
use Rattle.std.proofs.lemmas.List.{map-append}
use Rattle.tera_tree.specs.Calls.{texts}
use Rattle.tera_tree.proofs.CallNames.{unknown_known, unknown_new}
use Rattle.tera_tree.proofs.ast.ComponentDefinition.unknown_names.Goals as goal

pub loop-name-preserved : goal.loop-name-preserved
loop-name-preserved g c = c.loop-name.invariant ∙ sym (unknown_known c.args.self.now.kwargs.entries c.loop-name.yielded c.in-Some.name c.if-not-contains_key.ensures)

pub loop-name-preserved-in-Continue-1 : goal.loop-name-preserved-in-Continue-1
loop-name-preserved-in-Continue-1 g c =
    ap texts c.in_ok-push.ensures.items
    ∙ map-append (λ (n : Bor (List ℕ)). n.now) c.loop-name.names.items (c.in-Some.name ∷ [])
    ∙ ap (λ ns. ns ++ c.in-Some.name.now ∷ []) c.loop-name.invariant
    ∙ sym (unknown_new c.args.self.now.kwargs.entries c.loop-name.yielded c.in-Some.name c.if-not-contains_key.ensures)

pub returns : goal.returns
returns g c = (c.loop-name.yielded, (c.next.new.self, (c.loop-name.name-iterator, subst (λ (s : g.row.I.Denot). Yields g.I.Iterator.next_gives s c.loop-name.yielded c.loop-name.name-iterator) c.into_iter-name-iterator.ensures.into_iter_gives c.loop-name.yielded_by, c.in-None.ensures.steps)), c.loop-name.invariant)
