-- Of bodies.
use Rattle.std.proofs.Common.{◌≡◌, ◌∙◌, ◌∷◌, ◌-◌, suc, inl, inr, map, refl, sym, ap, subst, arith, ◌++◌}
use Rattle.std.proofs.lemmas.Result.{err_from_is_err_and}
use Rattle.tera_lexer.specs.code.Cursors.{Position}
use Rattle.tera_ast.specs.View.{node_view}
use Rattle.tera_grammar.specs.Reads.{found}
use Rattle.tera_grammar.specs.statements.Grammar.{Single, Text, in_loop}
use Rattle.tera_grammar.specs.statements.Output.{added_nodes}
use Rattle.tera_grammar.specs.statements.Reading.{body}
use Rattle.tera_grammar.specs.statements.Reading.TagParts.{front}
use Rattle.tera_grammar.proofs.statements.Loops.{going_ends, going_on, going_refused, going_starts}
use Rattle.tera_statements.specs.Adding.{here, seen_of}
use Rattle.tera_statements.specs.Around.{context_of}
use Rattle.tera_expr_parts.specs.Allowed.{limits_of}
use Rattle.tera_expect.specs.Taking.{GoesOn}
use Rattle.tera_tags.specs.Known.{located_of}
use Rattle.tera_statements.proofs.BodiesLemmas.{no_depth}
use Rattle.tera_statements.proofs.ItemsLemmas.{step_holds}
use Rattle.tera_tags.proofs.KnowingLemmas.{inside_elsewhere}
use Rattle.tera_expect.proofs.TakingLemmas.{took_size, goes_further, stays, took_goes}
use Rattle.tera_expect.proofs.Steps.{failed_as}
use Rattle.tera_statements.proofs.+bodies.Goals as goal

pub bodies::body-returns-then-depth-eq0-clause-gives : goal.bodies::body-returns-then-depth-eq0-clause-gives
bodies::body-returns-then-depth-eq0-clause-gives t c = λ path represents. inr (inl (no_depth c.args.depth (limits_of c.args.setting.now.limits) _ _ c.if-depth-eq0.true))

pub bodies::body-items-init : goal.bodies::body-items-init
bodies::body-items-init t c = record {
  going = λ path represents.
      let inside = context_of c.args.opening.now.context ∷ path in
      let start = here c.args.names.now c.args.cursor.now in
      going_starts (limits_of c.args.setting.now.limits) (c.args.depth - 1) inside (in_loop inside) start start (map node_view c.new-nodes.result.items)
      (ap (map node_view) c.new-nodes.ensures.items) refl;
  later = stays c.args.cursor.now;
}

pub bodies::body-returns-in_err-later-clause-gives : goal.bodies::body-returns-in_err-later-clause-gives
bodies::body-returns-in_err-later-clause-gives t c = λ path represents.
    let l = limits_of c.args.setting.now.limits in
    let inside = context_of c.args.opening.now.context ∷ path in
    let start = here c.args.names.now c.args.cursor.now in
    let p = err_from_is_err_and c.from_residual.result c.from_residual.ensures.1 in
    let deep : c.args.depth ≡ suc (c.args.depth - 1) = omega arith in
    let fact = c.in_err-later.ensures.gives inside (c.inside-inside.ensures.represents path represents) in
    rw (p.1, p.2) (failed_as _ _ _ _ (λ z h. ap (λ n. body n l inside start) deep
    ∙ going_refused l (c.args.depth - 1) inside (in_loop inside) start (here c.items.names c.items.cursor) (map node_view c.items.nodes.items) (c.items.invariant.going path represents) z h) fact)

pub bodies::body-items-preserved : goal.bodies::body-items-preserved
bodies::body-items-preserved t c = record {
  going = λ path represents.
      let l = limits_of c.args.setting.now.limits in
      let inside = context_of c.args.opening.now.context ∷ path in
      let start = here c.args.names.now c.args.cursor.now in
      let gives = rw c.in-Some.is at c.in_ok-later.ensures.gives in
      let (i, read, shows) = gives inside (c.inside-inside.ensures.represents path represents) in
      going_on l (c.args.depth - 1) inside (in_loop inside) start (here c.items.names c.items.cursor) (map node_view c.items.nodes.items) i (here c.next_node.new.names c.next_node.new.cursor)
      (map node_view c.next_node.new.nodes.items) (c.items.invariant.going path represents) read shows;
  later = goes_further _ _ _ c.items.invariant.later (took_goes _ _ (rw c.in-Some.is at c.in_ok-later.ensures.later));
}

pub bodies::body-items-smaller : goal.bodies::body-items-smaller
bodies::body-items-smaller t c = took_size c.items.cursor c.next_node.new.cursor (rw c.in-Some.is at c.in_ok-later.ensures.later)

pub bodies::body-returns-clause-gives : goal.bodies::body-returns-clause-gives
bodies::body-returns-clause-gives t c = λ path represents.
    let l = limits_of c.args.setting.now.limits in
    let inside = context_of c.args.opening.now.context ∷ path in
    let start = here c.args.names.now c.args.cursor.now in
    let deep : c.args.depth ≡ suc (c.args.depth - 1) = omega arith in
    let gives = rw c.in_default.is at c.in_ok-later.ensures.gives in
    let none = gives inside (c.inside-inside.ensures.represents path represents) in
    let (b, read, shows) = going_ends l (c.args.depth - 1) inside (in_loop inside) start (here c.items.names c.items.cursor) (map node_view c.items.nodes.items) (c.items.invariant.going path represents) none.0 in
    (b, ap (λ n. body n l inside start) deep ∙ read ∙ ap (λ p. found (b, p)) (sym none.1), none.2 ∙ shows)

pub bodies::body-returns-clause-later : goal.bodies::body-returns-clause-later
bodies::body-returns-clause-later t c =
    let stayed = rw c.in_default.is at c.in_ok-later.ensures.later in
    subst (λ (q : Position). GoesOn c.args.cursor.now q) (sym stayed) c.items.invariant.later

pub bodies::next_node-returns-in_ok-push_text-in-Some-clause-gives : goal.bodies::next_node-returns-in_ok-push_text-in-Some-clause-gives
bodies::next_node-returns-in_ok-push_text-in-Some-clause-gives t c = λ path represents.
    let l = limits_of c.args.setting.now.limits in
    let text = c.in-Some.text.now in
    let following = c.eat_text.new.cursor in (
      Single (Text text following.span),
      step_holds l (body c.args.depth l) path (seen_of c.args.names.now) c.args.cursor.now.left (front c.args.cursor.now.left) text following.span following.left c.in-Some.ensures.0,
      c.in_ok-push_text-in-Some.ensures.pushed,
    )

pub bodies::next_node-returns-in-None-clause-gives : goal.bodies::next_node-returns-in-None-clause-gives
bodies::next_node-returns-in-None-clause-gives t c = rw c.in-None.ensures.0 at c.item_node.ensures.gives

pub bodies::next_node-returns-in-None-clause-refusal : goal.bodies::next_node-returns-in-None-clause-refusal
bodies::next_node-returns-in-None-clause-refusal t c = rw c.in-None.ensures.0 at c.item_node.ensures.refusal

pub bodies::next_node-returns-in-None-clause-later : goal.bodies::next_node-returns-in-None-clause-later
bodies::next_node-returns-in-None-clause-later t c = rw c.in-None.ensures.0 at c.item_node.ensures.later

pub bodies::item_node-returns-in_err-added-clause-gives : goal.bodies::item_node-returns-in_err-added-clause-gives
bodies::item_node-returns-in_err-added-clause-gives t c = λ path represents.
    let p = err_from_is_err_and c.from_residual.result c.from_residual.ensures.1 in
    rw (p.1, p.2) (c.in_err-added.ensures.gives path represents)

pub bodies::item_node-returns-in_default-clause-gives : goal.bodies::item_node-returns-in_default-clause-gives
bodies::item_node-returns-in_default-clause-gives t c = λ path represents.
    let gives = rw c.in_default.is at c.in_ok-added.ensures.gives in
    let none = gives path represents in
    (none.0, none.1, refl)

pub bodies::item_node-returns-clause-gives : goal.bodies::item_node-returns-clause-gives
bodies::item_node-returns-clause-gives t c = λ path represents.
    let gives = rw c.in-Some.is at c.in_ok-added.ensures.gives in
    let (i, read, shows) = gives path represents in
    (i, read, c.in_ok-push_node.ensures.pushed ∙ ap (λ a. map node_view c.args.nodes.now.items ++ added_nodes a) shows)

pub bodies::item_node-returns-in_err-added-clause-refusal : goal.bodies::item_node-returns-in_err-added-clause-refusal
bodies::item_node-returns-in_err-added-clause-refusal t c =
    let p = err_from_is_err_and c.from_residual.result c.from_residual.ensures.1 in
    rw (p.1, p.2) (inside_elsewhere _ (located_of c.args.names.now.components) _ _ _ c.requires.inner c.in_err-added.ensures.refusal)
