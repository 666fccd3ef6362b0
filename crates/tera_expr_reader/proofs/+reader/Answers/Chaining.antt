-- Of chains and calls of functions.
use Rattle.std.proofs.Common.{rules, ◌≡◌, ap, sym, subst, ◌∙◌, arith}
use Rattle.std.proofs.lemmas.Result.{err_from_is_err_and}
use Rattle.tera_lexer.specs.code.Cursors.{Position}
use Rattle.tera_ast.specs.Tree as tree
use Rattle.tera_ast.specs.View.{expression_view}
use Rattle.tera_grammar.specs.expressions.Concrete.{field, item}
use Rattle.tera_grammar.specs.expressions.Output.{of_loop, links_output, sub_output}
use Rattle.tera_grammar.specs.expressions.Reading.Front.{at, link_of}
use Rattle.tera_grammar.specs.expressions.Reading.Loop.{expr}
use Rattle.tera_grammar.specs.expressions.Reading.Bracketed.{links_of}
use Rattle.tera_expr_reader.specs.Chains.{subscripted}
use Rattle.tera_expr_parts.specs.Rooms.{room_of}
use Rattle.tera_expect.specs.Taking.{name_in}
use Rattle.tera_expect.proofs.TakingLemmas.{stays, eats_size, goes_further, took_goes}
use Rattle.tera_expr_reader.proofs.ChainsLemmas.{chain_negatable, Chaining, chaining_begins, chain_whole, chain_longer, chaining_fails, shrinks, joint_of, bracket_of, joint_there, bracket_there, joint_optional, bracket_optional, field_adds, field_lacks, field_uncounted, item_adds, item_lacks, item_uncounted, ends_alike}
use Rattle.tera_expr_reader.proofs.+reader.Goals as goal

pub chains::with_links-growing-init : goal.chains::with_links-growing-init
chains::with_links-growing-init t c =
    let here : c.args.cursor.now.span ≡ c.args.first.now = search rules in
    let l = c.args.room.scope.in_loop in
    let n = name_in c.args.name.now c.args.first.now in
    let f = expr c.args.depth in
    let w = room_of c.args.room in
    let p = at c.args.links.now c.args.cursor.now.left in
    let e = expression_view c.in_ok-chain.chain in
    let made = c.in_ok-chain.ensures ∙ ap (λ s. tree.Var c.args.name.now s) c.copied.ensures in
    record {
      chaining = subst (λ s. Chaining l c.is_loop-fields_of_loop.result n (links_of f w (of_loop l n) p) (links_of f w c.is_loop-fields_of_loop.result) e s p) (sym here)
          (chaining_begins l c.is_loop-fields_of_loop.result n c.args.depth w (links_of f w (of_loop l n) p) e p made (ap (λ b. links_of f w b p) (sym c.is_loop-fields_of_loop.ensures)));
      later = stays c.args.cursor.now;
    }

pub chains::with_links-returns-in_err-whole-clause-gives : goal.chains::with_links-returns-in_err-whole-clause-gives
chains::with_links-returns-in_err-whole-clause-gives t c =
    let p = err_from_is_err_and c.from_residual-in_err-whole.result c.from_residual-in_err-whole.ensures.1 in
    rw (p.1, p.2) (chaining_fails _ _ _ c.args.depth (room_of c.args.room) _ (expression_view c.growing.chain) c.growing.cursor.span (at c.growing.links c.growing.cursor.left) _ _ c.growing.invariant.chaining c.in_err-whole.ensures.gives)

pub chains::with_links-returns-in-Whole-clause-gives : goal.chains::with_links-returns-in-Whole-clause-gives
chains::with_links-returns-in-Whole-clause-gives t c =
    let gives = rw c.in-Whole.is at c.in_ok-whole.ensures.gives in
    let later = rw c.in-Whole.is at c.in_ok-whole.ensures.later in
    chain_whole _ _ _ c.args.depth (room_of c.args.room) _ c.growing.chain c.in-Whole.whole c.growing.cursor c.with_link.new.cursor _ _ c.growing.invariant.chaining gives later c.is_loop-fields_of_loop.ensures

pub chains::with_links-growing-preserved : goal.chains::with_links-growing-preserved
chains::with_links-growing-preserved t c =
    let gives = rw c.in-Longer.is at c.in_ok-whole.ensures.gives in
    let later = rw c.in-Longer.is at c.in_ok-whole.ensures.later in
    record {
      chaining = chain_longer _ _ _ c.args.depth (room_of c.args.room) _ c.growing.chain c.in-Longer.longer c.growing.cursor c.with_link.new.cursor _ _ c.growing.invariant.chaining gives;
      later = goes_further _ _ _ c.growing.invariant.later (took_goes _ _ later);
    }

pub chains::with_links-growing-smaller : goal.chains::with_links-growing-smaller
chains::with_links-growing-smaller t c =
    let later = rw c.in-Longer.is at c.in_ok-whole.ensures.later in
    shrinks c.growing.cursor c.with_link.new.cursor later

pub chains::with_link-returns-in_err-count_link-in-Field-clause-gives : goal.chains::with_link-returns-in_err-count_link-in-Field-clause-gives
chains::with_link-returns-in_err-count_link-in-Field-clause-gives t c =
    let p = err_from_is_err_and c.from_residual.result c.from_residual.ensures.1 in
    rw (p.1, p.2) (field_uncounted (expr c.args.depth) (room_of c.args.room) c.args.fields_of_loop c.args.links.now c.args.cursor.now.left (link_of c.args.cursor.now.left) c.in-Field.optional _
    (sym c.at.ensures ∙ c.in-Field.is) c.in_err-count_link-in-Field.ensures.fails)

pub chains::with_link-returns-in_err-longer-in-Field-clause-gives : goal.chains::with_link-returns-in_err-longer-in-Field-clause-gives
chains::with_link-returns-in_err-longer-in-Field-clause-gives t c =
    let p = err_from_is_err_and c.from_residual-in_err-longer-in-Field.result c.from_residual-in_err-longer-in-Field.ensures.1 in
    let x = link_of c.args.cursor.now.left in
    let s = c.take_link.new.cursor.span in
    let us = c.take_link.new.cursor.left in
    let o = c.in-Field.optional in
    rw (p.1, p.2) (field_lacks (expr c.args.depth) (room_of c.args.room) c.args.fields_of_loop c.args.links.now c.args.cursor.now.left x (joint_of o s) _ us _ _
    (joint_there x o s us (sym c.at.ensures ∙ c.in-Field.is) c.take_link.ensures.past) c.in_ok-count_link-in-Field.ensures.counts c.in_err-longer-in-Field.ensures.gives)

pub chains::with_link-returns-in_err-count_link-in-Item-clause-gives : goal.chains::with_link-returns-in_err-count_link-in-Item-clause-gives
chains::with_link-returns-in_err-count_link-in-Item-clause-gives t c =
    let p = err_from_is_err_and c.from_residual-in_err-count_link-in-Item.result c.from_residual-in_err-count_link-in-Item.ensures.1 in
    rw (p.1, p.2) (item_uncounted (expr c.args.depth) (room_of c.args.room) c.args.fields_of_loop c.args.links.now c.args.cursor.now.left (link_of c.args.cursor.now.left) c.in-Item.optional _
    (sym c.at.ensures ∙ c.in-Item.is) c.in_err-count_link-in-Item.ensures.fails)

pub chains::with_link-returns-in_err-item-in-Item-clause-gives : goal.chains::with_link-returns-in_err-item-in-Item-clause-gives
chains::with_link-returns-in_err-item-in-Item-clause-gives t c =
    let p = err_from_is_err_and c.from_residual-in_err-item-in-Item.result c.from_residual-in_err-item-in-Item.ensures.1 in
    let x = link_of c.args.cursor.now.left in
    let s = c.take_link-in-Item.new.cursor.span in
    let us = c.take_link-in-Item.new.cursor.left in
    let o = c.in-Item.optional in
    rw (p.1, p.2) (item_lacks (expr c.args.depth) (room_of c.args.room) c.args.fields_of_loop c.args.links.now c.args.cursor.now.left x (bracket_of o s) _ us _ _
    (bracket_there x o s us (sym c.at.ensures ∙ c.in-Item.is) c.take_link-in-Item.ensures.past) c.in_ok-count_link-in-Item.ensures.counts c.in_err-item-in-Item.ensures.gives)

pub chains::with_link-returns-in_ok-longer-in-Field-clause-gives : goal.chains::with_link-returns-in_ok-longer-in-Field-clause-gives
chains::with_link-returns-in_ok-longer-in-Field-clause-gives t c =
    let x = link_of c.args.cursor.now.left in
    let s = c.take_link.new.cursor.span in
    let us = c.take_link.new.cursor.left in
    let o = c.in-Field.optional in
    let (n, read, same, shows) = c.in_ok-longer-in-Field.ensures.gives in (
      field (joint_of o s) n,
      field_adds (expr c.args.depth) (room_of c.args.room) c.args.fields_of_loop c.args.links.now c.args.cursor.now.left x (joint_of o s) _ us _ n
          (joint_there x o s us (sym c.at.ensures ∙ c.in-Field.is) c.take_link.ensures.past) c.in_ok-count_link-in-Field.ensures.counts read,
      λ ls. ap (λ e. links_output c.args.room.scope.in_loop c.args.fields_of_loop e ls) (sym (shows (joint_of o s) (joint_optional o s))),
      λ n2 m ls here. ends_alike n m ls (sym same ∙ sym here),
    )

pub chains::with_link-returns-in_ok-with_subscript-in-Item-clause-gives : goal.chains::with_link-returns-in_ok-with_subscript-in-Item-clause-gives
chains::with_link-returns-in_ok-with_subscript-in-Item-clause-gives t c =
    let l = c.args.room.scope.in_loop in
    let x = link_of c.args.cursor.now.left in
    let s = c.take_link-in-Item.new.cursor.span in
    let us = c.take_link-in-Item.new.cursor.left in
    let o = c.in-Item.optional in
    let chain = expression_view c.args.chain in
    let (b, read, shows) = c.in_ok-item-in-Item.ensures.gives in
    let made = c.in_ok-with_subscript-in-Item.ensures ∙ ap (λ z. subscripted c.in_ok-item-in-Item.item o chain z) c.current_span-last.ensures.span ∙ shows.0 o chain in (
      item (bracket_of o s) b,
      item_adds (expr c.args.depth) (room_of c.args.room) c.args.fields_of_loop c.args.links.now c.args.cursor.now.left x (bracket_of o s) _ us b _
          (bracket_there x o s us (sym c.at.ensures ∙ c.in-Item.is) c.take_link-in-Item.ensures.past) c.in_ok-count_link-in-Item.ensures.counts read,
      λ ls. ap (λ e. links_output l c.args.fields_of_loop e ls) (ap (λ q. sub_output l q chain b) (bracket_optional o s) ∙ sym made),
      λ n m ls here. ends_alike _ m ls (sym shows.1 ∙ sym here),
    )

pub chains::chain-with_links-requires : goal.chains::chain-with_links-requires
chains::chain-with_links-requires t c =
    let here : c.args.cursor.now.span ≡ c.args.first.now = search rules in
    let none = rw c.if-eat.false at c.eat.ensures in
    (omega (arith, eats_size _ _ _ _ c.eat.ensures), ap (λ (q : Position). q.span) none.1 ∙ here)

pub chains::chain-returns-else-eat-clause-negatable : goal.chains::chain-returns-else-eat-clause-negatable
chains::chain-returns-else-eat-clause-negatable t c =
    chain_negatable c.args.room.scope.in_loop (name_in c.args.name.now c.args.first.now) c.with_links.new.cursor.span c.with_links.result
    (at c.with_links.new.links c.with_links.new.cursor.left) _ c.with_links.ensures.gives
