-- Of arrays and comprehensions.
use Rattle.std.proofs.Common.{◌≡◌, ap, sym, subst, ◌∙◌, refl, rules, [], inl}
use Rattle.std.proofs.lemmas.Result.{err_from_is_err_and}
use Rattle.tera_grammar.specs.Reads.{found, stopped}
use Rattle.tera_lexer.specs.code.Cursors.{Position}
use Rattle.tera_ast.specs.Tree.{OneExpr}
use Rattle.tera_grammar.specs.expressions.Concrete.{ended, no_extra, extra, Atomic, Array, plain, spread, of_items, Comprehension}
use Rattle.tera_grammar.specs.expressions.Marks as marks
use Rattle.tera_grammar.specs.expressions.Marks.{RightBracket, If, Operation}
use Rattle.tera_grammar.specs.expressions.Operators.{In}
use Rattle.tera_grammar.specs.expressions.Output.{output}
use Rattle.tera_grammar.specs.expressions.Reading.Atoms.{array_of, items_from, comprehension_of, variables_of}
use Rattle.tera_grammar.specs.expressions.Reading.Front.{at, takes}
use Rattle.tera_grammar.specs.expressions.Reading.Bracketed.{row_of, after_element, element_of, extra_of}
use Rattle.tera_grammar.specs.expressions.Spans.{spanning}
use Rattle.tera_expr_parts.specs.Rooms.{room_of}
use Rattle.tera_expr_parts.specs.CommaLists.{reader_of}
use Rattle.tera_expect.specs.Taking.{mark_of}
use Rattle.tera_expr_parts.specs.declared.limits.Scope.{Scope}
use Rattle.tera_expr_reader.proofs.ArraysLemmas.{no_room, empty_read, by_spread, by_plain, by_for, by_items, head_by}
use Rattle.tera_expr_reader.proofs.ComprehensionsLemmas.{same_parts, by_variables, no_in, by_target, by_condition, by_end, no_end, extra_absent, extra_present}
use Rattle.tera_expect.proofs.TakingLemmas.{goes_took, took_all, took_further, refused_after}
use Rattle.tera_expr_reader.proofs.ItemsLemmas.{Listed, all_of, no_items, array_shown, lacks_item, lacks_bracket, one_item, first_item, first_lacks_end, array_read, array_missed, spread_read, plain_read}
use Rattle.tera_expect.proofs.Steps.{fails_by as fails_where}
use Rattle.tera_expr_reader.proofs.RowsLemmas.{fails_by}
use Rattle.tera_expr_reader.proofs.+reader.Goals as goal

pub arrays::array-returns-in_err-room-clause-gives : goal.arrays::array-returns-in_err-room-clause-gives
arrays::array-returns-in_err-room-clause-gives t c =
    let f = reader_of c.args.values in
    let w = room_of c.args.values.room in
    let place = at c.args.links.now c.args.cursor.now.left in
    let p = err_from_is_err_and c.from_residual.result c.from_residual.ensures.1 in
    rw (p.1, p.2) (fails_where (array_of f w c.args.first.now place) _ _ (λ none. inl (no_room f w c.args.first.now place none)) c.in_err-room.ensures.fails)

pub arrays::array-returns-then-eat-clause-gives : goal.arrays::array-returns-then-eat-clause-gives
arrays::array-returns-then-eat-clause-gives t c =
    let l = c.args.values.room.scope.in_loop in
    let f = reader_of c.args.values in
    let w = room_of c.args.values.room in
    let v = room_of c.in_ok-room.room in
    let s = c.args.first.now in
    let i = c.args.links.now in
    let r = c.args.cursor.now.left in
    let inside = c.in_ok-room.ensures.opens in
    let mark = rw c.if-eat.true at c.eat.ensures in
    let here = c.eat.new.cursor.span in
    let nothing : c.new.result.items ≡ [] = search rules in
    let listed = subst (λ es. Listed l es here (ended here)) (sym nothing) (all_of l [] (λ r. r) (no_items l) here) in
    let spans : c.spanning-span.result ≡ spanning s here = c.spanning-span.ensures ∙ ap (spanning s) c.current_span.ensures.span in (
      Atomic (Array s (ended here)),
      empty_read f w v s i r inside.0 here c.eat.new.cursor.left mark.0,
      c.in_ok-array_or_constant.ensures ∙ array_shown l c.new.result.items s here (ended here) listed c.spanning-span.result spans,
      refl,
    )

pub arrays::array-returns-in_err-spread-clause-gives : goal.arrays::array-returns-in_err-spread-clause-gives
arrays::array-returns-in_err-spread-clause-gives t c =
    let l = c.args.values.room.scope.in_loop in
    let f = reader_of c.args.values in
    let w = room_of c.args.values.room in
    let v = room_of c.in_ok-room.room in
    let s = c.args.first.now in
    let i = c.args.links.now in
    let r = c.args.cursor.now.left in
    let inside = c.in_ok-room.ensures.opens in
    let none = rw c.if-eat.false at c.eat.ensures in
    let other = rw c.if-eat-2.true at c.eat-2.ensures in
    let mark = ap (λ (q : Position). takes marks.Spread q.left) (sym none.1) ∙ other.0 in
    let p = err_from_is_err_and c.from_residual-in_err-spread.result c.from_residual-in_err-spread.ensures.1 in
    rw (p.1, p.2) (fails_by (array_of f w s (at i r)) (f v 0 (at i c.eat-2.new.cursor.left)) _ _
    (λ z h. by_spread f w v s i r inside.0 none.0 c.eat-2.new.cursor.span c.eat-2.new.cursor.left mark (stopped z) h) c.in_err-spread.ensures.gives)

pub arrays::array-returns-then-eat-2-clause-gives : goal.arrays::array-returns-then-eat-2-clause-gives
arrays::array-returns-then-eat-2-clause-gives t c =
    let l = c.args.values.room.scope.in_loop in
    let f = reader_of c.args.values in
    let w = room_of c.args.values.room in
    let v = room_of c.in_ok-room.room in
    let s = c.args.first.now in
    let i = c.args.links.now in
    let r = c.args.cursor.now.left in
    let inside = c.in_ok-room.ensures.opens in
    let none = rw c.if-eat.false at c.eat.ensures in
    let other = rw c.if-eat-2.true at c.eat-2.ensures in
    let mark = ap (λ (q : Position). takes marks.Spread q.left) (sym none.1) ∙ other.0 in
    let same = ap (λ (k : Scope). k.in_loop) inside.1 in
    let (t, read, shown) = c.in_ok-spread.ensures.gives in
    let q = at c.value.new.links c.value.new.cursor.left in
    head_by c.items.result l c.in_ok-room.room.scope.in_loop c.items.new.cursor.span (at c.items.new.links c.items.new.cursor.left)
    (array_of f w s (at i r)) (items_from f v s (spread c.eat-2.new.cursor.span t) q) same
    (by_spread f w v s i r inside.0 none.0 c.eat-2.new.cursor.span c.eat-2.new.cursor.left mark (found (t, q)) read)
    (c.items.ensures.gives (spread c.eat-2.new.cursor.span t) shown)

pub arrays::array-returns-in_err-element-clause-gives : goal.arrays::array-returns-in_err-element-clause-gives
arrays::array-returns-in_err-element-clause-gives t c =
    let l = c.args.values.room.scope.in_loop in
    let f = reader_of c.args.values in
    let w = room_of c.args.values.room in
    let v = room_of c.in_ok-room.room in
    let s = c.args.first.now in
    let i = c.args.links.now in
    let r = c.args.cursor.now.left in
    let inside = c.in_ok-room.ensures.opens in
    let none = rw c.if-eat.false at c.eat.ensures in
    let other = rw c.if-eat-2.false at c.eat-2.ensures in
    let mark = ap (λ (q : Position). takes marks.Spread q.left) (sym none.1) ∙ other.0 ∙ ap (λ (q : Position). stopped q.left) none.1 in
    let back = ap (λ (q : Position). f v 0 (at i q.left)) (sym (other.1 ∙ none.1)) in
    let p = err_from_is_err_and c.from_residual-in_err-element.result c.from_residual-in_err-element.ensures.1 in
    rw (p.1, p.2) (fails_by (array_of f w s (at i r)) (f v 0 (at i c.eat-2.new.cursor.left)) _ _
    (λ z h. by_plain f w v s i r inside.0 none.0 mark (stopped z) (back ∙ h)) c.in_err-element.ensures.gives)

pub arrays::array-returns-then-eat-3-clause-gives : goal.arrays::array-returns-then-eat-3-clause-gives
arrays::array-returns-then-eat-3-clause-gives t c =
    let l = c.args.values.room.scope.in_loop in
    let f = reader_of c.args.values in
    let w = room_of c.args.values.room in
    let v = room_of c.in_ok-room.room in
    let s = c.args.first.now in
    let i = c.args.links.now in
    let r = c.args.cursor.now.left in
    let inside = c.in_ok-room.ensures.opens in
    let none = rw c.if-eat.false at c.eat.ensures in
    let other = rw c.if-eat-2.false at c.eat-2.ensures in
    let mark = ap (λ (q : Position). takes marks.Spread q.left) (sym none.1) ∙ other.0 ∙ ap (λ (q : Position). stopped q.left) none.1 in
    let back = ap (λ (q : Position). f v 0 (at i q.left)) (sym (other.1 ∙ none.1)) in
    let same = ap (λ (k : Scope). k.in_loop) inside.1 in
    let third = rw c.if-eat-3.true at c.eat-3.ensures in
    let (t, read, shown) = c.in_ok-element.ensures.gives in
    head_by c.comprehension.result l l c.comprehension.new.cursor.span (at c.comprehension.new.links c.comprehension.new.cursor.left)
    (array_of f w s (at i r)) (comprehension_of f w s t c.eat-3.new.cursor.span (at c.value-2.new.links c.eat-3.new.cursor.left)) refl
    (by_for f w v s i r inside.0 none.0 mark t c.value-2.new.links c.value-2.new.cursor.left (back ∙ read) c.eat-3.new.cursor.span c.eat-3.new.cursor.left third.0)
    (c.comprehension.ensures.gives t (shown ∙ ap (λ b. output b t) same))

pub arrays::array-returns-clause-gives : goal.arrays::array-returns-clause-gives
arrays::array-returns-clause-gives t c =
    let l = c.args.values.room.scope.in_loop in
    let f = reader_of c.args.values in
    let w = room_of c.args.values.room in
    let v = room_of c.in_ok-room.room in
    let s = c.args.first.now in
    let i = c.args.links.now in
    let r = c.args.cursor.now.left in
    let inside = c.in_ok-room.ensures.opens in
    let none = rw c.if-eat.false at c.eat.ensures in
    let other = rw c.if-eat-2.false at c.eat-2.ensures in
    let mark = ap (λ (q : Position). takes marks.Spread q.left) (sym none.1) ∙ other.0 ∙ ap (λ (q : Position). stopped q.left) none.1 in
    let back = ap (λ (q : Position). f v 0 (at i q.left)) (sym (other.1 ∙ none.1)) in
    let same = ap (λ (k : Scope). k.in_loop) inside.1 in
    let third = rw c.if-eat-3.false at c.eat-3.ensures in
    let (t, read, shown) = c.in_ok-element.ensures.gives in
    head_by c.items-2.result l c.in_ok-room.room.scope.in_loop c.items-2.new.cursor.span (at c.items-2.new.links c.items-2.new.cursor.left)
    (array_of f w s (at i r)) (items_from f v s (plain t) (at c.value-2.new.links c.eat-3.new.cursor.left)) same
    (by_items f w v s i r inside.0 none.0 mark t c.value-2.new.links c.value-2.new.cursor.left (back ∙ read) third.0
    ∙ ap (λ (q : Position). items_from f v s (plain t) (at c.value-2.new.links q.left)) (sym third.1))
    (c.items-2.ensures.gives (plain t) shown)

pub arrays::items-returns-in_err-open-clause-gives : goal.arrays::items-returns-in_err-open-clause-gives
arrays::items-returns-in_err-open-clause-gives t c = λ x is.
    let p = err_from_is_err_and c.from_residual-in_err-open.result c.from_residual-in_err-open.ensures.1 in
    rw (p.1, p.2) (array_missed (reader_of c.args.values) (room_of c.args.values.room) c.args.first.now x (at c.args.links.now c.args.cursor.now.left) _ _
    (first_lacks_end c.args.values.room.scope.in_loop c.args.values (room_of c.args.values.room) c.args.links.now c.args.cursor.now.left x c.more.new.cursor _ c.in_err-open.ensures.gives))

pub arrays::items-elements-init : goal.arrays::items-elements-init
arrays::items-elements-init t c = record {
  rows = λ x is. first_item c.args.values.room.scope.in_loop c.args.values (room_of c.args.values.room) c.args.links.now c.args.cursor.now.left x c.more.new.cursor c.in_ok-open.open c.in_ok-open.ensures.gives
      c.args.element is c.push.new.self.items (search rules);
  gone = c.in_ok-open.ensures.later;
}

pub arrays::items-returns-in_err-element-clause-gives : goal.arrays::items-returns-in_err-element-clause-gives
arrays::items-returns-in_err-element-clause-gives t c = λ x is.
    let f = reader_of c.args.values in
    let w = room_of c.args.values.room in
    let place = at c.args.links.now c.args.cursor.now.left in
    let o = rw c.elements-test.true at (c.elements.invariant.rows x is) in
    let p = err_from_is_err_and c.from_residual-in_err-element.result c.from_residual-in_err-element.ensures.1 in
    rw (p.1, p.2) (array_missed f w c.args.first.now x place _ _
    (lacks_item c.args.values.room.scope.in_loop c.elements.items.items c.args.values w (after_element (row_of f w of_items) of_items x place)
    c.elements.links c.elements.cursor.left o _ _ c.in_err-element.ensures.gives))

pub arrays::items-returns-in_err-open-2-clause-gives : goal.arrays::items-returns-in_err-open-2-clause-gives
arrays::items-returns-in_err-open-2-clause-gives t c = λ x is.
    let f = reader_of c.args.values in
    let w = room_of c.args.values.room in
    let place = at c.args.links.now c.args.cursor.now.left in
    let o = rw c.elements-test.true at (c.elements.invariant.rows x is) in
    let (y, read, shown) = c.in_ok-element.ensures.gives in
    let p = err_from_is_err_and c.from_residual-in_err-open-2.result c.from_residual-in_err-open-2.ensures.1 in
    rw (p.1, p.2) (array_missed f w c.args.first.now x place _ _
    (lacks_bracket c.args.values.room.scope.in_loop c.elements.items.items c.args.values w (after_element (row_of f w of_items) of_items x place)
    c.elements.links c.elements.cursor.left o y c.item.new.links c.item.new.cursor.left read c.more-in-elements.new.cursor _ c.in_err-open-2.ensures.gives))

pub arrays::items-elements-preserved : goal.arrays::items-elements-preserved
arrays::items-elements-preserved t c =
    let f = reader_of c.args.values in
    let w = room_of c.args.values.room in
    let place = at c.args.links.now c.args.cursor.now.left in
    let (y, read, shown) = c.in_ok-element.ensures.gives in
    record {
      rows = λ x is. let o = rw c.elements-test.true at (c.elements.invariant.rows x is) in
          one_item c.args.values.room.scope.in_loop c.elements.items.items c.args.values w (after_element (row_of f w of_items) of_items x place)
          c.elements.links c.elements.cursor.left o y c.item.new.links c.item.new.cursor.left read c.more-in-elements.new.cursor c.in_ok-open-2.open c.in_ok-open-2.ensures.gives
          c.in_ok-element.element shown c.push-in-elements.new.self.items (search rules);
      gone = took_all _ _ _ c.elements.invariant.gone (took_all _ _ _ c.in_ok-element.ensures.later c.in_ok-open-2.ensures.later);
    }

pub arrays::items-returns-clause-gives : goal.arrays::items-returns-clause-gives
arrays::items-returns-clause-gives t c = λ x is.
    let f = reader_of c.args.values in
    let w = room_of c.args.values.room in
    let place = at c.args.links.now c.args.cursor.now.left in
    let z = rw c.elements-test.false at (c.elements.invariant.rows x is) in
    let spans : c.spanning-span.result ≡ spanning c.args.first.now c.elements.cursor.span = c.spanning-span.ensures ∙ ap (spanning c.args.first.now) c.current_span.ensures.span in (
      Atomic (Array c.args.first.now z.row),
      array_read f w c.args.first.now x place (at c.elements.links c.elements.cursor.left) z.row z.reads,
      c.in_ok-array_or_constant.ensures ∙ array_shown c.args.values.room.scope.in_loop c.elements.items.items c.args.first.now c.elements.cursor.span z.row z.is c.spanning-span.result spans,
      z.is.ends,
    )

pub arrays::item-returns-in_err-spread-clause-gives : goal.arrays::item-returns-in_err-spread-clause-gives
arrays::item-returns-in_err-spread-clause-gives t c =
    let f = reader_of c.args.values in
    let w = room_of c.args.values.room in
    let mark = rw c.if-eat.true at c.eat.ensures in
    let p = err_from_is_err_and c.from_residual.result c.from_residual.ensures.1 in
    rw (p.1, p.2) (fails_by (element_of f w of_items (at c.args.links.now c.args.cursor.now.left)) (f w 0 (at c.args.links.now c.eat.new.cursor.left)) _ _
    (λ z none. spread_read f w c.args.links.now c.args.cursor.now.left c.eat.new.cursor.span c.eat.new.cursor.left (stopped z) mark.0 none) c.in_err-spread.ensures.gives)

pub arrays::item-returns-then-eat-clause-gives : goal.arrays::item-returns-then-eat-clause-gives
arrays::item-returns-then-eat-clause-gives t c =
    let mark = rw c.if-eat.true at c.eat.ensures in
    let (t, read, shown) = c.in_ok-spread.ensures.gives in (
      spread c.eat.new.cursor.span t,
      spread_read (reader_of c.args.values) (room_of c.args.values.room) c.args.links.now c.args.cursor.now.left c.eat.new.cursor.span c.eat.new.cursor.left
          (found (t, at c.value.new.links c.value.new.cursor.left)) mark.0 read,
      shown,
    )

pub arrays::item-returns-in_err-element-clause-gives : goal.arrays::item-returns-in_err-element-clause-gives
arrays::item-returns-in_err-element-clause-gives t c =
    let f = reader_of c.args.values in
    let w = room_of c.args.values.room in
    let none = rw c.if-eat.false at c.eat.ensures in
    let p = err_from_is_err_and c.from_residual-in_err-element.result c.from_residual-in_err-element.ensures.1 in
    rw (p.1, p.2) (fails_by (element_of f w of_items (at c.args.links.now c.args.cursor.now.left)) (f w 0 (at c.args.links.now c.eat.new.cursor.left)) _ _
    (λ z h. plain_read f w c.args.links.now c.args.cursor.now.left (stopped z) none.0 (ap (λ (q : Position). f w 0 (at c.args.links.now q.left)) (sym none.1) ∙ h)) c.in_err-element.ensures.gives)

pub arrays::item-returns-clause-gives : goal.arrays::item-returns-clause-gives
arrays::item-returns-clause-gives t c =
    let f = reader_of c.args.values in
    let w = room_of c.args.values.room in
    let none = rw c.if-eat.false at c.eat.ensures in
    let (t, read, shown) = c.in_ok-element.ensures.gives in (
      plain t,
      plain_read f w c.args.links.now c.args.cursor.now.left (found (t, at c.value-2.new.links c.value-2.new.cursor.left)) none.0
          (ap (λ (q : Position). f w 0 (at c.args.links.now q.left)) (sym none.1) ∙ read),
      shown,
    )

pub arrays::comprehension-returns-in_err-named-clause-gives : goal.arrays::comprehension-returns-in_err-named-clause-gives
arrays::comprehension-returns-in_err-named-clause-gives t c = λ t is.
    let f = reader_of c.args.values in
    let w = room_of c.args.values.room in
    let i = c.args.links.now in
    let p = err_from_is_err_and c.from_residual.result c.from_residual.ensures.1 in
    rw (p.1, p.2) (fails_by (comprehension_of f w c.args.first.now t c.args.cursor.now.span (at i c.args.cursor.now.left)) (variables_of (at i c.args.cursor.now.left)) _ _
    (λ z none. by_variables f w c.args.first.now t c.args.cursor.now.span (at i c.args.cursor.now.left) (stopped z) none) (c.in_err-named.ensures.gives i))

pub arrays::comprehension-returns-in_err-expect-clause-gives : goal.arrays::comprehension-returns-in_err-expect-clause-gives
arrays::comprehension-returns-in_err-expect-clause-gives t c = λ t is.
    let f = reader_of c.args.values in
    let w = room_of c.args.values.room in
    let i = c.args.links.now in
    let (v, named, shown) = c.in_ok-named.ensures.gives i in
    let p = err_from_is_err_and c.from_residual-in_err-expect.result c.from_residual-in_err-expect.ensures.1 in
    rw (p.1, p.2) (fails_by (comprehension_of f w c.args.first.now t c.args.cursor.now.span (at i c.args.cursor.now.left)) (takes (Operation In) c.variables.new.cursor.left) _ _
    (no_in f w c.args.first.now t c.args.cursor.now.span (at i c.args.cursor.now.left) v i c.variables.new.cursor.left named) c.in_err-expect.ensures.gives)

pub arrays::comprehension-returns-in_err-target-clause-gives : goal.arrays::comprehension-returns-in_err-target-clause-gives
arrays::comprehension-returns-in_err-target-clause-gives t c = λ t is.
    let f = reader_of c.args.values in
    let w = room_of c.args.values.room in
    let i = c.args.links.now in
    let (v, named, shown) = c.in_ok-named.ensures.gives i in
    let p = err_from_is_err_and c.from_residual-in_err-target.result c.from_residual-in_err-target.ensures.1 in
    rw (p.1, p.2) (fails_by (comprehension_of f w c.args.first.now t c.args.cursor.now.span (at i c.args.cursor.now.left)) (f w 1 (at i c.expect.new.cursor.left)) _ _
    (λ z none. by_target f w c.args.first.now t c.args.cursor.now.span (at i c.args.cursor.now.left) v i c.variables.new.cursor.left named
    c.expect.new.cursor.left c.expect.new.cursor.span c.in_ok-expect.ensures.gives (stopped z) none) c.in_err-target.ensures.gives)

pub arrays::comprehension-returns-in_err-condition-clause-gives : goal.arrays::comprehension-returns-in_err-condition-clause-gives
arrays::comprehension-returns-in_err-condition-clause-gives t c = λ t is.
    let f = reader_of c.args.values in
    let w = room_of c.args.values.room in
    let i = c.args.links.now in
    let (v, named, shown) = c.in_ok-named.ensures.gives i in
    let (u, target, targeted) = c.in_ok-target.ensures.gives in
    let p = err_from_is_err_and c.from_residual-in_err-condition.result c.from_residual-in_err-condition.ensures.1 in
    rw (p.1, p.2) (fails_by (comprehension_of f w c.args.first.now t c.args.cursor.now.span (at i c.args.cursor.now.left)) (extra_of f w If 1 (at c.value.new.links c.value.new.cursor.left)) _ _
    (λ z none. by_condition f w c.args.first.now t c.args.cursor.now.span (at i c.args.cursor.now.left) v i c.variables.new.cursor.left named
    c.expect.new.cursor.left c.expect.new.cursor.span c.in_ok-expect.ensures.gives u (at c.value.new.links c.value.new.cursor.left) target (stopped z) none) c.in_err-condition.ensures.gives)

pub arrays::comprehension-returns-in_err-close_comprehension-clause-gives : goal.arrays::comprehension-returns-in_err-close_comprehension-clause-gives
arrays::comprehension-returns-in_err-close_comprehension-clause-gives t c = λ t is.
    let f = reader_of c.args.values in
    let w = room_of c.args.values.room in
    let i = c.args.links.now in
    let (v, named, shown) = c.in_ok-named.ensures.gives i in
    let (u, target, targeted) = c.in_ok-target.ensures.gives in
    let (g, condition, conditioned) = c.in_ok-condition.ensures.gives in
    let p = err_from_is_err_and c.from_residual-in_err-close_comprehension.result c.from_residual-in_err-close_comprehension.ensures.1 in
    rw (p.1, p.2) (fails_by (comprehension_of f w c.args.first.now t c.args.cursor.now.span (at i c.args.cursor.now.left)) (takes RightBracket c.extra.new.cursor.left) _ _
    (no_end f w c.args.first.now t c.args.cursor.now.span (at i c.args.cursor.now.left) v i c.variables.new.cursor.left named
    c.expect.new.cursor.left c.expect.new.cursor.span c.in_ok-expect.ensures.gives u (at c.value.new.links c.value.new.cursor.left) target g c.extra.new.links c.extra.new.cursor.left condition)
    c.in_err-close_comprehension.ensures.gives)

pub arrays::comprehension-returns-in_err-close_comprehension-clause-refusal : goal.arrays::comprehension-returns-in_err-close_comprehension-clause-refusal
arrays::comprehension-returns-in_err-close_comprehension-clause-refusal t c =
    let p = err_from_is_err_and c.from_residual-in_err-close_comprehension.result c.from_residual-in_err-close_comprehension.ensures.1 in
    let before = took_all _ _ _ c.in_ok-named.ensures.later (took_all _ _ _ c.in_ok-expect.ensures.later c.in_ok-target.ensures.later) in
    rw (p.1, p.2) (refused_after _ _ _ _ (took_further _ _ _ before c.in_ok-condition.ensures.later) c.in_err-close_comprehension.ensures.refusal)

pub arrays::comprehension-returns-clause-gives : goal.arrays::comprehension-returns-clause-gives
arrays::comprehension-returns-clause-gives t c = λ t is.
    let f = reader_of c.args.values in
    let w = room_of c.args.values.room in
    let i = c.args.links.now in
    let (v, named, shown) = c.in_ok-named.ensures.gives i in
    let (u, target, targeted) = c.in_ok-target.ensures.gives in
    let (g, condition, conditioned) = c.in_ok-condition.ensures.gives in
    let spans : c.spanning-span.result ≡ spanning c.args.first.now c.close_comprehension.new.cursor.span = c.spanning-span.ensures ∙ ap (spanning c.args.first.now) c.current_span.ensures.span in (
      Atomic (Comprehension c.args.first.now t c.args.cursor.now.span v.0 v.1 c.expect.new.cursor.span u g c.close_comprehension.new.cursor.span),
      by_end f w c.args.first.now t c.args.cursor.now.span (at i c.args.cursor.now.left) v i c.variables.new.cursor.left named
          c.expect.new.cursor.left c.expect.new.cursor.span c.in_ok-expect.ensures.gives u (at c.value.new.links c.value.new.cursor.left) target g c.extra.new.links c.extra.new.cursor.left condition
          c.close_comprehension.new.cursor.span c.close_comprehension.new.cursor.left c.in_ok-close_comprehension.ensures.gives,
      c.in_ok-comprehension.ensures ∙ same_parts _ _ _ _ _ _ _ _ _ _ _ _ is shown.0 shown.1 targeted conditioned spans,
      refl,
    )

pub arrays::comprehension-returns-clause-later : goal.arrays::comprehension-returns-clause-later
arrays::comprehension-returns-clause-later t c =
    took_all _ _ _ c.in_ok-named.ensures.later (took_all _ _ _ c.in_ok-expect.ensures.later
    (took_all _ _ _ c.in_ok-target.ensures.later (goes_took _ _ _ c.in_ok-condition.ensures.later c.in_ok-close_comprehension.ensures.later)))

pub arrays::extra-returns-in_err-value-clause-gives : goal.arrays::extra-returns-in_err-value-clause-gives
arrays::extra-returns-in_err-value-clause-gives t c =
    let f = reader_of c.args.values in
    let w = room_of c.args.values.room in
    let mark = rw c.if-eat.true at c.eat.ensures in
    let p = err_from_is_err_and c.from_residual.result c.from_residual.ensures.1 in
    rw (p.1, p.2) (fails_by (extra_of f w (mark_of c.args.before) c.args.least (at c.args.links.now c.args.cursor.now.left)) (f w c.args.least (at c.args.links.now c.eat.new.cursor.left)) _ _
    (λ z none. extra_present f w (mark_of c.args.before) c.args.least c.args.links.now c.args.cursor.now.left c.eat.new.cursor.span c.eat.new.cursor.left (stopped z) mark.0 none) c.in_err-value.ensures.gives)

pub arrays::extra-returns-in_ok-value-clause-gives : goal.arrays::extra-returns-in_ok-value-clause-gives
arrays::extra-returns-in_ok-value-clause-gives t c =
    let mark = rw c.if-eat.true at c.eat.ensures in
    let (t, read, shown) = c.in_ok-value.ensures.gives in (
      extra c.eat.new.cursor.span t,
      extra_present (reader_of c.args.values) (room_of c.args.values.room) (mark_of c.args.before) c.args.least c.args.links.now c.args.cursor.now.left c.eat.new.cursor.span c.eat.new.cursor.left
          (found (t, at c.value.new.links c.value.new.cursor.left)) mark.0 read,
      ap OneExpr shown,
    )

pub arrays::extra-returns-else-eat-clause-gives : goal.arrays::extra-returns-else-eat-clause-gives
arrays::extra-returns-else-eat-clause-gives t c =
    let none = rw c.if-eat.false at c.eat.ensures in
    rw none.1 (no_extra, extra_absent (reader_of c.args.values) (room_of c.args.values.room) (mark_of c.args.before) c.args.least c.args.links.now c.args.cursor.now.left none.0, refl)
