-- Of subscripts.
use Rattle.std.proofs.Common.{◌≡◌, ap, sym, subst, ◌∙◌, refl}
use Rattle.std.proofs.lemmas.Result.{err_from_is_err_and}
use Rattle.tera_grammar.specs.Reads.{found}
use Rattle.tera_ast.specs.Tree.{OneExpr}
use Rattle.tera_grammar.specs.expressions.Concrete.{absent, present, index, slice, no_extra, extra}
use Rattle.tera_grammar.specs.expressions.Marks.{RightBracket}
use Rattle.tera_grammar.specs.expressions.Reading.Front.{at, takes}
use Rattle.tera_grammar.specs.expressions.Reading.Loop.{expr}
use Rattle.tera_expr_parts.specs.Rooms.{room_of}
use Rattle.tera_expr_reader.proofs.SubscriptsLemmas.{sub_from_colon, sub_fails, sub_sliced, index_unclosed, index_given, indexed_alike, read_alike, untaken, slice_given, slice_without_end, slice_without_step, slice_unclosed, sliced_alike, end_before_colon, end_before_bracket, end_given, no_step, step_given}
use Rattle.tera_expr_reader.proofs.+reader.Goals.{subscripts::end-then-begins-via-then-begins, subscripts::end-then-begins-via-else-begins+then-begins-2}
use Rattle.tera_expr_reader.proofs.+reader.Goals as goal

pub subscripts::read_subscript-returns-then-eat-clause-gives : goal.subscripts::read_subscript-returns-then-eat-clause-gives
subscripts::read_subscript-returns-then-eat-clause-gives t c =
    let room = c.in_ok-inside.ensures.opens in
    let colon = rw c.if-eat.true at c.eat.ensures in
    read_alike c.args.room.scope.in_loop c.in_ok-inside.inside.scope.in_loop c.slice.new.cursor.span c.slice.result _ _ _ (ap (λ s. s.in_loop) room.1)
    (sub_from_colon (expr c.args.depth) (room_of c.args.room) (room_of c.in_ok-inside.inside) _ c.args.cursor.now.left c.eat.new.cursor.left c.eat.new.cursor.span room.0 colon.0)
    (c.slice.ensures.gives absent c.eat.new.cursor.span refl)

pub subscripts::read_subscript-returns-in_err-first-clause-gives : goal.subscripts::read_subscript-returns-in_err-first-clause-gives
subscripts::read_subscript-returns-in_err-first-clause-gives t c =
    let room = c.in_ok-inside.ensures.opens in
    let none = rw c.if-eat.false at c.eat.ensures in
    let p = err_from_is_err_and c.from_residual-in_err-first.result c.from_residual-in_err-first.ensures.1 in
    rw (p.1, p.2) (sub_fails (expr c.args.depth) (room_of c.args.room) (room_of c.in_ok-inside.inside) _ c.args.cursor.now.left _ _ room.0 none.0
    (untaken (λ z. expr c.args.depth (room_of c.in_ok-inside.inside) 0 (at c.args.links.now z.left)) c.args.cursor.now c.eat.new.cursor _ _ none.1 c.in_err-first.ensures.gives))

pub subscripts::read_subscript-returns-then-eat-2-clause-gives : goal.subscripts::read_subscript-returns-then-eat-2-clause-gives
subscripts::read_subscript-returns-then-eat-2-clause-gives t c =
    let room = c.in_ok-inside.ensures.opens in
    let none = rw c.if-eat.false at c.eat.ensures in
    let (t, read, is) = c.in_ok-first.ensures.gives in
    let colon = rw c.if-eat-2.true at c.eat-2.ensures in
    let first = subst (λ z. expr c.args.depth (room_of c.in_ok-inside.inside) 0 (at c.args.links.now z.left) ≡ found (t, at c.expression.new.links c.expression.new.cursor.left)) none.1 read in
    read_alike c.args.room.scope.in_loop c.in_ok-inside.inside.scope.in_loop c.slice-then-eat-2.new.cursor.span c.slice-then-eat-2.result _ _ _ (ap (λ s. s.in_loop) room.1)
    (sub_sliced (expr c.args.depth) (room_of c.args.room) (room_of c.in_ok-inside.inside) _ _ c.args.cursor.now.left c.expression.new.cursor.left c.eat-2.new.cursor.left t c.eat-2.new.cursor.span room.0 none.0 first colon.0)
    (c.slice-then-eat-2.ensures.gives (present t) c.eat-2.new.cursor.span (ap OneExpr is))

pub subscripts::read_subscript-returns-in_err-expect-clause-gives : goal.subscripts::read_subscript-returns-in_err-expect-clause-gives
subscripts::read_subscript-returns-in_err-expect-clause-gives t c =
    let room = c.in_ok-inside.ensures.opens in
    let none = rw c.if-eat.false at c.eat.ensures in
    let (t, read, is) = c.in_ok-first.ensures.gives in
    let alone = rw c.if-eat-2.false at c.eat-2.ensures in
    let first = subst (λ z. expr c.args.depth (room_of c.in_ok-inside.inside) 0 (at c.args.links.now z.left) ≡ found (t, at c.expression.new.links c.expression.new.cursor.left)) none.1 read in
    let p = err_from_is_err_and c.from_residual-in_err-expect.result c.from_residual-in_err-expect.ensures.1 in
    rw (p.1, p.2) (index_unclosed (expr c.args.depth) (room_of c.args.room) (room_of c.in_ok-inside.inside) _ _ c.args.cursor.now.left c.expression.new.cursor.left t _ _ room.0 none.0 first alone.0
    (untaken (λ z. takes RightBracket z.left) c.expression.new.cursor c.eat-2.new.cursor _ _ alone.1 c.in_err-expect.ensures.gives))

pub subscripts::read_subscript-returns-clause-gives : goal.subscripts::read_subscript-returns-clause-gives
subscripts::read_subscript-returns-clause-gives t c =
    let room = c.in_ok-inside.ensures.opens in
    let none = rw c.if-eat.false at c.eat.ensures in
    let (t, read, is) = c.in_ok-first.ensures.gives in
    let alone = rw c.if-eat-2.false at c.eat-2.ensures in
    let first = subst (λ z. expr c.args.depth (room_of c.in_ok-inside.inside) 0 (at c.args.links.now z.left) ≡ found (t, at c.expression.new.links c.expression.new.cursor.left)) none.1 read in
    let closed = subst (λ z. takes RightBracket z.left ≡ found (c.expect.new.cursor.span, c.expect.new.cursor.left)) alone.1 c.in_ok-expect.ensures.gives in (
      index t c.expect.new.cursor.span,
      index_given (expr c.args.depth) (room_of c.args.room) (room_of c.in_ok-inside.inside) _ _ c.args.cursor.now.left c.expression.new.cursor.left c.expect.new.cursor.left t c.expect.new.cursor.span room.0 none.0 first alone.0 closed,
      (indexed_alike c.args.room.scope.in_loop c.in_ok-inside.inside.scope.in_loop c.in_ok-first.first t c.expect.new.cursor.span (ap (λ s. s.in_loop) room.1) is, refl),
    )

pub subscripts::slice-returns-in_err-end-clause-gives : goal.subscripts::slice-returns-in_err-end-clause-gives
subscripts::slice-returns-in_err-end-clause-gives t c = λ a s is.
    let p = err_from_is_err_and c.from_residual.result c.from_residual.ensures.1 in
    rw (p.1, p.2) (slice_without_end (expr c.args.depth) (room_of c.args.room) a s _ _ _ c.in_err-end.ensures.gives)

pub subscripts::slice-returns-in_err-step-clause-gives : goal.subscripts::slice-returns-in_err-step-clause-gives
subscripts::slice-returns-in_err-step-clause-gives t c = λ a s is.
    let p = err_from_is_err_and c.from_residual-in_err-step.result c.from_residual-in_err-step.ensures.1 in
    let (b, ends, shows) = c.in_ok-end.ensures.gives in
    rw (p.1, p.2) (slice_without_step (expr c.args.depth) (room_of c.args.room) a s _ _ b _ _ ends c.in_err-step.ensures.gives)

pub subscripts::slice-returns-in_err-expect-clause-gives : goal.subscripts::slice-returns-in_err-expect-clause-gives
subscripts::slice-returns-in_err-expect-clause-gives t c = λ a s is.
    let p = err_from_is_err_and c.from_residual-in_err-expect.result c.from_residual-in_err-expect.ensures.1 in
    let (b, ends, shows) = c.in_ok-end.ensures.gives in
    let (x, stepped, steps) = c.in_ok-step.ensures.gives in
    rw (p.1, p.2) (slice_unclosed (expr c.args.depth) (room_of c.args.room) a s _ _ _ _ b x _ _ ends stepped c.in_err-expect.ensures.gives)

pub subscripts::slice-returns-clause-gives : goal.subscripts::slice-returns-clause-gives
subscripts::slice-returns-clause-gives t c = λ a s is.
    let (b, ends, shows) = c.in_ok-end.ensures.gives in
    let (x, stepped, steps) = c.in_ok-step.ensures.gives in (
      slice a s b x c.expect.new.cursor.span,
      slice_given (expr c.args.depth) (room_of c.args.room) a s _ _ _ _ _ b x _ ends stepped c.in_ok-expect.ensures.gives,
      (sliced_alike c.args.room.scope.in_loop c.args.start c.in_ok-end.end c.in_ok-step.step a b x s c.expect.new.cursor.span is shows steps, refl),
    )

pub subscripts::end-returns-then-begins-clause-gives : goal.subscripts::end-returns-then-begins-clause-gives
subscripts::end-returns-then-begins-clause-gives t c = elim c.then-begins.branch [
  | subscripts::end-then-begins-via-then-begins w ↦ (absent, end_before_colon (expr c.args.depth) (room_of c.args.room) _ c.args.cursor.now.left (sym c.begins.ensures ∙ w.if-begins.true), refl)
  | subscripts::end-then-begins-via-else-begins+then-begins-2 w ↦ (absent, end_before_bracket (expr c.args.depth) (room_of c.args.room) _ c.args.cursor.now.left (sym c.begins.ensures ∙ w.if-begins.false) (sym w.begins-else-begins.ensures ∙ w.if-begins-2.true), refl)
]

pub subscripts::end-returns-clause-gives : goal.subscripts::end-returns-clause-gives
subscripts::end-returns-clause-gives t c =
    let (t, read, is) = c.in_ok-expression.ensures.gives in
    (present t, end_given (expr c.args.depth) (room_of c.args.room) _ c.args.cursor.now.left t _ (sym c.begins.ensures ∙ c.if-begins.false) (sym c.begins-else-begins.ensures ∙ c.if-begins-2.false) read, ap OneExpr is)

pub subscripts::step-returns-then-not-eat-clause-gives : goal.subscripts::step-returns-then-not-eat-clause-gives
subscripts::step-returns-then-not-eat-clause-gives t c =
    let colon = rw c.if-not-eat.true at c.eat.ensures in
    rw colon.1 (no_extra, no_step (expr c.args.depth) (room_of c.args.room) _ c.args.cursor.now.left colon.0, refl)

pub subscripts::step-returns-clause-gives : goal.subscripts::step-returns-clause-gives
subscripts::step-returns-clause-gives t c =
    let colon = rw c.if-not-eat.false at c.eat.ensures in
    let (t, read, is) = c.in_ok-expression.ensures.gives in
    (extra c.eat.new.cursor.span t, step_given (expr c.args.depth) (room_of c.args.room) _ c.args.cursor.now.left c.eat.new.cursor.left c.eat.new.cursor.span t _ colon.0 read, ap OneExpr is)
