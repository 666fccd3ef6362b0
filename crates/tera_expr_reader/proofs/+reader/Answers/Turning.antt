-- Of expressions that are taken turn by turn.
use Rattle.std.proofs.Common.{◌≡◌, length, ap, sym, subst, ◌∙◌, arith}
use Rattle.std.proofs.lemmas.Result.{err_from_is_err_and}
use Rattle.tera_lexer.specs.code.Cursors.{Position}
use Rattle.tera_ast.specs.View.{expression_view}
use Rattle.tera_grammar.proofs.expressions.Stack.{unframed, pushed, keeps_as, refuses_all}
use Rattle.tera_grammar.specs.expressions.Reading.Front.{at, front}
use Rattle.tera_grammar.specs.expressions.Stack.{comes_to, coming, unwind}
use Rattle.tera_expr_reader.specs.Frames.{frame_view, state_view, Went, level_view, operand_view, HoldsNegatable}
use Rattle.tera_expr_parts.specs.Fronts.{front_kind, keeps_off, operator_of, IsOperatorBefore}
use Rattle.tera_expr_parts.specs.Rooms.{room_of}
use Rattle.tera_expect.specs.Taking.{GoesOn}
use Rattle.tera_expect.proofs.TakingLemmas.{stays, goes_took, took_further, refused_further, goes_size}
use Rattle.tera_expr_reader.proofs.LoneLemmas.{lone_read}
use Rattle.tera_expr_reader.proofs.StackLemmas.{went_goes, took_went, closes_up, joins_more, no_link_joins, no_link_closes, chooses_more, grows_by, grows_not, astray}
use Rattle.tera_expr_reader.proofs.+reader.Goals as goal

pub stack::expression-turn-requires : goal.stack::expression-turn-requires
stack::expression-turn-requires t c = (
  omega (arith, goes_size _ _ (went_goes c.steps.state _ _ c.steps.invariant.went)),
  subst HoldsNegatable c.in-Holds.is c.steps.invariant.negatable,
)

pub stack::expression-steps-init : goal.stack::expression-steps-init
stack::expression-steps-init t c =
    let empty : length c.new-frames.result.items ≡ 0 = ap length c.new-frames.ensures.items in
    let unmoved : c.lone.new.cursor ≡ c.args.cursor.now = (rw c.in_default.is at c.in_ok-expr.ensures).1 in
    record {
      same = subst (λ (p : Position). unwind frame_view (room_of c.args.room) c.new-frames.result.items (coming c.args.depth (room_of c.args.room) c.args.least (at c.args.links.now p.left))
          ≡ coming c.args.depth (room_of c.args.room) c.args.least (at c.args.links.now c.args.cursor.now.left)) (sym unmoved) (sym (unframed frame_view _ _ _ empty));
      went = subst (GoesOn c.args.cursor.now) (sym unmoved) (stays c.args.cursor.now);
      negatable = tt;
    }

pub stack::expression-returns-in-Some-clause-gives : goal.stack::expression-returns-in-Some-clause-gives
stack::expression-returns-in-Some-clause-gives t c =
    let lone = rw c.in-Some.is at c.in_ok-expr.ensures in
    lone_read c.args.depth (room_of c.args.room) c.args.least c.args.links.now c.args.cursor.now.left c.lone.new.cursor.left (expression_view c.in-Some.expr) lone.0

pub stack::expression-returns-in_err-next-in-Needs-clause-refusal : goal.stack::expression-returns-in_err-next-in-Needs-clause-refusal
stack::expression-returns-in_err-next-in-Needs-clause-refusal t c =
    let p = err_from_is_err_and c.from_residual-in_err-next-in-Needs.result c.from_residual-in_err-next-in-Needs.ensures.1 in
    rw (p.1, p.2) (refused_further _ c.steps.cursor _ _ (went_goes c.steps.state _ _ c.steps.invariant.went) c.in_err-next-in-Needs.ensures.refusal)

pub stack::expression-returns-in_err-next-in-Holds-clause-refusal : goal.stack::expression-returns-in_err-next-in-Holds-clause-refusal
stack::expression-returns-in_err-next-in-Holds-clause-refusal t c =
    let p = err_from_is_err_and c.from_residual-in_err-next-in-Holds.result c.from_residual-in_err-next-in-Holds.ensures.1 in
    rw (p.1, p.2) (refused_further _ c.steps.cursor _ _ (went_goes c.steps.state _ _ c.steps.invariant.went) c.in_err-next-in-Holds.ensures.refusal)

pub stack::expression-steps-preserved-in_ok-next-in-Needs : goal.stack::expression-steps-preserved-in_ok-next-in-Needs
stack::expression-steps-preserved-in_ok-next-in-Needs t c = record {
  same = c.in_ok-next-in-Needs.ensures.keeps ∙ subst (λ s. comes_to frame_view (room_of c.args.room) (state_view s) c.steps.frames.items (at c.steps.links c.steps.cursor.left)
      ≡ coming c.args.depth (room_of c.args.room) c.args.least (at c.args.links.now c.args.cursor.now.left)) c.in-Needs.is c.steps.invariant.same;
  went = took_went _ _ _ (goes_took _ c.steps.cursor _ (went_goes c.steps.state _ _ c.steps.invariant.went) c.in_ok-next-in-Needs.ensures.later);
  negatable = c.in_ok-next-in-Needs.ensures.negatable;
}

pub stack::expression-steps-preserved : goal.stack::expression-steps-preserved
stack::expression-steps-preserved t c = record {
  same = c.in_ok-next-in-Holds.ensures.keeps ∙ subst (λ s. comes_to frame_view (room_of c.args.room) (state_view s) c.steps.frames.items (at c.steps.links c.steps.cursor.left)
      ≡ coming c.args.depth (room_of c.args.room) c.args.least (at c.args.links.now c.args.cursor.now.left)) c.in-Holds.is c.steps.invariant.same;
  went = took_went _ _ _ (took_further _ c.steps.cursor _ (subst (λ s. Went s c.args.cursor.now c.steps.cursor) c.in-Holds.is c.steps.invariant.went) c.in_ok-next-in-Holds.ensures.later);
  negatable = c.in_ok-next-in-Holds.ensures.negatable;
}

pub stack::turn-returns-then-stops-clause-keeps : goal.stack::turn-returns-then-stops-clause-keeps
stack::turn-returns-then-stops-clause-keeps t c =
    keeps_as frame_view _ state_view _ _ _ _ _
    (sym (ap (unwind frame_view _ _) (closes_up (room_of c.args.room) (level_view c.args.level) (operand_view c.args.left) (at c.args.links.now c.args.cursor.now.left)
    (sym c.if-stops.true ∙ c.stops.ensures ∙ ap (keeps_off c.args.level.least) c.at-front.ensures))))
    (c.close.ensures.keeps c.args.room c.args.links.now)

pub stack::turn-returns-in_err-count_operator-in-Joins-clause-keeps : goal.stack::turn-returns-in_err-count_operator-in-Joins-clause-keeps
stack::turn-returns-in_err-count_operator-in-Joins-clause-keeps t c =
    let p = err_from_is_err_and c.from_residual.result c.from_residual.ensures.1 in
    rw (p.1, p.2) (refuses_all frame_view _ _ _ _ _
    (no_link_joins (room_of c.args.room) (level_view c.args.level) (operand_view c.args.left) (at c.args.links.now c.args.cursor.now.left) _ (operator_of c.in-Joins.operator) c.in-Joins.negated
    (ap front_kind (sym c.in-Joins.is) ∙ c.at-front.ensures) (sym c.if-stops.false ∙ c.stops.ensures ∙ ap (keeps_off c.args.level.least) c.at-front.ensures)
    c.count_operator.new.cursor.left (λ single. ap (λ (p : Position). p.left) (c.in_err-count_operator-in-Joins.ensures.single single)) c.in_err-count_operator-in-Joins.ensures.takes
    c.in_err-count_operator-in-Joins.ensures.fails))

pub stack::turn-returns-in_err-count_link-in-Closes-clause-keeps : goal.stack::turn-returns-in_err-count_link-in-Closes-clause-keeps
stack::turn-returns-in_err-count_link-in-Closes-clause-keeps t c =
    let p = err_from_is_err_and c.from_residual-in_err-count_link-in-Closes.result c.from_residual-in_err-count_link-in-Closes.ensures.1 in
    rw (p.1, p.2) (refuses_all frame_view _ _ _ _ _
    (no_link_closes (room_of c.args.room) (level_view c.args.level) (operand_view c.args.left) (at c.args.links.now c.args.cursor.now.left) _ c.in-Closes.ending
    (ap front_kind (sym c.in-Closes.is) ∙ c.at-front.ensures) (sym c.if-stops.false ∙ c.stops.ensures ∙ ap (keeps_off c.args.level.least) c.at-front.ensures)
    c.in_err-count_link-in-Closes.ensures.fails))

pub stack::turn-returns-in_err-expr-in-Closes-clause-keeps : goal.stack::turn-returns-in_err-expr-in-Closes-clause-keeps
stack::turn-returns-in_err-expr-in-Closes-clause-keeps t c =
    let p = err_from_is_err_and c.from_residual-in_err-expr-in-Closes.result c.from_residual-in_err-expr-in-Closes.ensures.1 in
    rw (p.1, p.2) (refuses_all frame_view _ _ _ _ _
    (grows_not (room_of c.args.room) (level_view c.args.level) (operand_view c.args.left) (at c.args.links.now c.args.cursor.now.left) _ _ c.take_ending.ensures.past
    (sym c.if-stops.false ∙ c.stops.ensures ∙ ap (keeps_off c.args.level.least) c.at-front.ensures)
    expression_view _ c.suffix.new.cursor.span _ (at c.suffix.new.links c.suffix.new.cursor.left) c.in_ok-count_link-in-Closes.ensures.counts c.in_err-expr-in-Closes.ensures.gives))

pub stack::turn-returns-in_ok-push-in-Joins-clause-keeps : goal.stack::turn-returns-in_ok-push-in-Joins-clause-keeps
stack::turn-returns-in_ok-push-in-Joins-clause-keeps t c =
    rw c.right_power.ensures (pushed frame_view _ _ _ _ _ c.in_ok-push-in-Joins.ensures.items ∙ ap (unwind frame_view _ _)
    (joins_more (room_of c.args.room) (level_view c.args.level) (operand_view c.args.left) (at c.args.links.now c.args.cursor.now.left) (operator_of c.in-Joins.operator) c.in-Joins.negated _ _
    (subst (λ (p : Position). IsOperatorBefore (front p.left) (operator_of c.in-Joins.operator) c.in-Joins.negated c.take_operator.new.cursor.left)
    c.in_ok-count_operator-in-Joins.ensures.stays c.take_operator.ensures.past)
    (sym c.if-stops.false ∙ c.stops.ensures ∙ ap (keeps_off c.args.level.least) c.at-front.ensures)
    c.in_ok-count_operator-in-Joins.ensures.counts))

pub stack::turn-returns-in_ok-push-in-Chooses-clause-keeps : goal.stack::turn-returns-in_ok-push-in-Chooses-clause-keeps
stack::turn-returns-in_ok-push-in-Chooses-clause-keeps t c =
    pushed frame_view _ _ _ _ _ c.in_ok-push-in-Chooses.ensures.items ∙ ap (unwind frame_view _ _)
    (chooses_more (room_of c.args.room) (level_view c.args.level) (operand_view c.args.left) (at c.args.links.now c.args.cursor.now.left) _ _
    c.take_condition.ensures.past (sym c.if-stops.false ∙ c.stops.ensures ∙ ap (keeps_off c.args.level.least) c.at-front.ensures))

pub stack::turn-returns-in_ok-expr-in-Closes-clause-keeps : goal.stack::turn-returns-in_ok-expr-in-Closes-clause-keeps
stack::turn-returns-in_ok-expr-in-Closes-clause-keeps t c =
    rw (c.spanning-span.ensures, c.current_span.ensures.span) (ap (unwind frame_view _ _)
    (grows_by (room_of c.args.room) (level_view c.args.level) (operand_view c.args.left) (at c.args.links.now c.args.cursor.now.left) _ _ c.take_ending.ensures.past
    (sym c.if-stops.false ∙ c.stops.ensures ∙ ap (keeps_off c.args.level.least) c.at-front.ensures)
    expression_view _ _ _ _ c.in_ok-count_link-in-Closes.ensures.counts c.in_ok-expr-in-Closes.ensures.gives))

pub stack::turn-returns-in-Nothing-clause-keeps : goal.stack::turn-returns-in-Nothing-clause-keeps
stack::turn-returns-in-Nothing-clause-keeps t c =
    refuses_all frame_view _ _ _ _ _
    (astray (room_of c.args.room) (level_view c.args.level) (operand_view c.args.left) (at c.args.links.now c.args.cursor.now.left) c.at-front.result c.misplaced_not.new.cursor.left _
    c.in-Nothing.is c.at-front.ensures (sym c.if-stops.false ∙ c.stops.ensures ∙ ap (keeps_off c.args.level.least) c.at-front.ensures) c.misplaced_not.ensures.takes)
