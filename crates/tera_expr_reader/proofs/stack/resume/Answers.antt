use Rattle.std.proofs.Common.{ap, ◌∙◌}
use Rattle.std.proofs.lemmas.Result.{err_from_is_err_and}
use Rattle.tera_grammar.specs.expressions.Stack.{unwind}
use Rattle.tera_grammar.specs.expressions.Reading.Front.{at}
use Rattle.tera_grammar.proofs.expressions.Stack.{pushed, refuses_all}
use Rattle.tera_expr_reader.specs.Frames.{frame_view, level_view, operand_view}
use Rattle.tera_expr_parts.specs.Fronts.{operator_of}
use Rattle.tera_expr_parts.specs.Rooms.{room_of}
use Rattle.tera_expr_reader.proofs.StackLemmas.{stays_open, misses_else, tilde_refused, encloses_all, chooses_last}
use Rattle.tera_expr_reader.proofs.stack.resume.Goals as goal

pub returns-in_err-expect-in-Paren-clause-keeps : goal.returns-in_err-expect-in-Paren-clause-keeps
returns-in_err-expect-in-Paren-clause-keeps c room links =
    let p = err_from_is_err_and c.from_residual.result c.from_residual.ensures.1 in
    rw (p.1, p.2, c.in-Paren.is) (refuses_all frame_view _ _ _ _ _
    (stays_open (room_of room) _ (operand_view c.args.inside) links _ _ _ c.in-Paren.start c.in_err-expect-in-Paren.ensures.gives))

pub returns-in_err-refuse_prefix-in-Binary-clause-keeps : goal.returns-in_err-refuse_prefix-in-Binary-clause-keeps
returns-in_err-refuse_prefix-in-Binary-clause-keeps c room links =
    let p = err_from_is_err_and c.from_residual-in_err-refuse_prefix-in-Binary.result c.from_residual-in_err-refuse_prefix-in-Binary.ensures.1 in
    rw (p.1, p.2, c.in-Binary.is) (refuses_all frame_view _ _ _ _ _
    (tilde_refused (room_of room) (level_view c.in-Binary.level) (operand_view c.args.inside) (at links c.args.cursor.now.left) (operator_of c.in-Binary.operator) c.in-Binary.negated
    (operand_view c.in-Binary.left) _ c.in_err-refuse_prefix-in-Binary.ensures.fails))

pub returns-in_err-expect-in-TernaryCondition-clause-keeps : goal.returns-in_err-expect-in-TernaryCondition-clause-keeps
returns-in_err-expect-in-TernaryCondition-clause-keeps c room links =
    let p = err_from_is_err_and c.from_residual-in_err-expect-in-TernaryCondition.result c.from_residual-in_err-expect-in-TernaryCondition.ensures.1 in
    rw (p.1, p.2, c.in-TernaryCondition.is) (refuses_all frame_view _ _ _ _ _
    (misses_else (room_of room) _ (operand_view c.args.inside) links _ _ _ (operand_view c.in-TernaryCondition.left) c.in_err-expect-in-TernaryCondition.ensures.gives))

pub returns-in_ok-expect-in-Paren-clause-keeps : goal.returns-in_ok-expect-in-Paren-clause-keeps
returns-in_ok-expect-in-Paren-clause-keeps c room links =
    rw (c.in-Paren.is, c.spanning-span.ensures, c.current_span.ensures.span)
    (ap (unwind frame_view _ _) (encloses_all (room_of room) (level_view c.in-Paren.level) (operand_view c.args.inside) links _ _ c.in-Paren.start _ c.in_ok-expect-in-Paren.ensures.gives))

pub returns-in_ok-push-in-TernaryCondition-clause-keeps : goal.returns-in_ok-push-in-TernaryCondition-clause-keeps
returns-in_ok-push-in-TernaryCondition-clause-keeps c room links =
    rw c.in-TernaryCondition.is
    (pushed frame_view _ _ _ _ _ c.in_ok-push-in-TernaryCondition.ensures.items
    ∙ ap (unwind frame_view _ _)
    (chooses_last (room_of room) (level_view c.in-TernaryCondition.level) (operand_view c.args.inside) links _ _ (operand_view c.in-TernaryCondition.left) _ c.in_ok-expect-in-TernaryCondition.ensures.gives))
