use Rattle.std.proofs.Common.{refl, sym, ap, ◌∙◌, cond, Bool}
use Rattle.tera_grammar.specs.Reads.{stopped}
use Rattle.tera_grammar.specs.expressions.Stack as stack
use Rattle.tera_grammar.specs.expressions.Reading.Front.{at, begins_sign}
use Rattle.tera_grammar.proofs.expressions.Stack.{pushed, refuses_all}
use Rattle.tera_expr_reader.specs.Frames.{frame_view, level_view}
use Rattle.tera_expr_parts.specs.Fronts.{sign_of}
use Rattle.tera_expr_parts.specs.Rooms.{room_of}
use Rattle.tera_expr_reader.proofs.StackLemmas.{signs_twice}
use Rattle.tera_expr_reader.proofs.stack.prefix.Goals as goal

pub returns-then-begins_prefix-clause-keeps : goal.returns-then-begins_prefix-clause-keeps
returns-then-begins_prefix-clause-keeps c room links =
    let signed = sym c.begins_prefix.ensures ∙ c.if-begins_prefix.true in
    refuses_all frame_view _ _ _ _ _
    (signs_twice _ (begins_sign c.args.cursor.now.left) (stack.prefixing (room_of room) (level_view c.args.level) (sign_of c.args.sign c.args.span) (at links c.args.cursor.now.left))
    c.args.cursor.now.left _ _ signed refl (c.consecutive.ensures.takes signed))

pub returns-clause-keeps : goal.returns-clause-keeps
returns-clause-keeps c room links =
    let plain = sym c.begins_prefix.ensures ∙ c.if-begins_prefix.false in
    rw (c.prefix_power.ensures c.args.span) (pushed frame_view _ _ _ _ _ c.in_ok-push.ensures.items
    ∙ sym (ap (λ (b : Bool). stack.unwind frame_view (room_of room) c.args.frames.now.items
    (cond b (stopped c.args.cursor.now.left) (stack.prefixing (room_of room) (level_view c.args.level) (sign_of c.args.sign c.args.span) (at links c.args.cursor.now.left)))) plain))
