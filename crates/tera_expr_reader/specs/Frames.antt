-- What the values of the reading over a stack stand for.
use Rattle.std.specs.Prelude.{cond, ℕ, List, Result}
use Rattle.tera_base.specs.declared.errors.Error.{Error}
use Rattle.tera_base.specs.declared.utils.Span.{Span}
use Rattle.tera_ast.specs.declared.ast.Expression.{Expression}
use Rattle.tera_grammar.specs.expressions.Concrete.{Name, Sign}
use Rattle.tera_lexer.specs.code.Cursors.{Position}
use Rattle.tera_ast.specs.View.{expression_view}
use Rattle.tera_grammar.specs.expressions.Reading.Front.{Place, begins_sign}
use Rattle.tera_grammar.specs.expressions.Reading.Atoms.{word_head}
use Rattle.tera_grammar.specs.expressions.Reading.Loop.{expr}
use Rattle.tera_grammar.specs.Reads.{stopped, ◌>>=◌}
use Rattle.tera_grammar.specs.expressions.Stack as stack
use Rattle.tera_expr_reader.specs.declared.frames.Operand.{Operand}
use Rattle.tera_expr_reader.specs.declared.frames.Level.{Level}
use Rattle.tera_expr_reader.specs.declared.frames.Frame.{Frame}
use Rattle.tera_expr_reader.specs.declared.frames.Frame.TheVariants as frames
use Rattle.tera_expr_reader.specs.declared.frames.State.{State}
use Rattle.tera_expr_reader.specs.declared.frames.State.TheVariants as states
use Rattle.tera_expr_parts.specs.declared.limits.Room.{Room}
use Rattle.tera_expr_parts.specs.Fronts.{operator_of, sign_of}
use Rattle.tera_expr_parts.specs.Literals.{MayBeNegated}
use Rattle.tera_expr_parts.specs.Rooms.{room_of}
use Rattle.tera_expect.specs.Taking.{GoesOn, Took}

abbrev pub operand_view : Operand → stack.Operand
operand_view a = (expression_view a.expr, a.span)

abbrev pub level_view : Level → stack.Level
level_view v = stack.level v.depth v.least

abbrev pub frame_view : Frame → stack.Frame
frame_view (frames.Paren v s) = stack.in_paren (level_view v) s
frame_view (frames.Prefix v o s) = stack.in_prefix (level_view v) (sign_of o s)
frame_view (frames.Binary v o n a) = stack.in_binary (level_view v) (operator_of o) n (operand_view a)
frame_view (frames.TernaryCondition v a) = stack.in_condition (level_view v) (operand_view a)
frame_view (frames.TernaryLast v a c) = stack.in_last (level_view v) (operand_view a) (expression_view c)

abbrev pub state_view : State → stack.State
state_view (states.Needs d m) = stack.needs d m
state_view (states.Holds v a) = stack.holds (level_view v) (operand_view a)
state_view (states.Done a) = stack.done (operand_view a)

-- what the whole comes to from what is read inside of the frames, and that a step keeps it
abbrev pub unwind : Room → List Frame → stack.Shows → stack.Shows
unwind r fs read = stack.unwind frame_view (room_of r) fs read

abbrev pub Keeps : Room → Result State Error → List Frame → Place → stack.Shows → Type 0
Keeps r result fs p read = stack.Keeps frame_view state_view (room_of r) result fs p read

abbrev pub Falls : Result State Error → List Frame → Place → ℕ → Type 0
Falls result fs p n = stack.Falls state_view result fs p n

abbrev pub HoldsNegatable : State → Type 0
HoldsNegatable (states.Needs d m) = Unit {0}
HoldsNegatable (states.Holds v a) = MayBeNegated (expression_view a.expr)
HoldsNegatable (states.Done a) = Unit {0}

-- how the cursor goes on: an operand comes after some token
abbrev pub Went : State → Position → Position → Type 0
Went (states.Needs d m) old new = GoesOn old new
Went (states.Holds v a) old new = Took old new
Went (states.Done a) old new = Took old new

-- what an open expression comes to after a prefix
abbrev pub after_sign : Room → Level → Sign → Place → stack.Shows
after_sign r v s p = cond (begins_sign p.tokens) (stopped p.tokens) (stack.prefixing (room_of r) (level_view v) s p)

-- what an open expression comes to after a word
abbrev pub after_word : Room → Level → Name → Place → stack.Shows
after_word r v n p = stack.outcome r.scope.in_loop (word_head (expr v.depth) (room_of r) n p) >>= λ h. stack.going (room_of r) (level_view v) h.0 h.1

abbrev pub operand_at : Level → Expression → Span → State
operand_at v e span = states.Holds v (record { expr = e; span = span })
