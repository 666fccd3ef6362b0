-- Reading over a stack of frames: what the whole comes to, from each state.
use Rattle.std.specs.Prelude.{◌≡◌, ℕ, ◌+◌, ◌*◌, ◌<◌, Bool, true, false, cond, ltb, List, [], ◌∷◌, length, Result, Ok, Err}
use Rattle.tera_base.specs.declared.errors.Error.{Error}
use Rattle.tera_base.specs.declared.utils.Span.{Span}
use Rattle.tera_lexer.specs.code.Cursors.{size}
use Rattle.tera_lexer.specs.grammar.Tokens.{Items}
use Rattle.tera_ast.specs.declared.ast.UnaryOperator.TheVariants as unary
use Rattle.tera_ast.specs.Tree as tree
use Rattle.tera_ast.specs.Tree.{Expr}
use Rattle.tera_grammar.specs.expressions.Operators.{BinaryOperator, StrConcat, In, operator_made}
use Rattle.tera_grammar.specs.expressions.Marks.{RightParen, Else}
use Rattle.tera_grammar.specs.expressions.Concrete.{Sign, Op, Single, NotIn, Tree, Suffix}
use Rattle.tera_grammar.specs.expressions.Powers.{right_of, sign_power}
use Rattle.tera_grammar.specs.expressions.Spans.{spanning, sign_span, suffix_end, first, last}
use Rattle.tera_grammar.specs.expressions.Output.{prefixed, is_unary, output, suffix_output, operator_output}
use Rattle.tera_grammar.specs.Reads.{Read, found, stopped, ◌>>=◌, Fails}
use Rattle.tera_grammar.specs.expressions.Reading.Front.{Place, Reads, skip, Ending, Front, nothing, joins, closes, misplaced, lead_power, keeps_out}
use Rattle.tera_grammar.specs.expressions.Reading.Rooms.{Room}
use Rattle.tera_grammar.specs.expressions.Reading.Bracketed.{linked}
use Rattle.tera_grammar.specs.expressions.Reading.Atoms.{head_of}
use Rattle.tera_grammar.specs.expressions.Reading.Loop.{Growth, by_operator, by_suffix, suffix_in, loop_with, expr}

-- what an operand is read as, and where it is with its parentheses
abbrev pub Operand : Type 0
Operand = Expr × Span

abbrev pub shown : Bool → Tree → Operand
shown l t = (output l t, spanning (first t) (last t))

-- what is read, as an operand
abbrev pub Shows : Type 0
Shows = Read (Operand × Place)

abbrev pub outcome : Bool → Reads Tree → Shows
outcome l (stopped z) = stopped z
outcome l (found x) = found (shown l x.0, x.1)

-- what becomes of an operand: after a prefix, before a suffix, between parentheses, in a ternary
abbrev pub signed : Sign → Operand → Operand
signed s a = (prefixed s a.0 (spanning (sign_span s) a.1), spanning (sign_span s) a.1)

abbrev pub suffixed : Bool → Operand → Suffix → Operand
suffixed l a s = (suffix_output l a.1 a.0 s, spanning a.1 (suffix_end s))

abbrev pub enclosed : Span → Operand → Span → Operand
enclosed s a t = (a.0, spanning s t)

abbrev pub chosen : Expr → Operand → Operand → Operand
chosen c a b = (tree.Ternary c a.0 b.0 (spanning a.1 b.1), spanning a.1 b.1)

-- two operands joined by an operator, or by `not in`
abbrev pub binary_output : BinaryOperator → Bool → Expr → Expr → Span → Expr
binary_output o false a b span = tree.BinaryOperation (operator_made o) a b span
binary_output o true a b span = tree.UnaryOperation unary.Not (tree.BinaryOperation (operator_made o) a b span) span

abbrev pub joined : BinaryOperator → Bool → Operand → Operand → Operand
joined o n a b = (binary_output o n a.0 b.0 (spanning a.1 b.1), spanning a.1 b.1)

-- after `~` no operand is that became a minus or a negation
abbrev pub refuses : BinaryOperator → Expr → Bool
refuses StrConcat e = is_unary e
refuses _ e = false

-- the operator, and whether it is negated
abbrev pub operator_in : Op → BinaryOperator
operator_in (Single o s) = o
operator_in (NotIn s t) = In

abbrev pub is_negated : Op → Bool
is_negated (Single o s) = false
is_negated (NotIn s t) = true

-- by what an operand grows in one turn
abbrev pub grown_operand : Bool → Operand → Growth → Operand
grown_operand l a (by_operator o b) = (operator_output l (spanning a.1 (last b)) a.0 o (output l b), spanning a.1 (last b))
grown_operand l a (by_suffix s) = suffixed l a s

-- an open expression: how many more may open inside, and its least power
pub record Level : Type 0 where
  pub depth : ℕ
  pub least : ℕ

abbrev pub level : ℕ → ℕ → Level
level d m = record { depth = d; least = m }

-- an open expression with what is read of it, where a part of it is read inside
pub data Frame : Type 0 where
  -- `(`
  in_paren : Level → Span → Frame
  in_prefix : Level → Sign → Frame
  -- the operator, whether it is negated, the left operand
  in_binary : Level → BinaryOperator → Bool → Operand → Frame
  -- after the `if` of a ternary, and after its `else`: the first part, and the condition
  in_condition : Level → Operand → Frame
  in_last : Level → Operand → Expr → Frame

-- an operand is wanted, inside of how many, from a least power on; or an operand of an open expression is read; or
-- all is read
pub data State : Type 0 where
  needs : ℕ → ℕ → State
  holds : Level → Operand → State
  done : Operand → State

-- what an expression comes to where its operand so far is this
abbrev pub going : Room → Level → Operand → Place → Shows
going w v a p = loop_with (grown_operand w.in_loop) v.depth w v.least a p

-- what an expression comes to that is read from here
abbrev pub coming : ℕ → Room → ℕ → Place → Shows
coming d w m p = outcome w.in_loop (expr d w m p)

-- what a frame makes of the expression that was read inside of it
abbrev pub resume : Room → Frame → Operand × Place → Shows
resume w (in_paren v s) x = skip RightParen x.1 >>= λ c. going w v (enclosed s x.0 c.0) c.1
resume w (in_prefix v s) x = going w v (signed s x.0) x.1
resume w (in_binary v o n a) x = cond (refuses o x.0.0) (stopped x.1.tokens) (going w v (joined o n a x.0) x.1)
resume w (in_condition v a) x =
    skip Else x.1 >>= λ t. coming v.depth w 0 t.1 >>= λ r. going w v (chosen x.0.0 a r.0) r.1
resume w (in_last v a c) x = going w v (chosen c a x.0) x.1

-- what does not go on with an operand, at a least power
abbrev pub stops : ℕ → Front → Bool
stops m nothing = true
stops m (joins e us) = ltb (lead_power e) m
stops m (closes e us) = keeps_out m e
stops m (misplaced us) = ltb 5 m

-- what an open expression comes to at its first token
abbrev pub heading : Room → Level → Place → Shows
heading w v p = outcome w.in_loop (head_of (expr v.depth) w p) >>= λ h. going w v h.0 h.1

-- What it comes to after a prefix, a binary operator, and the `if` of a ternary. Where no link may come reading stops
-- at the items before.
abbrev pub prefixing : Room → Level → Sign → Place → Shows
prefixing w v s p = coming v.depth w (sign_power s) p >>= resume w (in_prefix v s)

abbrev pub joining : Room → Level → BinaryOperator → Bool → Operand → Items → Place → Shows
joining w v o n a before p = linked before p.links p.tokens >>= λ q. coming v.depth w (right_of o) q >>= resume w (in_binary v o n a)

abbrev pub choosing : Room → Level → Operand → Place → Shows
choosing w v a p = coming v.depth w 0 p >>= resume w (in_condition v a)

-- a suffix with its link, and what an operand comes to after it
abbrev pub suffix_of : Room → Level → Ending → Items → Place → Reads Suffix
suffix_of w v e before p = linked before p.links p.tokens >>= λ q. suffix_in (expr v.depth) w e q

abbrev pub closing : Room → Level → Ending → Operand → Items → Place → Shows
closing w v e a before p = suffix_of w v e before p >>= λ s. going w v (suffixed w.in_loop a s.0) s.1

-- What the whole comes to from what is read inside of the frames; the last frame is the innermost. The frames may
-- be values of another kind that stand for frames.
unfoldable pub unwind : {F : Type 0} → (F → Frame) → Room → List F → Shows → Shows
unwind frame w [] read = read
unwind frame w (f ∷ fs) read = unwind frame w fs read >>= resume w (frame f)

-- what the whole comes to from a state
abbrev pub comes_to : {F : Type 0} → (F → Frame) → Room → State → List F → Place → Shows
comes_to frame w (needs d m) fs p = unwind frame w fs (coming d w m p)
comes_to frame w (holds v a) fs p = unwind frame w fs (going w v a p)
comes_to frame w (done a) fs p = found (a, p)

-- The next state comes to the same. An allocation failure says nothing, and otherwise reading stops.
abbrev pub Keeps : {F S : Type 0} → (F → Frame) → (S → State) → Room → Result S Error → List F → Place → Shows → Type 0
Keeps frame state w (Ok s) fs p read = comes_to frame w (state s) fs p ≡ read
Keeps frame state w (Err e) fs p read = Fails read p.tokens e

-- How much is left to do: a token may bring a frame, and a frame that is taken off may leave an operand.
abbrev pub work : {F : Type 0} → List F → Place → ℕ
work fs p = 2 * size p.tokens + length fs

abbrev pub left_to_do : {F : Type 0} → State → List F → Place → ℕ
left_to_do (needs d m) fs p = work fs p
left_to_do (holds v a) fs p = work fs p + 1
left_to_do (done a) fs p = work fs p

-- less is left to do than n
abbrev pub Falls : {F S : Type 0} → (S → State) → Result S Error → List F → Place → ℕ → Type 0
Falls state (Ok s) fs p n = left_to_do (state s) fs p < n
Falls state (Err e) fs p n = Unit {0}

-- What functions of their own read, over values that stand for outputs: an expression; what an operand begins with,
-- and a suffix, each with the span of its last token.
abbrev pub Gives : {E : Type 0} → (E → Expr) → Bool → Result E Error → Place → Reads Tree → Type 0
Gives view l (Ok e) q read = (t : Tree) × (read ≡ found (t, q)) × (view e ≡ output l t)
Gives view l (Err e) q read = Fails read q.tokens e

abbrev pub HeadGives : {E : Type 0} → (E → Expr) → Bool → Result E Error → Span → Place → Reads Tree → Type 0
HeadGives view l (Ok e) here q read = (t : Tree) × (read ≡ found (t, q)) × (view e ≡ output l t) × (here ≡ last t)
HeadGives view l (Err e) here q read = Fails read q.tokens e

abbrev pub SuffixGives : {E : Type 0} → (E → Expr) → Bool → Operand → Result E Error → Span → Place → Reads Suffix → Type 0
SuffixGives view l a (Ok e) here q read =
    (s : Suffix) × (read ≡ found (s, q)) × (view e ≡ suffix_output l a.1 a.0 s) × (here ≡ suffix_end s)
SuffixGives view l a (Err e) here q read = Fails read q.tokens e
