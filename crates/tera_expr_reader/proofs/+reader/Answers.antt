use Rattle.std.proofs.Common.{ap, ◌∙◌, inr, arith, inl}
use Rattle.tera_lexer.specs.code.Cursors.{Position, size}
use Rattle.tera_grammar.proofs.expressions.Stack.{unwind_none, none_opens}
use Rattle.tera_grammar.specs.expressions.Stack.{unwind}
use Rattle.tera_expr_reader.specs.Frames.{frame_view}
use Rattle.tera_expect.proofs.TakingLemmas.{took_size, took_all, goes_size, eats_size}
use Rattle.tera_expr_reader.proofs.ComponentCallsLemmas.{names_size}
use Rattle.tera_expr_reader.proofs.StackLemmas.{went_goes, one_more}
use Rattle.tera_expr_reader.proofs.+reader.Answers.Turning as turns
use Rattle.tera_expr_reader.proofs.+reader.Answers.Heading as heads
use Rattle.tera_expr_reader.proofs.+reader.Answers.Suffixing as suffixes
use Rattle.tera_expr_reader.proofs.+reader.Answers.Subscripting as subscripts
use Rattle.tera_expr_reader.proofs.+reader.Answers.Chaining as chains
use Rattle.tera_expr_reader.proofs.+reader.Answers.Gathering as arrays
use Rattle.tera_expr_reader.proofs.+reader.Answers.Mapping as maps
use Rattle.tera_expr_reader.proofs.+reader.Answers.Attaching as attached
use Rattle.tera_expr_reader.proofs.+reader.Goals as goal
mod Turning
mod Heading
mod Suffixing
mod Subscripting
mod Chaining
mod Gathering
mod Mapping
mod Attaching

pub stack::expression-operand-requires : goal.stack::expression-operand-requires
stack::expression-operand-requires t c = omega (arith, goes_size _ _ (went_goes c.steps.state _ _ c.steps.invariant.went))

pub stack::expression-turn-requires : goal.stack::expression-turn-requires
stack::expression-turn-requires t c = turns.stack::expression-turn-requires t c

pub stack::expression-steps-init : goal.stack::expression-steps-init
stack::expression-steps-init t c = turns.stack::expression-steps-init t c

pub stack::expression-returns-in-Some-clause-gives : goal.stack::expression-returns-in-Some-clause-gives
stack::expression-returns-in-Some-clause-gives t c = turns.stack::expression-returns-in-Some-clause-gives t c

pub stack::expression-returns-in_err-next-in-Needs-clause-refusal : goal.stack::expression-returns-in_err-next-in-Needs-clause-refusal
stack::expression-returns-in_err-next-in-Needs-clause-refusal t c = turns.stack::expression-returns-in_err-next-in-Needs-clause-refusal t c

pub stack::expression-returns-in_err-next-in-Holds-clause-refusal : goal.stack::expression-returns-in_err-next-in-Holds-clause-refusal
stack::expression-returns-in_err-next-in-Holds-clause-refusal t c = turns.stack::expression-returns-in_err-next-in-Holds-clause-refusal t c

pub stack::expression-steps-preserved-in_ok-next-in-Needs : goal.stack::expression-steps-preserved-in_ok-next-in-Needs
stack::expression-steps-preserved-in_ok-next-in-Needs t c = turns.stack::expression-steps-preserved-in_ok-next-in-Needs t c

pub stack::expression-steps-preserved : goal.stack::expression-steps-preserved
stack::expression-steps-preserved t c = turns.stack::expression-steps-preserved t c

pub stack::turn-suffix-requires : goal.stack::turn-suffix-requires
stack::turn-suffix-requires t c = omega (arith, took_size _ _ c.take_ending.ensures.later)

pub stack::turn-returns-then-stops-clause-keeps : goal.stack::turn-returns-then-stops-clause-keeps
stack::turn-returns-then-stops-clause-keeps t c = turns.stack::turn-returns-then-stops-clause-keeps t c

pub stack::turn-returns-in_err-count_operator-in-Joins-clause-keeps : goal.stack::turn-returns-in_err-count_operator-in-Joins-clause-keeps
stack::turn-returns-in_err-count_operator-in-Joins-clause-keeps t c = turns.stack::turn-returns-in_err-count_operator-in-Joins-clause-keeps t c

pub stack::turn-returns-in_err-count_link-in-Closes-clause-keeps : goal.stack::turn-returns-in_err-count_link-in-Closes-clause-keeps
stack::turn-returns-in_err-count_link-in-Closes-clause-keeps t c = turns.stack::turn-returns-in_err-count_link-in-Closes-clause-keeps t c

pub stack::turn-returns-in_err-expr-in-Closes-clause-keeps : goal.stack::turn-returns-in_err-expr-in-Closes-clause-keeps
stack::turn-returns-in_err-expr-in-Closes-clause-keeps t c = turns.stack::turn-returns-in_err-expr-in-Closes-clause-keeps t c

pub stack::turn-returns-in_ok-push-in-Joins-clause-keeps : goal.stack::turn-returns-in_ok-push-in-Joins-clause-keeps
stack::turn-returns-in_ok-push-in-Joins-clause-keeps t c = turns.stack::turn-returns-in_ok-push-in-Joins-clause-keeps t c

pub stack::turn-returns-in_ok-push-in-Joins-clause-falls : goal.stack::turn-returns-in_ok-push-in-Joins-clause-falls
stack::turn-returns-in_ok-push-in-Joins-clause-falls t c =
    omega (
      arith,
      one_more _ _ _ c.in_ok-push-in-Joins.ensures.items,
      took_size _ _ c.take_operator.ensures.later,
      ap (λ (p : Position). size p.left) c.in_ok-count_operator-in-Joins.ensures.stays,
    )

pub stack::turn-returns-in_ok-push-in-Chooses-clause-keeps : goal.stack::turn-returns-in_ok-push-in-Chooses-clause-keeps
stack::turn-returns-in_ok-push-in-Chooses-clause-keeps t c = turns.stack::turn-returns-in_ok-push-in-Chooses-clause-keeps t c

pub stack::turn-returns-in_ok-push-in-Chooses-clause-falls : goal.stack::turn-returns-in_ok-push-in-Chooses-clause-falls
stack::turn-returns-in_ok-push-in-Chooses-clause-falls t c =
    omega (arith, one_more _ _ _ c.in_ok-push-in-Chooses.ensures.items, took_size _ _ c.take_condition.ensures.later)

pub stack::turn-returns-in_ok-expr-in-Closes-clause-keeps : goal.stack::turn-returns-in_ok-expr-in-Closes-clause-keeps
stack::turn-returns-in_ok-expr-in-Closes-clause-keeps t c = turns.stack::turn-returns-in_ok-expr-in-Closes-clause-keeps t c

pub stack::turn-returns-in_ok-expr-in-Closes-clause-falls : goal.stack::turn-returns-in_ok-expr-in-Closes-clause-falls
stack::turn-returns-in_ok-expr-in-Closes-clause-falls t c =
    omega (arith, took_size _ _ c.take_ending.ensures.later, took_size _ _ c.in_ok-expr-in-Closes.ensures.later)

pub stack::turn-returns-in-Nothing-clause-keeps : goal.stack::turn-returns-in-Nothing-clause-keeps
stack::turn-returns-in-Nothing-clause-keeps t c = turns.stack::turn-returns-in-Nothing-clause-keeps t c

pub stack::operand-returns-then-depth-eq0-clause-keeps : goal.stack::operand-returns-then-depth-eq0-clause-keeps
stack::operand-returns-then-depth-eq0-clause-keeps t c =
    inr (inl (ap (unwind frame_view _ _) (none_opens _ _ _ _ c.if-depth-eq0.true) ∙ unwind_none frame_view _ _ _))

pub stack::operand-returns-clause-keeps : goal.stack::operand-returns-clause-keeps
stack::operand-returns-clause-keeps t c = heads.stack::operand-returns-clause-keeps t c

pub stack::head-map-requires : goal.stack::head-map-requires
stack::head-map-requires t c = omega (arith, took_size _ _ c.in_ok-token.ensures.later)

pub stack::head-component-requires : goal.stack::head-component-requires
stack::head-component-requires t c = omega (arith, took_size _ _ c.in_ok-token.ensures.later)

pub stack::head-array-requires : goal.stack::head-array-requires
stack::head-array-requires t c = omega (arith, took_size _ _ c.in_ok-token.ensures.later)

pub stack::head-word-requires : goal.stack::head-word-requires
stack::head-word-requires t c = (omega (arith, took_size _ _ c.in_ok-token.ensures.later), c.in_ok-token.ensures.takes.5)

pub stack::head-returns-in_err-token-clause-keeps : goal.stack::head-returns-in_err-token-clause-keeps
stack::head-returns-in_err-token-clause-keeps t c = heads.stack::head-returns-in_err-token-clause-keeps t c

pub stack::head-returns-in-Minus-clause-keeps : goal.stack::head-returns-in-Minus-clause-keeps
stack::head-returns-in-Minus-clause-keeps t c = heads.stack::head-returns-in-Minus-clause-keeps t c

pub stack::head-returns-in-LeftParen-clause-keeps : goal.stack::head-returns-in-LeftParen-clause-keeps
stack::head-returns-in-LeftParen-clause-keeps t c = heads.stack::head-returns-in-LeftParen-clause-keeps t c

pub stack::head-returns-in_err-expr-in-LeftBracket-clause-keeps : goal.stack::head-returns-in_err-expr-in-LeftBracket-clause-keeps
stack::head-returns-in_err-expr-in-LeftBracket-clause-keeps t c = heads.stack::head-returns-in_err-expr-in-LeftBracket-clause-keeps t c

pub stack::head-returns-in-LeftBracket-clause-keeps : goal.stack::head-returns-in-LeftBracket-clause-keeps
stack::head-returns-in-LeftBracket-clause-keeps t c = heads.stack::head-returns-in-LeftBracket-clause-keeps t c

pub stack::head-returns-in-LeftBracket-clause-falls : goal.stack::head-returns-in-LeftBracket-clause-falls
stack::head-returns-in-LeftBracket-clause-falls t c =
    rw c.holds.ensures (omega (arith, took_size _ _ c.in_ok-token.ensures.later, took_size _ _ c.in_ok-expr-in-LeftBracket.ensures.later))

pub stack::head-returns-in_err-expr-in-LeftBrace-clause-keeps : goal.stack::head-returns-in_err-expr-in-LeftBrace-clause-keeps
stack::head-returns-in_err-expr-in-LeftBrace-clause-keeps t c = heads.stack::head-returns-in_err-expr-in-LeftBrace-clause-keeps t c

pub stack::head-returns-in-LeftBrace-clause-keeps : goal.stack::head-returns-in-LeftBrace-clause-keeps
stack::head-returns-in-LeftBrace-clause-keeps t c = heads.stack::head-returns-in-LeftBrace-clause-keeps t c

pub stack::head-returns-in-LeftBrace-clause-falls : goal.stack::head-returns-in-LeftBrace-clause-falls
stack::head-returns-in-LeftBrace-clause-falls t c =
    rw c.holds-in-LeftBrace.ensures (omega (arith, took_size _ _ c.in_ok-token.ensures.later, took_size _ _ c.in_ok-expr-in-LeftBrace.ensures.later))

pub stack::head-returns-in_err-expr-in-LessThan-clause-keeps : goal.stack::head-returns-in_err-expr-in-LessThan-clause-keeps
stack::head-returns-in_err-expr-in-LessThan-clause-keeps t c = heads.stack::head-returns-in_err-expr-in-LessThan-clause-keeps t c

pub stack::head-returns-in-LessThan-clause-keeps : goal.stack::head-returns-in-LessThan-clause-keeps
stack::head-returns-in-LessThan-clause-keeps t c = heads.stack::head-returns-in-LessThan-clause-keeps t c

pub stack::head-returns-in-LessThan-clause-falls : goal.stack::head-returns-in-LessThan-clause-falls
stack::head-returns-in-LessThan-clause-falls t c =
    rw c.holds-in-LessThan.ensures (omega (arith, took_size _ _ c.in_ok-token.ensures.later, took_size _ _ c.in_ok-expr-in-LessThan.ensures.later))

pub stack::head-returns-in_err-expr-in_default : goal.stack::head-returns-in_err-expr-in_default
stack::head-returns-in_err-expr-in_default t c = heads.stack::head-returns-in_err-expr-in_default t c

pub stack::word-returns-then-is_none-clause-keeps : goal.stack::word-returns-then-is_none-clause-keeps
stack::word-returns-then-is_none-clause-keeps t c = heads.stack::word-returns-then-is_none-clause-keeps t c

pub stack::word-returns-then-is_not-clause-keeps : goal.stack::word-returns-then-is_not-clause-keeps
stack::word-returns-then-is_not-clause-keeps t c = heads.stack::word-returns-then-is_not-clause-keeps t c

pub stack::word-returns-in_err-expr-2-clause-keeps : goal.stack::word-returns-in_err-expr-2-clause-keeps
stack::word-returns-in_err-expr-2-clause-keeps t c = heads.stack::word-returns-in_err-expr-2-clause-keeps t c

pub stack::word-returns-clause-keeps : goal.stack::word-returns-clause-keeps
stack::word-returns-clause-keeps t c = heads.stack::word-returns-clause-keeps t c

pub stack::word-returns-clause-falls : goal.stack::word-returns-clause-falls
stack::word-returns-clause-falls t c = rw c.holds-2.ensures (omega (arith, goes_size _ _ c.in_ok-expr-2.ensures.later))

pub calls::suffix-returns-in_ok-with_subscript-in-Subscript-clause-gives : goal.calls::suffix-returns-in_ok-with_subscript-in-Subscript-clause-gives
calls::suffix-returns-in_ok-with_subscript-in-Subscript-clause-gives t c = suffixes.calls::suffix-returns-in_ok-with_subscript-in-Subscript-clause-gives t c

pub calls::test-read_call-requires : goal.calls::test-read_call-requires
calls::test-read_call-requires t c = omega (arith, eats_size _ _ _ _ c.eat-negated.ensures)

pub calls::test-returns-in_err-call-clause-gives : goal.calls::test-returns-in_err-call-clause-gives
calls::test-returns-in_err-call-clause-gives t c = suffixes.calls::test-returns-in_err-call-clause-gives t c

pub calls::test-returns-then-not-negated-clause-gives : goal.calls::test-returns-then-not-negated-clause-gives
calls::test-returns-then-not-negated-clause-gives t c = suffixes.calls::test-returns-then-not-negated-clause-gives t c

pub calls::test-returns-clause-gives : goal.calls::test-returns-clause-gives
calls::test-returns-clause-gives t c = suffixes.calls::test-returns-clause-gives t c

pub calls::read_call-maybe_arguments-requires : goal.calls::read_call-maybe_arguments-requires
calls::read_call-maybe_arguments-requires t c = omega (arith, took_size _ _ c.in_ok-name.ensures.later)

pub calls::read_call-returns-in_err-name-clause-gives : goal.calls::read_call-returns-in_err-name-clause-gives
calls::read_call-returns-in_err-name-clause-gives t c = suffixes.calls::read_call-returns-in_err-name-clause-gives t c

pub calls::read_call-returns-in_err-kwargs-clause-gives : goal.calls::read_call-returns-in_err-kwargs-clause-gives
calls::read_call-returns-in_err-kwargs-clause-gives t c = suffixes.calls::read_call-returns-in_err-kwargs-clause-gives t c

pub calls::read_call-returns-clause-gives : goal.calls::read_call-returns-clause-gives
calls::read_call-returns-clause-gives t c = suffixes.calls::read_call-returns-clause-gives t c

pub calls::maybe_arguments-arguments-requires : goal.calls::maybe_arguments-arguments-requires
calls::maybe_arguments-arguments-requires t c = omega (arith, eats_size _ _ _ _ c.eat.ensures)

pub calls::maybe_arguments-returns-then-not-eat-clause-gives : goal.calls::maybe_arguments-returns-then-not-eat-clause-gives
calls::maybe_arguments-returns-then-not-eat-clause-gives t c = suffixes.calls::maybe_arguments-returns-then-not-eat-clause-gives t c

pub calls::maybe_arguments-returns-clause-gives : goal.calls::maybe_arguments-returns-clause-gives
calls::maybe_arguments-returns-clause-gives t c = suffixes.calls::maybe_arguments-returns-clause-gives t c

pub arguments::arguments-value-requires : goal.arguments::arguments-value-requires
arguments::arguments-value-requires t c = suffixes.arguments::arguments-value-requires t c

pub arguments::arguments-elements-init : goal.arguments::arguments-elements-init
arguments::arguments-elements-init t c = suffixes.arguments::arguments-elements-init t c

pub arguments::arguments-returns-in_err-name-clause-gives : goal.arguments::arguments-returns-in_err-name-clause-gives
arguments::arguments-returns-in_err-name-clause-gives t c = suffixes.arguments::arguments-returns-in_err-name-clause-gives t c

pub arguments::arguments-returns-in_err-name-clause-refusal : goal.arguments::arguments-returns-in_err-name-clause-refusal
arguments::arguments-returns-in_err-name-clause-refusal t c = suffixes.arguments::arguments-returns-in_err-name-clause-refusal t c

pub arguments::arguments-returns-in_err-expect-clause-gives : goal.arguments::arguments-returns-in_err-expect-clause-gives
arguments::arguments-returns-in_err-expect-clause-gives t c = suffixes.arguments::arguments-returns-in_err-expect-clause-gives t c

pub arguments::arguments-returns-in_err-value-clause-gives : goal.arguments::arguments-returns-in_err-value-clause-gives
arguments::arguments-returns-in_err-value-clause-gives t c = suffixes.arguments::arguments-returns-in_err-value-clause-gives t c

pub arguments::arguments-returns-in_err-value-clause-refusal : goal.arguments::arguments-returns-in_err-value-clause-refusal
arguments::arguments-returns-in_err-value-clause-refusal t c = suffixes.arguments::arguments-returns-in_err-value-clause-refusal t c

pub arguments::arguments-returns-in_err-open-clause-gives : goal.arguments::arguments-returns-in_err-open-clause-gives
arguments::arguments-returns-in_err-open-clause-gives t c = suffixes.arguments::arguments-returns-in_err-open-clause-gives t c

pub arguments::arguments-returns-in_err-open-clause-refusal : goal.arguments::arguments-returns-in_err-open-clause-refusal
arguments::arguments-returns-in_err-open-clause-refusal t c = suffixes.arguments::arguments-returns-in_err-open-clause-refusal t c

pub arguments::arguments-elements-preserved : goal.arguments::arguments-elements-preserved
arguments::arguments-elements-preserved t c = suffixes.arguments::arguments-elements-preserved t c

pub arguments::arguments-elements-smaller : goal.arguments::arguments-elements-smaller
arguments::arguments-elements-smaller t c = suffixes.arguments::arguments-elements-smaller t c

pub arguments::arguments-returns-clause-gives : goal.arguments::arguments-returns-clause-gives
arguments::arguments-returns-clause-gives t c = suffixes.arguments::arguments-returns-clause-gives t c

pub rows::value-returns-in-Some-clause-gives : goal.rows::value-returns-in-Some-clause-gives
rows::value-returns-in-Some-clause-gives t c = suffixes.rows::value-returns-in-Some-clause-gives t c

pub subscripts::read_subscript-slice-requires : goal.subscripts::read_subscript-slice-requires
subscripts::read_subscript-slice-requires t c = omega (arith, eats_size _ _ _ _ c.eat.ensures)

pub subscripts::read_subscript-expression-requires : goal.subscripts::read_subscript-expression-requires
subscripts::read_subscript-expression-requires t c = omega (arith, eats_size _ _ _ _ c.eat.ensures)

pub subscripts::read_subscript-slice-requires-then-eat-2 : goal.subscripts::read_subscript-slice-requires-then-eat-2
subscripts::read_subscript-slice-requires-then-eat-2 t c = omega (arith, eats_size _ _ _ _ c.eat.ensures, took_size _ _ c.in_ok-first.ensures.later, eats_size _ _ _ _ c.eat-2.ensures)

pub subscripts::read_subscript-returns-then-eat-clause-gives : goal.subscripts::read_subscript-returns-then-eat-clause-gives
subscripts::read_subscript-returns-then-eat-clause-gives t c = subscripts.subscripts::read_subscript-returns-then-eat-clause-gives t c

pub subscripts::read_subscript-returns-in_err-first-clause-gives : goal.subscripts::read_subscript-returns-in_err-first-clause-gives
subscripts::read_subscript-returns-in_err-first-clause-gives t c = subscripts.subscripts::read_subscript-returns-in_err-first-clause-gives t c

pub subscripts::read_subscript-returns-then-eat-2-clause-gives : goal.subscripts::read_subscript-returns-then-eat-2-clause-gives
subscripts::read_subscript-returns-then-eat-2-clause-gives t c = subscripts.subscripts::read_subscript-returns-then-eat-2-clause-gives t c

pub subscripts::read_subscript-returns-in_err-expect-clause-gives : goal.subscripts::read_subscript-returns-in_err-expect-clause-gives
subscripts::read_subscript-returns-in_err-expect-clause-gives t c = subscripts.subscripts::read_subscript-returns-in_err-expect-clause-gives t c

pub subscripts::read_subscript-returns-clause-gives : goal.subscripts::read_subscript-returns-clause-gives
subscripts::read_subscript-returns-clause-gives t c = subscripts.subscripts::read_subscript-returns-clause-gives t c

pub subscripts::slice-step-requires : goal.subscripts::slice-step-requires
subscripts::slice-step-requires t c = omega (arith, goes_size _ _ c.in_ok-end.ensures.later)

pub subscripts::slice-returns-in_err-end-clause-gives : goal.subscripts::slice-returns-in_err-end-clause-gives
subscripts::slice-returns-in_err-end-clause-gives t c = subscripts.subscripts::slice-returns-in_err-end-clause-gives t c

pub subscripts::slice-returns-in_err-step-clause-gives : goal.subscripts::slice-returns-in_err-step-clause-gives
subscripts::slice-returns-in_err-step-clause-gives t c = subscripts.subscripts::slice-returns-in_err-step-clause-gives t c

pub subscripts::slice-returns-in_err-expect-clause-gives : goal.subscripts::slice-returns-in_err-expect-clause-gives
subscripts::slice-returns-in_err-expect-clause-gives t c = subscripts.subscripts::slice-returns-in_err-expect-clause-gives t c

pub subscripts::slice-returns-clause-gives : goal.subscripts::slice-returns-clause-gives
subscripts::slice-returns-clause-gives t c = subscripts.subscripts::slice-returns-clause-gives t c

pub subscripts::end-returns-then-begins-clause-gives : goal.subscripts::end-returns-then-begins-clause-gives
subscripts::end-returns-then-begins-clause-gives t c = subscripts.subscripts::end-returns-then-begins-clause-gives t c

pub subscripts::end-returns-clause-gives : goal.subscripts::end-returns-clause-gives
subscripts::end-returns-clause-gives t c = subscripts.subscripts::end-returns-clause-gives t c

pub subscripts::step-expression-requires : goal.subscripts::step-expression-requires
subscripts::step-expression-requires t c = omega (arith, eats_size _ _ _ _ c.eat.ensures)

pub subscripts::step-returns-then-not-eat-clause-gives : goal.subscripts::step-returns-then-not-eat-clause-gives
subscripts::step-returns-then-not-eat-clause-gives t c = subscripts.subscripts::step-returns-then-not-eat-clause-gives t c

pub subscripts::step-returns-clause-gives : goal.subscripts::step-returns-clause-gives
subscripts::step-returns-clause-gives t c = subscripts.subscripts::step-returns-clause-gives t c

pub chains::with_links-with_link-requires : goal.chains::with_links-with_link-requires
chains::with_links-with_link-requires t c = omega (arith, goes_size _ _ c.growing.invariant.later)

pub chains::with_links-growing-init : goal.chains::with_links-growing-init
chains::with_links-growing-init t c = chains.chains::with_links-growing-init t c

pub chains::with_links-returns-in_err-whole-clause-gives : goal.chains::with_links-returns-in_err-whole-clause-gives
chains::with_links-returns-in_err-whole-clause-gives t c = chains.chains::with_links-returns-in_err-whole-clause-gives t c

pub chains::with_links-returns-in-Whole-clause-gives : goal.chains::with_links-returns-in-Whole-clause-gives
chains::with_links-returns-in-Whole-clause-gives t c = chains.chains::with_links-returns-in-Whole-clause-gives t c

pub chains::with_links-growing-preserved : goal.chains::with_links-growing-preserved
chains::with_links-growing-preserved t c = chains.chains::with_links-growing-preserved t c

pub chains::with_links-growing-smaller : goal.chains::with_links-growing-smaller
chains::with_links-growing-smaller t c = chains.chains::with_links-growing-smaller t c

pub chains::with_link-read_subscript-requires : goal.chains::with_link-read_subscript-requires
chains::with_link-read_subscript-requires t c = omega (arith, took_size _ _ c.take_link-in-Item.ensures.later)

pub chains::with_link-returns-in_err-count_link-in-Field-clause-gives : goal.chains::with_link-returns-in_err-count_link-in-Field-clause-gives
chains::with_link-returns-in_err-count_link-in-Field-clause-gives t c = chains.chains::with_link-returns-in_err-count_link-in-Field-clause-gives t c

pub chains::with_link-returns-in_err-longer-in-Field-clause-gives : goal.chains::with_link-returns-in_err-longer-in-Field-clause-gives
chains::with_link-returns-in_err-longer-in-Field-clause-gives t c = chains.chains::with_link-returns-in_err-longer-in-Field-clause-gives t c

pub chains::with_link-returns-in_err-count_link-in-Item-clause-gives : goal.chains::with_link-returns-in_err-count_link-in-Item-clause-gives
chains::with_link-returns-in_err-count_link-in-Item-clause-gives t c = chains.chains::with_link-returns-in_err-count_link-in-Item-clause-gives t c

pub chains::with_link-returns-in_err-item-in-Item-clause-gives : goal.chains::with_link-returns-in_err-item-in-Item-clause-gives
chains::with_link-returns-in_err-item-in-Item-clause-gives t c = chains.chains::with_link-returns-in_err-item-in-Item-clause-gives t c

pub chains::with_link-returns-in_ok-longer-in-Field-clause-gives : goal.chains::with_link-returns-in_ok-longer-in-Field-clause-gives
chains::with_link-returns-in_ok-longer-in-Field-clause-gives t c = chains.chains::with_link-returns-in_ok-longer-in-Field-clause-gives t c

pub chains::with_link-returns-in_ok-with_subscript-in-Item-clause-gives : goal.chains::with_link-returns-in_ok-with_subscript-in-Item-clause-gives
chains::with_link-returns-in_ok-with_subscript-in-Item-clause-gives t c = chains.chains::with_link-returns-in_ok-with_subscript-in-Item-clause-gives t c

pub chains::chain-function_call-requires : goal.chains::chain-function_call-requires
chains::chain-function_call-requires t c = omega (arith, eats_size _ _ _ _ c.eat.ensures)

pub chains::chain-with_links-requires : goal.chains::chain-with_links-requires
chains::chain-with_links-requires t c = chains.chains::chain-with_links-requires t c

pub chains::chain-returns-else-eat-clause-negatable : goal.chains::chain-returns-else-eat-clause-negatable
chains::chain-returns-else-eat-clause-negatable t c = chains.chains::chain-returns-else-eat-clause-negatable t c

pub arrays::array-value-requires : goal.arrays::array-value-requires
arrays::array-value-requires t c = omega (arith, eats_size _ _ _ _ c.eat.ensures, eats_size _ _ _ _ c.eat-2.ensures)

pub arrays::array-items-requires : goal.arrays::array-items-requires
arrays::array-items-requires t c = omega (arith, eats_size _ _ _ _ c.eat.ensures, eats_size _ _ _ _ c.eat-2.ensures, took_size _ _ c.in_ok-spread.ensures.later)

pub arrays::array-value-requires-2 : goal.arrays::array-value-requires-2
arrays::array-value-requires-2 t c = omega (arith, eats_size _ _ _ _ c.eat.ensures, eats_size _ _ _ _ c.eat-2.ensures)

pub arrays::array-comprehension-requires : goal.arrays::array-comprehension-requires
arrays::array-comprehension-requires t c = omega (arith, eats_size _ _ _ _ c.eat.ensures, eats_size _ _ _ _ c.eat-2.ensures, took_size _ _ c.in_ok-element.ensures.later, eats_size _ _ _ _ c.eat-3.ensures)

pub arrays::array-items-requires-2 : goal.arrays::array-items-requires-2
arrays::array-items-requires-2 t c = omega (arith, eats_size _ _ _ _ c.eat.ensures, eats_size _ _ _ _ c.eat-2.ensures, took_size _ _ c.in_ok-element.ensures.later, eats_size _ _ _ _ c.eat-3.ensures)

pub arrays::array-returns-in_err-room-clause-gives : goal.arrays::array-returns-in_err-room-clause-gives
arrays::array-returns-in_err-room-clause-gives t c = arrays.arrays::array-returns-in_err-room-clause-gives t c

pub arrays::array-returns-then-eat-clause-gives : goal.arrays::array-returns-then-eat-clause-gives
arrays::array-returns-then-eat-clause-gives t c = arrays.arrays::array-returns-then-eat-clause-gives t c

pub arrays::array-returns-in_err-spread-clause-gives : goal.arrays::array-returns-in_err-spread-clause-gives
arrays::array-returns-in_err-spread-clause-gives t c = arrays.arrays::array-returns-in_err-spread-clause-gives t c

pub arrays::array-returns-then-eat-2-clause-gives : goal.arrays::array-returns-then-eat-2-clause-gives
arrays::array-returns-then-eat-2-clause-gives t c = arrays.arrays::array-returns-then-eat-2-clause-gives t c

pub arrays::array-returns-in_err-element-clause-gives : goal.arrays::array-returns-in_err-element-clause-gives
arrays::array-returns-in_err-element-clause-gives t c = arrays.arrays::array-returns-in_err-element-clause-gives t c

pub arrays::array-returns-then-eat-3-clause-gives : goal.arrays::array-returns-then-eat-3-clause-gives
arrays::array-returns-then-eat-3-clause-gives t c = arrays.arrays::array-returns-then-eat-3-clause-gives t c

pub arrays::array-returns-clause-gives : goal.arrays::array-returns-clause-gives
arrays::array-returns-clause-gives t c = arrays.arrays::array-returns-clause-gives t c

pub arrays::items-item-requires : goal.arrays::items-item-requires
arrays::items-item-requires t c = omega (arith, took_size _ _ c.elements.invariant.gone)

pub arrays::items-returns-in_err-open-clause-gives : goal.arrays::items-returns-in_err-open-clause-gives
arrays::items-returns-in_err-open-clause-gives t c = arrays.arrays::items-returns-in_err-open-clause-gives t c

pub arrays::items-elements-init : goal.arrays::items-elements-init
arrays::items-elements-init t c = arrays.arrays::items-elements-init t c

pub arrays::items-elements-smaller : goal.arrays::items-elements-smaller
arrays::items-elements-smaller t c = took_size c.elements.cursor c.more-in-elements.new.cursor (took_all _ _ _ c.in_ok-element.ensures.later c.in_ok-open-2.ensures.later)

pub arrays::items-returns-in_err-element-clause-gives : goal.arrays::items-returns-in_err-element-clause-gives
arrays::items-returns-in_err-element-clause-gives t c = arrays.arrays::items-returns-in_err-element-clause-gives t c

pub arrays::items-returns-in_err-open-2-clause-gives : goal.arrays::items-returns-in_err-open-2-clause-gives
arrays::items-returns-in_err-open-2-clause-gives t c = arrays.arrays::items-returns-in_err-open-2-clause-gives t c

pub arrays::items-elements-preserved : goal.arrays::items-elements-preserved
arrays::items-elements-preserved t c = arrays.arrays::items-elements-preserved t c

pub arrays::items-returns-clause-gives : goal.arrays::items-returns-clause-gives
arrays::items-returns-clause-gives t c = arrays.arrays::items-returns-clause-gives t c

pub arrays::item-value-requires : goal.arrays::item-value-requires
arrays::item-value-requires t c = omega (arith, eats_size _ _ _ _ c.eat.ensures)

pub arrays::item-value-requires-2 : goal.arrays::item-value-requires-2
arrays::item-value-requires-2 t c = omega (arith, eats_size _ _ _ _ c.eat.ensures)

pub arrays::item-returns-in_err-spread-clause-gives : goal.arrays::item-returns-in_err-spread-clause-gives
arrays::item-returns-in_err-spread-clause-gives t c = arrays.arrays::item-returns-in_err-spread-clause-gives t c

pub arrays::item-returns-then-eat-clause-gives : goal.arrays::item-returns-then-eat-clause-gives
arrays::item-returns-then-eat-clause-gives t c = arrays.arrays::item-returns-then-eat-clause-gives t c

pub arrays::item-returns-in_err-element-clause-gives : goal.arrays::item-returns-in_err-element-clause-gives
arrays::item-returns-in_err-element-clause-gives t c = arrays.arrays::item-returns-in_err-element-clause-gives t c

pub arrays::item-returns-clause-gives : goal.arrays::item-returns-clause-gives
arrays::item-returns-clause-gives t c = arrays.arrays::item-returns-clause-gives t c

pub arrays::comprehension-value-requires : goal.arrays::comprehension-value-requires
arrays::comprehension-value-requires t c = omega (arith, took_size _ _ c.in_ok-named.ensures.later, took_size _ _ c.in_ok-expect.ensures.later)

pub arrays::comprehension-extra-requires : goal.arrays::comprehension-extra-requires
arrays::comprehension-extra-requires t c = omega (arith, took_size _ _ c.in_ok-named.ensures.later, took_size _ _ c.in_ok-expect.ensures.later, took_size _ _ c.in_ok-target.ensures.later)

pub arrays::comprehension-returns-in_err-named-clause-gives : goal.arrays::comprehension-returns-in_err-named-clause-gives
arrays::comprehension-returns-in_err-named-clause-gives t c = arrays.arrays::comprehension-returns-in_err-named-clause-gives t c

pub arrays::comprehension-returns-in_err-expect-clause-gives : goal.arrays::comprehension-returns-in_err-expect-clause-gives
arrays::comprehension-returns-in_err-expect-clause-gives t c = arrays.arrays::comprehension-returns-in_err-expect-clause-gives t c

pub arrays::comprehension-returns-in_err-target-clause-gives : goal.arrays::comprehension-returns-in_err-target-clause-gives
arrays::comprehension-returns-in_err-target-clause-gives t c = arrays.arrays::comprehension-returns-in_err-target-clause-gives t c

pub arrays::comprehension-returns-in_err-condition-clause-gives : goal.arrays::comprehension-returns-in_err-condition-clause-gives
arrays::comprehension-returns-in_err-condition-clause-gives t c = arrays.arrays::comprehension-returns-in_err-condition-clause-gives t c

pub arrays::comprehension-returns-in_err-close_comprehension-clause-gives : goal.arrays::comprehension-returns-in_err-close_comprehension-clause-gives
arrays::comprehension-returns-in_err-close_comprehension-clause-gives t c = arrays.arrays::comprehension-returns-in_err-close_comprehension-clause-gives t c

pub arrays::comprehension-returns-in_err-close_comprehension-clause-refusal : goal.arrays::comprehension-returns-in_err-close_comprehension-clause-refusal
arrays::comprehension-returns-in_err-close_comprehension-clause-refusal t c = arrays.arrays::comprehension-returns-in_err-close_comprehension-clause-refusal t c

pub arrays::comprehension-returns-clause-gives : goal.arrays::comprehension-returns-clause-gives
arrays::comprehension-returns-clause-gives t c = arrays.arrays::comprehension-returns-clause-gives t c

pub arrays::comprehension-returns-clause-later : goal.arrays::comprehension-returns-clause-later
arrays::comprehension-returns-clause-later t c = arrays.arrays::comprehension-returns-clause-later t c

pub arrays::extra-value-requires : goal.arrays::extra-value-requires
arrays::extra-value-requires t c = omega (arith, eats_size _ _ _ _ c.eat.ensures)

pub arrays::extra-returns-in_err-value-clause-gives : goal.arrays::extra-returns-in_err-value-clause-gives
arrays::extra-returns-in_err-value-clause-gives t c = arrays.arrays::extra-returns-in_err-value-clause-gives t c

pub arrays::extra-returns-in_ok-value-clause-gives : goal.arrays::extra-returns-in_ok-value-clause-gives
arrays::extra-returns-in_ok-value-clause-gives t c = arrays.arrays::extra-returns-in_ok-value-clause-gives t c

pub arrays::extra-returns-else-eat-clause-gives : goal.arrays::extra-returns-else-eat-clause-gives
arrays::extra-returns-else-eat-clause-gives t c = arrays.arrays::extra-returns-else-eat-clause-gives t c

pub maps::map-entry-requires : goal.maps::map-entry-requires
maps::map-entry-requires t c =
    let before = rw c.elements-test.true at c.elements.invariant.gone in
    omega (arith, goes_size _ _ before)

pub maps::map-elements-init : goal.maps::map-elements-init
maps::map-elements-init t c = maps.maps::map-elements-init t c

pub maps::map-returns-in_err-entry-clause-gives : goal.maps::map-returns-in_err-entry-clause-gives
maps::map-returns-in_err-entry-clause-gives t c = maps.maps::map-returns-in_err-entry-clause-gives t c

pub maps::map-returns-in_err-open-clause-gives : goal.maps::map-returns-in_err-open-clause-gives
maps::map-returns-in_err-open-clause-gives t c = maps.maps::map-returns-in_err-open-clause-gives t c

pub maps::map-elements-preserved : goal.maps::map-elements-preserved
maps::map-elements-preserved t c = maps.maps::map-elements-preserved t c

pub maps::map-elements-smaller : goal.maps::map-elements-smaller
maps::map-elements-smaller t c = maps.maps::map-elements-smaller t c

pub maps::map-returns-clause-gives : goal.maps::map-returns-clause-gives
maps::map-returns-clause-gives t c = maps.maps::map-returns-clause-gives t c

pub maps::map-returns-clause-negatable : goal.maps::map-returns-clause-negatable
maps::map-returns-clause-negatable t c = maps.maps::map-returns-clause-negatable t c

pub maps::entry-value-requires : goal.maps::entry-value-requires
maps::entry-value-requires t c = omega (arith, eats_size _ _ _ _ c.eat.ensures)

pub maps::entry-value-requires-2 : goal.maps::entry-value-requires-2
maps::entry-value-requires-2 t c = omega (arith, eats_size _ _ _ _ c.eat.ensures, took_size _ _ c.in_ok-key.ensures.later, took_size _ _ c.in_ok-expect.ensures.later)

pub maps::entry-returns-in_err-spread-clause-gives : goal.maps::entry-returns-in_err-spread-clause-gives
maps::entry-returns-in_err-spread-clause-gives t c = maps.maps::entry-returns-in_err-spread-clause-gives t c

pub maps::entry-returns-then-eat-clause-gives : goal.maps::entry-returns-then-eat-clause-gives
maps::entry-returns-then-eat-clause-gives t c = maps.maps::entry-returns-then-eat-clause-gives t c

pub maps::entry-returns-in_err-key-clause-gives : goal.maps::entry-returns-in_err-key-clause-gives
maps::entry-returns-in_err-key-clause-gives t c = maps.maps::entry-returns-in_err-key-clause-gives t c

pub maps::entry-returns-in_err-expect-clause-gives : goal.maps::entry-returns-in_err-expect-clause-gives
maps::entry-returns-in_err-expect-clause-gives t c = maps.maps::entry-returns-in_err-expect-clause-gives t c

pub maps::entry-returns-in_err-value-clause-gives : goal.maps::entry-returns-in_err-value-clause-gives
maps::entry-returns-in_err-value-clause-gives t c = maps.maps::entry-returns-in_err-value-clause-gives t c

pub maps::entry-returns-clause-gives : goal.maps::entry-returns-clause-gives
maps::entry-returns-clause-gives t c = maps.maps::entry-returns-clause-gives t c

pub component_calls::component-attributes-requires : goal.component_calls::component-attributes-requires
component_calls::component-attributes-requires t c = omega (arith, took_size _ _ c.in_ok-name.ensures.later)

pub component_calls::component-returns-then-not-begins_name-clause-gives : goal.component_calls::component-returns-then-not-begins_name-clause-gives
component_calls::component-returns-then-not-begins_name-clause-gives t c = attached.component_calls::component-returns-then-not-begins_name-clause-gives t c

pub component_calls::component-returns-in_err-name-clause-gives : goal.component_calls::component-returns-in_err-name-clause-gives
component_calls::component-returns-in_err-name-clause-gives t c = attached.component_calls::component-returns-in_err-name-clause-gives t c

pub component_calls::component-returns-in_err-kwargs-clause-gives : goal.component_calls::component-returns-in_err-kwargs-clause-gives
component_calls::component-returns-in_err-kwargs-clause-gives t c = attached.component_calls::component-returns-in_err-kwargs-clause-gives t c

pub component_calls::component-returns-in_err-close_component-clause-gives : goal.component_calls::component-returns-in_err-close_component-clause-gives
component_calls::component-returns-in_err-close_component-clause-gives t c = attached.component_calls::component-returns-in_err-close_component-clause-gives t c

pub component_calls::component-returns-clause-gives : goal.component_calls::component-returns-clause-gives
component_calls::component-returns-clause-gives t c = attached.component_calls::component-returns-clause-gives t c

pub component_calls::component-returns-clause-later : goal.component_calls::component-returns-clause-later
component_calls::component-returns-clause-later t c = attached.component_calls::component-returns-clause-later t c

pub component_calls::attributes-attribute-requires : goal.component_calls::attributes-attribute-requires
component_calls::attributes-attribute-requires t c = omega (arith, goes_size _ _ c.reading.invariant.gone)

pub component_calls::attributes-reading-init : goal.component_calls::attributes-reading-init
component_calls::attributes-reading-init t c = attached.component_calls::attributes-reading-init t c

pub component_calls::attributes-returns-in_err-next-clause-gives : goal.component_calls::attributes-returns-in_err-next-clause-gives
component_calls::attributes-returns-in_err-next-clause-gives t c = attached.component_calls::attributes-returns-in_err-next-clause-gives t c

pub component_calls::attributes-reading-preserved : goal.component_calls::attributes-reading-preserved
component_calls::attributes-reading-preserved t c = attached.component_calls::attributes-reading-preserved t c

pub component_calls::attributes-reading-smaller : goal.component_calls::attributes-reading-smaller
component_calls::attributes-reading-smaller t c = attached.component_calls::attributes-reading-smaller t c

pub component_calls::attributes-returns-clause-gives : goal.component_calls::attributes-returns-clause-gives
component_calls::attributes-returns-clause-gives t c = attached.component_calls::attributes-returns-clause-gives t c

pub component_calls::attributes-returns-clause-later : goal.component_calls::attributes-returns-clause-later
component_calls::attributes-returns-clause-later t c = attached.component_calls::attributes-returns-clause-later t c

pub component_calls::attribute-named_attribute-requires : goal.component_calls::attribute-named_attribute-requires
component_calls::attribute-named_attribute-requires t c =
    let name = rw c.in-Some.is at c.eat_name.ensures in
    omega (arith, took_size _ _ name.1)

pub component_calls::attribute-braced-requires : goal.component_calls::attribute-braced-requires
component_calls::attribute-braced-requires t c = omega (arith, names_size _ _ _ _ c.eat_name.ensures, eats_size _ _ _ _ c.eat.ensures, took_size _ _ c.in_ok-expect.ensures.later)

pub component_calls::attribute-returns-in_err-named-clause-gives : goal.component_calls::attribute-returns-in_err-named-clause-gives
component_calls::attribute-returns-in_err-named-clause-gives t c = attached.component_calls::attribute-returns-in_err-named-clause-gives t c

pub component_calls::attribute-returns-in-Some-clause-gives : goal.component_calls::attribute-returns-in-Some-clause-gives
component_calls::attribute-returns-in-Some-clause-gives t c = attached.component_calls::attribute-returns-in-Some-clause-gives t c

pub component_calls::attribute-returns-then-not-eat-clause-gives : goal.component_calls::attribute-returns-then-not-eat-clause-gives
component_calls::attribute-returns-then-not-eat-clause-gives t c = attached.component_calls::attribute-returns-then-not-eat-clause-gives t c

pub component_calls::attribute-returns-in_err-expect-clause-gives : goal.component_calls::attribute-returns-in_err-expect-clause-gives
component_calls::attribute-returns-in_err-expect-clause-gives t c = attached.component_calls::attribute-returns-in_err-expect-clause-gives t c

pub component_calls::attribute-returns-in_err-spread-clause-gives : goal.component_calls::attribute-returns-in_err-spread-clause-gives
component_calls::attribute-returns-in_err-spread-clause-gives t c = attached.component_calls::attribute-returns-in_err-spread-clause-gives t c

pub component_calls::attribute-returns-clause-gives : goal.component_calls::attribute-returns-clause-gives
component_calls::attribute-returns-clause-gives t c = attached.component_calls::attribute-returns-clause-gives t c

pub component_calls::named_attribute-attribute_value-requires : goal.component_calls::named_attribute-attribute_value-requires
component_calls::named_attribute-attribute_value-requires t c = omega (arith, eats_size _ _ _ _ c.eat.ensures)

pub component_calls::named_attribute-returns-then-not-eat-clause-gives : goal.component_calls::named_attribute-returns-then-not-eat-clause-gives
component_calls::named_attribute-returns-then-not-eat-clause-gives t c = attached.component_calls::named_attribute-returns-then-not-eat-clause-gives t c

pub component_calls::named_attribute-returns-in_err-value-clause-gives : goal.component_calls::named_attribute-returns-in_err-value-clause-gives
component_calls::named_attribute-returns-in_err-value-clause-gives t c = attached.component_calls::named_attribute-returns-in_err-value-clause-gives t c

pub component_calls::named_attribute-returns-clause-gives : goal.component_calls::named_attribute-returns-clause-gives
component_calls::named_attribute-returns-clause-gives t c = attached.component_calls::named_attribute-returns-clause-gives t c

pub component_calls::attribute_value-braced-requires : goal.component_calls::attribute_value-braced-requires
component_calls::attribute_value-braced-requires t c = omega (arith, eats_size _ _ _ _ c.eat.ensures)

pub component_calls::attribute_value-returns-then-eat-clause-gives : goal.component_calls::attribute_value-returns-then-eat-clause-gives
component_calls::attribute_value-returns-then-eat-clause-gives t c = attached.component_calls::attribute_value-returns-then-eat-clause-gives t c

pub component_calls::attribute_value-returns-clause-gives : goal.component_calls::attribute_value-returns-clause-gives
component_calls::attribute_value-returns-clause-gives t c = attached.component_calls::attribute_value-returns-clause-gives t c

pub component_calls::braced-returns-in_err-inside-clause-gives : goal.component_calls::braced-returns-in_err-inside-clause-gives
component_calls::braced-returns-in_err-inside-clause-gives t c = attached.component_calls::braced-returns-in_err-inside-clause-gives t c

pub component_calls::braced-returns-in_err-expect-clause-gives : goal.component_calls::braced-returns-in_err-expect-clause-gives
component_calls::braced-returns-in_err-expect-clause-gives t c = attached.component_calls::braced-returns-in_err-expect-clause-gives t c

pub component_calls::braced-returns-clause-gives : goal.component_calls::braced-returns-clause-gives
component_calls::braced-returns-clause-gives t c = attached.component_calls::braced-returns-clause-gives t c
