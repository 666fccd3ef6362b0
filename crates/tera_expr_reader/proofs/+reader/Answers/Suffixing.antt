-- Of suffixes and their arguments.
use Rattle.tera_grammar.specs.expressions.Reading.Bracketed.{arguments_of}
use Rattle.std.proofs.Common.{◌≡◌, ap, sym, subst, ◌∙◌, arith, false, ap₂, refl, rules, []}
use Rattle.std.proofs.lemmas.Result.{err_from_is_err_and}
use Rattle.tera_grammar.specs.Reads.{found}
use Rattle.tera_ast.specs.Tree as tree
use Rattle.tera_ast.specs.View.{expression_view, args_view}
use Rattle.tera_ast.specs.declared.ast.UnaryOperator.TheVariants as unary
use Rattle.tera_grammar.specs.Reads.{◌>>=◌}
use Rattle.tera_grammar.specs.expressions.Concrete.{Subscript, Test, plainly, negated, no_args}
use Rattle.tera_grammar.specs.expressions.Reading.Front.{at}
use Rattle.tera_grammar.specs.expressions.Reading.Loop.{expr, suffix_in}
use Rattle.tera_grammar.specs.expressions.Spans.{spanning}
use Rattle.tera_grammar.specs.expressions.Stack.{Gives}
use Rattle.tera_expr_reader.specs.Calls.{call_of, filtering}
use Rattle.tera_expr_reader.specs.Chains.{subscripted}
use Rattle.tera_expr_parts.specs.Fronts.{ending_of}
use Rattle.tera_expr_parts.specs.Rooms.{room_of}
use Rattle.tera_expr_parts.specs.CommaLists.{reader_of, reader_by}
use Rattle.tera_expect.specs.Taking.{name_at}
use Rattle.tera_expr_reader.proofs.ArgumentRows.{arguments_begun, no_new_name, lacks_assign, lacks_value, lacks_end, one_argument}
use Rattle.tera_expr_reader.proofs.CallsLemmas.{subscript_is, test_is, negated_is, test_fails, test_made, call_given, call_unnamed, call_fails, no_arguments, arguments_after}
use Rattle.tera_expect.proofs.TakingLemmas.{took_size, took_all, goes_size, refused_after, refused_further}
use Rattle.tera_expect.proofs.NotesLemmas.{took_left}
use Rattle.tera_expr_parts.proofs.KeptLemmas.{kept_further, none_kept}
use Rattle.tera_expr_reader.proofs.RowsLemmas.{gone_begun, gone_on, fresh_given}
use Rattle.tera_expr_reader.proofs.+reader.Goals as goal

pub calls::suffix-returns-in_ok-with_subscript-in-Subscript-clause-gives : goal.calls::suffix-returns-in_ok-with_subscript-in-Subscript-clause-gives
calls::suffix-returns-in_ok-with_subscript-in-Subscript-clause-gives t c =
    let f = expr c.args.depth in
    let w = room_of c.args.room in
    let s = c.args.cursor.now.span in
    let p = at c.args.links.now c.args.cursor.now.left in
    let left = expression_view c.args.left in
    let (b, read, shows) = c.in_ok-item-in-Subscript.ensures.gives in (
      Subscript s b,
      ap (λ g. suffix_in f w (ending_of g s) p) c.in-Subscript.is ∙ subscript_is f w s p ∙ ap (λ o. o >>= λ b. found (Subscript s b.0, b.1)) read,
      c.in_ok-with_subscript-in-Subscript.ensures ∙ ap (λ z. subscripted c.in_ok-item-in-Subscript.item false left z) c.current_span-last.ensures.span ∙ shows.0 false left,
      shows.1,
    )

pub calls::test-returns-in_err-call-clause-gives : goal.calls::test-returns-in_err-call-clause-gives
calls::test-returns-in_err-call-clause-gives t c =
    let p = err_from_is_err_and c.from_residual.result c.from_residual.ensures.1 in
    rw (p.1, p.2) (test_fails (reader_of c.args.values) (room_of c.args.values.room) c.args.cursor.now.span _ c.eat-negated.result c.args.cursor.now c.eat-negated.new.cursor _ _ c.eat-negated.ensures c.in_err-call.ensures.gives)

pub calls::test-returns-then-not-negated-clause-gives : goal.calls::test-returns-then-not-negated-clause-gives
calls::test-returns-then-not-negated-clause-gives t c =
    let f = reader_of c.args.values in
    let w = room_of c.args.values.room in
    let not = rw c.if-not-negated.true at c.eat-negated.ensures in
    let (x, read, shows) = c.in_ok-call.ensures.gives in
    let s = c.args.cursor.now.span in (
      Test s plainly x.name x.args,
      test_is f w s _ c.args.cursor.now.left not.0 ∙ ap (λ o. o >>= λ x. found (Test s plainly x.0.name x.0.args, x.1)) (ap (λ p. call_of f w (at c.args.links.now p.left)) (sym not.1) ∙ read),
      c.in_ok-test.ensures ∙ test_made _ _ c.in_ok-call.call x (expression_view c.args.left) shows,
      shows.3,
    )

pub calls::test-returns-clause-gives : goal.calls::test-returns-clause-gives
calls::test-returns-clause-gives t c =
    let f = reader_of c.args.values in
    let w = room_of c.args.values.room in
    let not = rw c.if-not-negated.false at c.eat-negated.ensures in
    let (x, read, shows) = c.in_ok-call.ensures.gives in
    let s = c.args.cursor.now.span in
    let t = c.eat-negated.new.cursor.span in (
      Test s (negated t) x.name x.args,
      negated_is f w s t _ c.args.cursor.now.left c.eat-negated.new.cursor.left not.0 ∙ ap (λ o. o >>= λ x. found (Test s (negated t) x.0.name x.0.args, x.1)) read,
      c.in_ok-negation.ensures ∙ ap₂ (λ a b. tree.UnaryOperation unary.Not a b) (c.in_ok-test.ensures ∙ test_made _ _ c.in_ok-call.call x (expression_view c.args.left) shows)
          (ap (λ b. spanning c.args.start.now b) (c.current_span.ensures.span ∙ shows.3)),
      shows.3,
    )

pub calls::read_call-returns-in_err-name-clause-gives : goal.calls::read_call-returns-in_err-name-clause-gives
calls::read_call-returns-in_err-name-clause-gives t c =
    let p = err_from_is_err_and c.from_residual.result c.from_residual.ensures.1 in
    rw (p.1, p.2) (call_unnamed (reader_of c.args.values) (room_of c.args.values.room) _ c.args.cursor.now.left _ _ c.in_err-name.ensures.gives)

pub calls::read_call-returns-in_err-kwargs-clause-gives : goal.calls::read_call-returns-in_err-kwargs-clause-gives
calls::read_call-returns-in_err-kwargs-clause-gives t c =
    let p = err_from_is_err_and c.from_residual-in_err-kwargs.result c.from_residual-in_err-kwargs.ensures.1 in
    rw (p.1, p.2) (call_fails (reader_of c.args.values) (room_of c.args.values.room) _ c.args.cursor.now.left c.name.new.cursor.left (name_at c.name.new.cursor.span c.in_ok-name.name) _ _ c.in_ok-name.ensures.gives c.in_err-kwargs.ensures.gives)

pub calls::read_call-returns-clause-gives : goal.calls::read_call-returns-clause-gives
calls::read_call-returns-clause-gives t c =
    let n = name_at c.name.new.cursor.span c.in_ok-name.name in
    let (g, read, shows) = c.in_ok-kwargs.ensures.gives in (
      filtering n g,
      call_given (reader_of c.args.values) (room_of c.args.values.room) _ c.args.cursor.now.left c.name.new.cursor.left n g _ c.in_ok-name.ensures.gives read,
      (c.in_ok-name-2.ensures.ok, shows.0, c.expand.ensures ∙ ap₂ (λ a b. spanning a b) (c.copied-span.ensures ∙ c.current_span.ensures.span) (c.current_span-2.ensures.span ∙ shows.1 n refl), shows.1 n refl),
    )

pub calls::maybe_arguments-returns-then-not-eat-clause-gives : goal.calls::maybe_arguments-returns-then-not-eat-clause-gives
calls::maybe_arguments-returns-then-not-eat-clause-gives t c =
    let paren = rw c.if-not-eat.true at c.eat.ensures in
    rw paren.1 (no_args, no_arguments (reader_of c.args.values) (room_of c.args.values.room) _ c.args.cursor.now.left paren.0, (ap args_view c.new.ensures.empty, λ n h. sym h))

pub calls::maybe_arguments-returns-clause-gives : goal.calls::maybe_arguments-returns-clause-gives
calls::maybe_arguments-returns-clause-gives t c =
    let paren = rw c.if-not-eat.false at c.eat.ensures in
    arguments_after (reader_of c.args.values) (room_of c.args.values.room) _ _ _ c.arguments.result _ _ c.args.cursor.now.left c.eat.new.cursor.left c.eat.new.cursor.span paren.0 c.arguments.ensures.gives

pub arguments::arguments-value-requires : goal.arguments::arguments-value-requires
arguments::arguments-value-requires t c =
    let before = rw c.elements-test.true at c.elements.invariant.gone in
    omega (arith, goes_size _ _ before, took_size _ _ c.in_ok-name.ensures.later, took_size _ _ c.in_ok-expect.ensures.later)

pub arguments::arguments-elements-init : goal.arguments::arguments-elements-init
arguments::arguments-elements-init t c =
    let l = c.args.values.room.scope.in_loop in
    let none : c.new-arguments.result.entries ≡ [] = search rules in
    record {
      rows = arguments_begun l c.args.values (room_of c.args.values.room) c.args.links.now c.args.cursor.now c.eat-open.new.cursor c.eat-open.result (args_view c.new-arguments.result.entries) (ap args_view none) c.eat-open.ensures;
      gone = gone_begun c.eat-open.result c.args.cursor.now c.eat-open.new.cursor _ c.eat-open.ensures;
      kept = let nothing : c.new-names.result.items ≡ [] = search rules in none_kept c.new-names.result.items c.eat-open.new.cursor.left c.args.cursor.now.left nothing;
    }

pub arguments::arguments-returns-in_err-name-clause-gives : goal.arguments::arguments-returns-in_err-name-clause-gives
arguments::arguments-returns-in_err-name-clause-gives t c =
    let o = rw c.elements-test.true at c.elements.invariant.rows in
    let p = err_from_is_err_and c.from_residual.result c.from_residual.ensures.1 in
    rw (p.1, p.2) (no_new_name c.args.values.room.scope.in_loop (args_view c.elements.arguments.entries) c.args.values (room_of c.args.values.room) (arguments_of (reader_of c.args.values) (room_of c.args.values.room) (at c.args.links.now c.args.cursor.now.left))
    c.elements.links c.elements.cursor.left o _ _ c.in_err-name.ensures.gives)

pub arguments::arguments-returns-in_err-name-clause-refusal : goal.arguments::arguments-returns-in_err-name-clause-refusal
arguments::arguments-returns-in_err-name-clause-refusal t c =
    let before = rw c.elements-test.true at c.elements.invariant.gone in
    let p = err_from_is_err_and c.from_residual.result c.from_residual.ensures.1 in
    rw (p.1, p.2) (c.in_err-name.ensures.refusal c.args.cursor.now before c.elements.invariant.kept)

pub arguments::arguments-returns-in_err-expect-clause-gives : goal.arguments::arguments-returns-in_err-expect-clause-gives
arguments::arguments-returns-in_err-expect-clause-gives t c =
    let o = rw c.elements-test.true at c.elements.invariant.rows in
    let p = err_from_is_err_and c.from_residual-in_err-expect.result c.from_residual-in_err-expect.ensures.1 in
    rw (p.1, p.2) (lacks_assign c.args.values.room.scope.in_loop (args_view c.elements.arguments.entries) c.args.values (room_of c.args.values.room) (arguments_of (reader_of c.args.values) (room_of c.args.values.room) (at c.args.links.now c.args.cursor.now.left))
    c.elements.links c.elements.cursor.left o c.argument_name.new.cursor.left (name_at c.argument_name.new.cursor.span c.in_ok-name.name) c.in_ok-name.ensures.gives _ _ c.in_err-expect.ensures.gives)

pub arguments::arguments-returns-in_err-value-clause-gives : goal.arguments::arguments-returns-in_err-value-clause-gives
arguments::arguments-returns-in_err-value-clause-gives t c =
    let o = rw c.elements-test.true at c.elements.invariant.rows in
    let p = err_from_is_err_and c.from_residual-in_err-value.result c.from_residual-in_err-value.ensures.1 in
    rw (p.1, p.2) (lacks_value c.args.values.room.scope.in_loop (args_view c.elements.arguments.entries) c.args.values (room_of c.args.values.room) (arguments_of (reader_of c.args.values) (room_of c.args.values.room) (at c.args.links.now c.args.cursor.now.left))
    c.elements.links c.elements.cursor.left o c.argument_name.new.cursor.left (name_at c.argument_name.new.cursor.span c.in_ok-name.name) c.in_ok-name.ensures.gives
    c.expect.new.cursor.left c.expect.new.cursor.span c.in_ok-expect.ensures.gives _ _ c.in_err-value.ensures.gives)

pub arguments::arguments-returns-in_err-value-clause-refusal : goal.arguments::arguments-returns-in_err-value-clause-refusal
arguments::arguments-returns-in_err-value-clause-refusal t c =
    let before = rw c.elements-test.true at c.elements.invariant.gone in
    let p = err_from_is_err_and c.from_residual-in_err-value.result c.from_residual-in_err-value.ensures.1 in
    rw (p.1, p.2) (refused_further _ c.elements.cursor _ _ before
    (refused_after _ _ _ _ (took_all _ _ _ c.in_ok-name.ensures.later c.in_ok-expect.ensures.later) c.in_err-value.ensures.refusal))

pub arguments::arguments-returns-in_err-open-clause-gives : goal.arguments::arguments-returns-in_err-open-clause-gives
arguments::arguments-returns-in_err-open-clause-gives t c =
    let o = rw c.elements-test.true at c.elements.invariant.rows in
    let (t, read, shown) = c.in_ok-value.ensures.gives in
    let p = err_from_is_err_and c.from_residual-in_err-open.result c.from_residual-in_err-open.ensures.1 in
    rw (p.1, p.2) (lacks_end c.args.values.room.scope.in_loop (args_view c.elements.arguments.entries) c.args.values (room_of c.args.values.room) (arguments_of (reader_of c.args.values) (room_of c.args.values.room) (at c.args.links.now c.args.cursor.now.left))
    c.elements.links c.elements.cursor.left o c.argument_name.new.cursor.left (name_at c.argument_name.new.cursor.span c.in_ok-name.name) c.in_ok-name.ensures.gives
    c.expect.new.cursor.left c.expect.new.cursor.span c.in_ok-expect.ensures.gives t c.value.new.links c.value.new.cursor.left read c.more.new.cursor _ c.in_err-open.ensures.gives)

pub arguments::arguments-returns-in_err-open-clause-refusal : goal.arguments::arguments-returns-in_err-open-clause-refusal
arguments::arguments-returns-in_err-open-clause-refusal t c =
    let before = rw c.elements-test.true at c.elements.invariant.gone in
    let p = err_from_is_err_and c.from_residual-in_err-open.result c.from_residual-in_err-open.ensures.1 in
    rw (p.1, p.2) (refused_further _ c.elements.cursor _ _ before
    (refused_after _ _ _ _ (took_all _ _ _ c.in_ok-name.ensures.later (took_all _ _ _ c.in_ok-expect.ensures.later c.in_ok-value.ensures.later)) c.in_err-open.ensures.refusal))

pub arguments::arguments-elements-preserved : goal.arguments::arguments-elements-preserved
arguments::arguments-elements-preserved t c =
    let o = rw c.elements-test.true at c.elements.invariant.rows in
    let before = rw c.elements-test.true at c.elements.invariant.gone in
    let (t, read, shown) = c.in_ok-value.ensures.gives in
    let following = took_all _ _ _ c.in_ok-expect.ensures.later (took_all _ _ _ c.in_ok-value.ensures.later c.in_ok-open.ensures.later) in
    record {
      rows = one_argument c.args.values.room.scope.in_loop (args_view c.elements.arguments.entries) c.args.values (room_of c.args.values.room) (arguments_of (reader_of c.args.values) (room_of c.args.values.room) (at c.args.links.now c.args.cursor.now.left))
          c.elements.links c.elements.cursor.left o c.argument_name.new.cursor.left (name_at c.argument_name.new.cursor.span c.in_ok-name.name) c.in_ok-name.ensures.gives
          c.expect.new.cursor.left c.expect.new.cursor.span c.in_ok-expect.ensures.gives t c.value.new.links c.value.new.cursor.left read c.more.new.cursor c.in_ok-open.open c.in_ok-open.ensures.gives
          (expression_view c.in_ok-value.value) shown (args_view c.put_argument.new.arguments.entries) c.in_ok-put_argument.ensures.puts;
      gone = gone_on c.in_ok-open.open c.args.cursor.now c.elements.cursor c.more.new.cursor before
          (took_all _ _ _ c.in_ok-name.ensures.later following);
      kept = kept_further c.argument_name.new.names.items c.more.new.cursor.left c.argument_name.new.cursor.left c.args.cursor.now.left (took_left _ _ following)
          (c.in_ok-name.ensures.kept c.args.cursor.now before c.elements.invariant.kept);
    }

pub arguments::arguments-elements-smaller : goal.arguments::arguments-elements-smaller
arguments::arguments-elements-smaller t c =
    took_size c.elements.cursor c.more.new.cursor
    (took_all _ _ _ c.in_ok-name.ensures.later (took_all _ _ _ c.in_ok-expect.ensures.later (took_all _ _ _ c.in_ok-value.ensures.later c.in_ok-open.ensures.later)))

pub arguments::arguments-returns-clause-gives : goal.arguments::arguments-returns-clause-gives
arguments::arguments-returns-clause-gives t c =
    let z = rw c.elements-test.false at c.elements.invariant.rows in (
      z.row,
      z.reads,
      (z.is.shows, z.is.ends),
    )

pub rows::value-returns-in-Some-clause-gives : goal.rows::value-returns-in-Some-clause-gives
rows::value-returns-in-Some-clause-gives t c =
    subst (λ o. Gives expression_view c.args.values.room.scope.in_loop c.expression.result (at c.args.links.now c.expression.new.cursor.left)
    (reader_by c.args.values.depth o (room_of c.args.values.room) c.args.least (at c.args.links.now c.args.cursor.now.left))) (sym c.in-Some.is)
    (fresh_given c.args.values.room.scope.in_loop c.expression.result c.in-Some.all c.args.links.now c.expression.new.links c.args.cursor.now.left c.expression.new.cursor.left
    c.args.values.depth (room_of c.args.values.room) c.args.least c.expression.ensures.gives)
