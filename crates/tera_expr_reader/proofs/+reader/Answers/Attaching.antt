-- Of calls of components and their attributes.
use Rattle.std.proofs.Common.{inr, refl, sym, ap, ◌∙◌, subst, inl}
use Rattle.std.proofs.lemmas.Result.{err_from_is_err_and}
use Rattle.tera_base.specs.Values.{TextKey}
use Rattle.tera_base.specs.declared.values.Key.TheVariants.{String}
use Rattle.tera_lexer.specs.code.Cursors.{Position}
use Rattle.tera_ast.specs.Tree as tree
use Rattle.tera_ast.specs.View.{nodes_view}
use Rattle.tera_grammar.specs.expressions.Concrete.{Atomic, Component}
use Rattle.tera_grammar.specs.expressions.Reading.Front.{at, taken_quote}
use Rattle.tera_grammar.specs.expressions.Reading.Loop.{expr}
use Rattle.tera_grammar.specs.expressions.Reading.Bracketed.{attributes_of}
use Rattle.tera_grammar.specs.expressions.Spans.{spanning}
use Rattle.tera_expr_parts.specs.Attributes.{GivesQuote}
use Rattle.tera_expr_parts.specs.Rooms.{room_of}
use Rattle.tera_expr_parts.specs.CommaLists.{reader_of}
use Rattle.tera_expect.specs.Taking.{GoesOn, name_at, name_in}
use Rattle.tera_expr_reader.proofs.AttributesLemmas.{attributing_begins, attributing_more, attributing_ends, attributing_fails, named_gives, named_lacks, nothing_gives, spread_gives, spread_lacks, spread_missing, brace_at, bare_gives, assigned_lacks, assigned_gives, value_braced, value_quoted, braced_given, braced_fails, braced_unclosed}
use Rattle.tera_expr_reader.proofs.ComponentCallsLemmas.{unnamed_component, component_no_path, component_no_attributes, component_unclosed, component_given, component_shown}
use Rattle.tera_expect.proofs.TakingLemmas.{took_all, took_further, stays, goes_further, took_goes, took_size}
use Rattle.tera_expr_reader.proofs.+reader.Goals as goal

pub component_calls::component-returns-then-not-begins_name-clause-gives : goal.component_calls::component-returns-then-not-begins_name-clause-gives
component_calls::component-returns-then-not-begins_name-clause-gives t c =
    inr (inl (unnamed_component (expr c.args.depth) (room_of c.args.room) c.args.first.now c.args.links.now c.args.cursor.now.left (sym c.begins_name.ensures ∙ c.if-not-begins_name.true)))

pub component_calls::component-returns-in_err-name-clause-gives : goal.component_calls::component-returns-in_err-name-clause-gives
component_calls::component-returns-in_err-name-clause-gives t c =
    let p = err_from_is_err_and c.from_residual.result c.from_residual.ensures.1 in
    rw (p.1, p.2) (component_no_path (expr c.args.depth) (room_of c.args.room) c.args.first.now c.args.links.now c.args.cursor.now.left _ _ c.in_err-name.ensures.gives)

pub component_calls::component-returns-in_err-kwargs-clause-gives : goal.component_calls::component-returns-in_err-kwargs-clause-gives
component_calls::component-returns-in_err-kwargs-clause-gives t c =
    let p = err_from_is_err_and c.from_residual-in_err-kwargs.result c.from_residual-in_err-kwargs.ensures.1 in
    let (x, path, named) = c.in_ok-name.ensures.gives in
    rw (p.1, p.2) (component_no_attributes (expr c.args.depth) (room_of c.args.room) c.args.first.now c.args.links.now c.args.cursor.now.left c.dotted_name.new.cursor.left x _ _
    path c.in_err-kwargs.ensures.gives)

pub component_calls::component-returns-in_err-close_component-clause-gives : goal.component_calls::component-returns-in_err-close_component-clause-gives
component_calls::component-returns-in_err-close_component-clause-gives t c =
    let p = err_from_is_err_and c.from_residual-in_err-close_component.result c.from_residual-in_err-close_component.ensures.1 in
    let (x, path, named) = c.in_ok-name.ensures.gives in
    let (r, read, lists) = c.in_ok-kwargs.ensures.gives in
    rw (p.1, p.2) (component_unclosed (expr c.args.depth) (room_of c.args.room) c.args.first.now c.args.links.now c.args.cursor.now.left c.dotted_name.new.cursor.left
    c.attributes.new.cursor.left c.attributes.new.links x r _ _ path read c.in_err-close_component.ensures.gives)

pub component_calls::component-returns-clause-gives : goal.component_calls::component-returns-clause-gives
component_calls::component-returns-clause-gives t c =
    let (x, path, named) = c.in_ok-name.ensures.gives in
    let (r, read, lists) = c.in_ok-kwargs.ensures.gives in
    let (t, closed) = c.in_ok-close_component.ensures.gives in
    let s = c.args.first.now in
    let u = c.close_component.new.cursor.span in (
      Atomic (Component s x.name x.further r t u),
      component_given (expr c.args.depth) (room_of c.args.room) s c.args.links.now c.args.cursor.now.left c.dotted_name.new.cursor.left c.attributes.new.cursor.left
          c.close_component.new.cursor.left c.attributes.new.links x r t u path read closed,
      c.in_ok-component_call.ensures ∙ component_shown c.args.room.scope.in_loop s t u x r _ _ _ _ named lists (ap nodes_view c.new-body.ensures.items)
          (c.spanning-span.ensures ∙ ap (spanning s) c.current_span.ensures.span),
      refl,
    )

pub component_calls::component-returns-clause-later : goal.component_calls::component-returns-clause-later
component_calls::component-returns-clause-later t c = took_all _ _ _ (took_further _ _ _ c.in_ok-name.ensures.later c.in_ok-kwargs.ensures.later) c.in_ok-close_component.ensures.later

pub component_calls::attributes-reading-init : goal.component_calls::attributes-reading-init
component_calls::attributes-reading-init t c =
    let w = room_of c.args.values.room in
    let now = at c.args.links.now c.args.cursor.now.left in
    record {
      read = attributing_begins c.args.values.room.scope.in_loop c.args.values w (attributes_of (reader_of c.args.values) w now) _ now c.new-attributes.ensures.items refl;
      gone = stays c.args.cursor.now;
    }

pub component_calls::attributes-returns-in_err-next-clause-gives : goal.component_calls::attributes-returns-in_err-next-clause-gives
component_calls::attributes-returns-in_err-next-clause-gives t c =
    let w = room_of c.args.values.room in
    let p = err_from_is_err_and c.from_residual.result c.from_residual.ensures.1 in
    rw (p.1, p.2) (attributing_fails c.args.values.room.scope.in_loop c.args.values w _ c.reading.attributes.items (at c.reading.links c.reading.cursor.left) _ _
    c.reading.invariant.read c.in_err-next.ensures.gives)

pub component_calls::attributes-reading-preserved : goal.component_calls::attributes-reading-preserved
component_calls::attributes-reading-preserved t c =
    let w = room_of c.args.values.room in
    let (put, adds, shows) = rw c.in-Some.is at c.in_ok-next.ensures.gives in
    let took = rw c.in-Some.is at c.in_ok-next.ensures.later in
    record {
      read = attributing_more c.args.values.room.scope.in_loop c.args.values w _ c.reading.attributes.items c.push.new.self.items c.in-Some.next
          (at c.reading.links c.reading.cursor.left) (at c.attribute.new.links c.attribute.new.cursor.left) c.reading.invariant.read put adds shows c.in_ok-push.ensures.items;
      gone = goes_further _ _ _ c.reading.invariant.gone (took_goes _ _ took);
    }

pub component_calls::attributes-reading-smaller : goal.component_calls::attributes-reading-smaller
component_calls::attributes-reading-smaller t c = took_size c.reading.cursor c.attribute.new.cursor (rw c.in-Some.is at c.in_ok-next.ensures.later)

pub component_calls::attributes-returns-clause-gives : goal.component_calls::attributes-returns-clause-gives
component_calls::attributes-returns-clause-gives t c =
    let w = room_of c.args.values.room in
    let none = rw c.in_default.is at c.in_ok-next.ensures.gives in
    attributing_ends c.args.values.room.scope.in_loop c.args.values w _ c.reading.attributes.items (at c.reading.links c.reading.cursor.left)
    (at c.attribute.new.links c.attribute.new.cursor.left) c.reading.invariant.read none.0

pub component_calls::attributes-returns-clause-later : goal.component_calls::attributes-returns-clause-later
component_calls::attributes-returns-clause-later t c =
    let stayed = rw c.in_default.is at c.in_ok-next.ensures.later in
    subst (λ (q : Position). GoesOn c.args.cursor.now q) (sym stayed) c.reading.invariant.gone

pub component_calls::attribute-returns-in_err-named-clause-gives : goal.component_calls::attribute-returns-in_err-named-clause-gives
component_calls::attribute-returns-in_err-named-clause-gives t c =
    let p = err_from_is_err_and c.from_residual.result c.from_residual.ensures.1 in
    let name = rw c.in-Some.is at c.eat_name.ensures in
    rw (p.1, p.2) (named_lacks (reader_of c.args.values) (room_of c.args.values.room) c.args.links.now (name_at c.eat_name.new.cursor.span c.in-Some.name) c.args.cursor.now.left
    c.eat_name.new.cursor.left _ _ name.0 c.in_err-named.ensures.gives)

pub component_calls::attribute-returns-in-Some-clause-gives : goal.component_calls::attribute-returns-in-Some-clause-gives
component_calls::attribute-returns-in-Some-clause-gives t c =
    let name = rw c.in-Some.is at c.eat_name.ensures in
    named_gives (reader_of c.args.values) (room_of c.args.values.room) c.args.links.now c.args.values.room.scope.in_loop (name_at c.eat_name.new.cursor.span c.in-Some.name)
    c.args.cursor.now.left c.eat_name.new.cursor.left c.in_ok-named.named (at c.args.links.now c.args.cursor.now.left) _ name.0 c.in_ok-named.ensures.gives

pub component_calls::attribute-returns-then-not-eat-clause-gives : goal.component_calls::attribute-returns-then-not-eat-clause-gives
component_calls::attribute-returns-then-not-eat-clause-gives t c =
    let none = rw c.in_default.is at c.eat_name.ensures in
    let brace = rw c.if-not-eat.true at c.eat.ensures in
    nothing_gives (reader_of c.args.values) (room_of c.args.values.room) c.args.links.now c.args.values.room.scope.in_loop c.args.cursor.now c.eat_name.new.cursor c.eat.new.cursor
    none.0 none.1 brace.0 brace.1

pub component_calls::attribute-returns-in_err-expect-clause-gives : goal.component_calls::attribute-returns-in_err-expect-clause-gives
component_calls::attribute-returns-in_err-expect-clause-gives t c =
    let none = rw c.in_default.is at c.eat_name.ensures in
    let brace = rw c.if-not-eat.false at c.eat.ensures in
    let p = err_from_is_err_and c.from_residual-in_err-expect.result c.from_residual-in_err-expect.ensures.1 in
    rw (p.1, p.2) (spread_missing (reader_of c.args.values) (room_of c.args.values.room) c.args.links.now c.eat.new.cursor.span c.args.cursor.now.left c.eat.new.cursor.left _ _ none.0
    (brace_at c.args.cursor.now c.eat_name.new.cursor c.eat.new.cursor none.1 brace.0) c.in_err-expect.ensures.gives)

pub component_calls::attribute-returns-in_err-spread-clause-gives : goal.component_calls::attribute-returns-in_err-spread-clause-gives
component_calls::attribute-returns-in_err-spread-clause-gives t c =
    let none = rw c.in_default.is at c.eat_name.ensures in
    let brace = rw c.if-not-eat.false at c.eat.ensures in
    let p = err_from_is_err_and c.from_residual-in_err-spread.result c.from_residual-in_err-spread.ensures.1 in
    rw (p.1, p.2) (spread_lacks (reader_of c.args.values) (room_of c.args.values.room) c.args.links.now c.eat.new.cursor.span c.expect.new.cursor.span c.args.cursor.now.left
    c.eat.new.cursor.left c.expect.new.cursor.left _ _ none.0 (brace_at c.args.cursor.now c.eat_name.new.cursor c.eat.new.cursor none.1 brace.0) c.in_ok-expect.ensures.gives
    c.in_err-spread.ensures.gives)

pub component_calls::attribute-returns-clause-gives : goal.component_calls::attribute-returns-clause-gives
component_calls::attribute-returns-clause-gives t c =
    let none = rw c.in_default.is at c.eat_name.ensures in
    let brace = rw c.if-not-eat.false at c.eat.ensures in
    spread_gives (reader_of c.args.values) (room_of c.args.values.room) c.args.links.now c.args.values.room.scope.in_loop c.eat.new.cursor.span c.expect.new.cursor.span
    c.args.cursor.now.left c.eat.new.cursor.left c.expect.new.cursor.left c.in_ok-spread.spread (at c.args.links.now c.args.cursor.now.left) _ none.0
    (brace_at c.args.cursor.now c.eat_name.new.cursor c.eat.new.cursor none.1 brace.0) c.in_ok-expect.ensures.gives c.in_ok-spread.ensures.gives

pub component_calls::named_attribute-returns-then-not-eat-clause-gives : goal.component_calls::named_attribute-returns-then-not-eat-clause-gives
component_calls::named_attribute-returns-then-not-eat-clause-gives t c =
    let none = rw c.if-not-eat.true at c.eat.ensures in
    bare_gives (reader_of c.args.values) (room_of c.args.values.room) c.args.links.now c.args.values.room.scope.in_loop c.args.name.now c.args.cursor.now c.eat.new.cursor
    (String c.in_ok-from_str.field-0) c.in_ok-variable.variable none.0 none.1 (ap TextKey c.in_ok-from_str.ensures.ok) (c.in_ok-variable.ensures ∙ ap (tree.Var c.args.name.now) (c.copied.ensures ∙ c.current_span.ensures.span))

pub component_calls::named_attribute-returns-in_err-value-clause-gives : goal.component_calls::named_attribute-returns-in_err-value-clause-gives
component_calls::named_attribute-returns-in_err-value-clause-gives t c =
    let assign = rw c.if-not-eat.false at c.eat.ensures in
    let n = name_in c.args.name.now c.args.cursor.now.span in
    let s = c.eat.new.cursor.span in
    let p = err_from_is_err_and c.from_residual-in_err-value.result c.from_residual-in_err-value.ensures.1 in
    rw (p.1, p.2) (assigned_lacks (reader_of c.args.values) (room_of c.args.values.room) c.args.links.now n s c.args.cursor.now.left c.eat.new.cursor.left _ _ assign.0 (c.in_err-value.ensures.gives n s))

pub component_calls::named_attribute-returns-clause-gives : goal.component_calls::named_attribute-returns-clause-gives
component_calls::named_attribute-returns-clause-gives t c =
    let assign = rw c.if-not-eat.false at c.eat.ensures in
    let n = name_in c.args.name.now c.args.cursor.now.span in
    assigned_gives (reader_of c.args.values) (room_of c.args.values.room) c.args.links.now c.args.values.room.scope.in_loop n c.eat.new.cursor.span c.args.cursor.now.left c.eat.new.cursor.left
    (String c.in_ok-from_str.field-0) c.in_ok-value.value _ assign.0 (ap TextKey c.in_ok-from_str.ensures.ok) c.in_ok-value.ensures.gives

pub component_calls::attribute_value-returns-then-eat-clause-gives : goal.component_calls::attribute_value-returns-then-eat-clause-gives
component_calls::attribute_value-returns-then-eat-clause-gives t c =
    let brace = rw c.if-eat.true at c.eat.ensures in
    value_braced (reader_of c.args.values) (room_of c.args.values.room) c.args.links.now c.args.values.room.scope.in_loop c.eat.new.cursor.span c.args.cursor.now.left
    c.eat.new.cursor.left c.braced.result (at c.braced.new.links c.braced.new.cursor.left) brace.0 c.braced.ensures.gives

pub component_calls::attribute_value-returns-clause-gives : goal.component_calls::attribute_value-returns-clause-gives
component_calls::attribute_value-returns-clause-gives t c =
    let none = rw c.if-eat.false at c.eat.ensures in
    value_quoted (reader_of c.args.values) (room_of c.args.values.room) c.args.links.now c.args.values.room.scope.in_loop c.args.cursor.now.left c.quote.result c.quote.new.cursor none.0
    (subst (λ (q : Position). GivesQuote c.quote.result c.quote.new.cursor (taken_quote q.left)) none.1 c.quote.ensures.gives)

pub component_calls::braced-returns-in_err-inside-clause-gives : goal.component_calls::braced-returns-in_err-inside-clause-gives
component_calls::braced-returns-in_err-inside-clause-gives t c =
    let p = err_from_is_err_and c.from_residual.result c.from_residual.ensures.1 in
    rw (p.1, p.2) (braced_fails (reader_of c.args.values) (room_of c.args.values.room) c.args.links.now c.args.cursor.now.left _ _ c.in_err-inside.ensures.gives)

pub component_calls::braced-returns-in_err-expect-clause-gives : goal.component_calls::braced-returns-in_err-expect-clause-gives
component_calls::braced-returns-in_err-expect-clause-gives t c =
    let p = err_from_is_err_and c.from_residual-in_err-expect.result c.from_residual-in_err-expect.ensures.1 in
    let (t, read, shows) = c.in_ok-inside.ensures.gives in
    rw (p.1, p.2) (braced_unclosed (reader_of c.args.values) (room_of c.args.values.room) c.args.links.now c.args.cursor.now.left c.value.new.cursor.left c.value.new.links t _ _
    read c.in_err-expect.ensures.gives)

pub component_calls::braced-returns-clause-gives : goal.component_calls::braced-returns-clause-gives
component_calls::braced-returns-clause-gives t c =
    let (t, read, shows) = c.in_ok-inside.ensures.gives in
    let s = c.expect.new.cursor.span in (
      (t, s),
      braced_given (reader_of c.args.values) (room_of c.args.values.room) c.args.links.now c.args.cursor.now.left c.value.new.cursor.left c.expect.new.cursor.left c.value.new.links t s
          read c.in_ok-expect.ensures.gives,
      shows,
    )
