use Rattle.std.proofs.Common.{◌≡◌, ◌+◌, ◌*◌}
use Rattle.tera_lexer.specs.code.Cursors.{size}
use Rattle.tera_ast.specs.View.{args_view, expression_view}
use Rattle.tera_grammar.specs.expressions.Concrete.{Element, of_items, of_entries}
use Rattle.tera_grammar.specs.expressions.Output.{of_loop}
use Rattle.tera_grammar.specs.expressions.Reading.Front.{at}
use Rattle.tera_grammar.specs.expressions.Reading.Loop.{expr}
use Rattle.tera_grammar.specs.expressions.Reading.Bracketed.{row_of, links_of, after_element, attributes_of, arguments_of}
use Rattle.tera_grammar.specs.expressions.Stack.{coming, comes_to, left_to_do}
use Rattle.tera_expr_reader.specs.Elements.{IsItem}
use Rattle.tera_expr_reader.specs.Frames.{frame_view, state_view, HoldsNegatable, Went}
use Rattle.tera_expr_parts.specs.Rooms.{room_of}
use Rattle.tera_expr_parts.specs.CommaLists.{reader_of}
use Rattle.tera_expr_parts.specs.Kept.{AreKept}
use Rattle.tera_expect.specs.Taking.{GoesOn, name_in, Took}
use Rattle.tera_expr_reader.proofs.ArgumentRows.{Asks}
use Rattle.tera_expr_reader.proofs.ChainsLemmas.{Chaining}
use Rattle.tera_expr_reader.proofs.ItemsLemmas.{Listing, Listed}
use Rattle.tera_expr_reader.proofs.RowsLemmas.{Rowing, Gone}
use Rattle.tera_expr_reader.proofs.MapsLemmas.{Pairing, Paired}
use Rattle.tera_expr_reader.proofs.AttributesLemmas.{Attributing}
use Rattle.tera_expr_reader.proofs.+reader.Given as goal

abbrev pub invariant-stack::expression-steps : goal.invariant-stack::expression-steps
invariant-stack::expression-steps l = record {
  same : comes_to frame_view (room_of l.room) (state_view l.state) l.frames.items (at l.links l.cursor.left)
      ≡ coming l.depth (room_of l.room) l.least (at l.fn.links l.fn.cursor.left);
  went : Went l.state l.fn.cursor l.cursor;
  negatable : HoldsNegatable l.state;
}

abbrev pub decreases-stack::expression-steps : goal.decreases-stack::expression-steps
decreases-stack::expression-steps l = left_to_do (state_view l.state) l.frames.items (at l.links l.cursor.left)

abbrev pub invariant-arguments::arguments-elements : goal.invariant-arguments::arguments-elements
invariant-arguments::arguments-elements l = record {
  rows : Asks l.open l.fn.values.room.scope.in_loop (args_view l.arguments.entries) l.cursor.span (reader_of l.fn.values) (room_of l.fn.values.room)
      (arguments_of (reader_of l.fn.values) (room_of l.fn.values.room) (at l.fn.links l.fn.cursor.left)) (at l.links l.cursor.left);
  gone : Gone l.open l.fn.cursor l.cursor;
  kept : AreKept l.names.items l.cursor.left l.fn.cursor.left;
}

abbrev pub decreases-arguments::arguments-elements : goal.decreases-arguments::arguments-elements
decreases-arguments::arguments-elements l = size l.cursor.left

abbrev pub invariant-maps::map-elements : goal.invariant-maps::map-elements
invariant-maps::map-elements l = record {
  rows : Rowing l.open (reader_of l.fn.values) (room_of l.fn.values.room) of_entries
      (row_of (reader_of l.fn.values) (room_of l.fn.values.room) of_entries (at l.fn.links l.fn.cursor.left)) (at l.links l.cursor.left)
      (Pairing l.fn.values.room.scope.in_loop l.entries.items)
      (Paired l.fn.values.room.scope.in_loop l.entries.items l.cursor.span);
  gone : Gone l.open l.fn.cursor l.cursor;
}

abbrev pub decreases-maps::map-elements : goal.decreases-maps::map-elements
decreases-maps::map-elements l = size l.cursor.left

abbrev pub invariant-component_calls::attributes-reading : goal.invariant-component_calls::attributes-reading
invariant-component_calls::attributes-reading l = record {
  read : Attributing l.fn.values.room.scope.in_loop l.fn.values (room_of l.fn.values.room)
      (attributes_of (reader_of l.fn.values) (room_of l.fn.values.room) (at l.fn.links l.fn.cursor.left)) l.attributes.items (at l.links l.cursor.left);
  gone : GoesOn l.fn.cursor l.cursor;
}

abbrev pub decreases-component_calls::attributes-reading : goal.decreases-component_calls::attributes-reading
decreases-component_calls::attributes-reading l = size l.cursor.left

-- each call comes after a token, or goes to a function of a lower rank
abbrev pub decreases-stack::expression : goal.decreases-stack::expression
decreases-stack::expression l = 8 * size l.cursor.now.left + 4

abbrev pub decreases-stack::turn : goal.decreases-stack::turn
decreases-stack::turn l = 8 * size l.cursor.now.left + 3

abbrev pub decreases-calls::suffix : goal.decreases-calls::suffix
decreases-calls::suffix l = 8 * size l.cursor.now.left + 9

abbrev pub decreases-calls::test : goal.decreases-calls::test
decreases-calls::test l = 8 * size l.cursor.now.left + 8

abbrev pub decreases-calls::filter_with : goal.decreases-calls::filter_with
decreases-calls::filter_with l = 8 * size l.cursor.now.left + 8

abbrev pub decreases-calls::read_call : goal.decreases-calls::read_call
decreases-calls::read_call l = 8 * size l.cursor.now.left + 5

abbrev pub decreases-calls::maybe_arguments : goal.decreases-calls::maybe_arguments
decreases-calls::maybe_arguments l = 8 * size l.cursor.now.left + 7

abbrev pub decreases-arguments::arguments : goal.decreases-arguments::arguments
decreases-arguments::arguments l = 8 * size l.cursor.now.left + 6

abbrev pub decreases-rows::value : goal.decreases-rows::value
decreases-rows::value l = 8 * size l.cursor.now.left + 5

abbrev pub decreases-subscripts::read_subscript : goal.decreases-subscripts::read_subscript
decreases-subscripts::read_subscript l = 8 * size l.cursor.now.left + 7

abbrev pub decreases-subscripts::slice : goal.decreases-subscripts::slice
decreases-subscripts::slice l = 8 * size l.cursor.now.left + 6

abbrev pub decreases-subscripts::end : goal.decreases-subscripts::end
decreases-subscripts::end l = 8 * size l.cursor.now.left + 5

abbrev pub decreases-subscripts::step : goal.decreases-subscripts::step
decreases-subscripts::step l = 8 * size l.cursor.now.left + 5

abbrev pub invariant-chains::with_links-growing : goal.invariant-chains::with_links-growing
invariant-chains::with_links-growing l = record {
  chaining : Chaining l.fn.room.scope.in_loop l.fields_of_loop (name_in l.fn.name l.fn.first)
      (links_of (expr l.fn.depth) (room_of l.fn.room) (of_loop l.fn.room.scope.in_loop (name_in l.fn.name l.fn.first)) (at l.fn.links l.fn.cursor.left))
      (links_of (expr l.fn.depth) (room_of l.fn.room) l.fields_of_loop) (expression_view l.chain) l.cursor.span (at l.links l.cursor.left);
  later : GoesOn l.fn.cursor l.cursor;
}

abbrev pub decreases-chains::with_links-growing : goal.decreases-chains::with_links-growing
decreases-chains::with_links-growing l = size l.cursor.left

abbrev pub decreases-stack::operand : goal.decreases-stack::operand
decreases-stack::operand l = 8 * size l.cursor.now.left + 3

abbrev pub decreases-stack::head : goal.decreases-stack::head
decreases-stack::head l = 8 * size l.cursor.now.left + 2

abbrev pub decreases-stack::word : goal.decreases-stack::word
decreases-stack::word l = 8 * size l.cursor.now.left + 9

abbrev pub decreases-chains::chain : goal.decreases-chains::chain
decreases-chains::chain l = 8 * size l.cursor.now.left + 8

abbrev pub decreases-chains::function_call : goal.decreases-chains::function_call
decreases-chains::function_call l = 8 * size l.cursor.now.left + 7

abbrev pub decreases-chains::with_links : goal.decreases-chains::with_links
decreases-chains::with_links l = 8 * size l.cursor.now.left + 6

abbrev pub decreases-chains::with_link : goal.decreases-chains::with_link
decreases-chains::with_link l = 8 * size l.cursor.now.left + 5

abbrev pub invariant-arrays::items-elements : goal.invariant-arrays::items-elements
invariant-arrays::items-elements l = record {
  rows : (x : Element) → IsItem l.fn.values.room.scope.in_loop l.fn.element x → Rowing l.open (reader_of l.fn.values) (room_of l.fn.values.room) of_items
      (after_element (row_of (reader_of l.fn.values) (room_of l.fn.values.room) of_items) of_items x (at l.fn.links l.fn.cursor.left)) (at l.links l.cursor.left)
      (Listing l.fn.values.room.scope.in_loop l.items.items) (Listed l.fn.values.room.scope.in_loop l.items.items l.cursor.span);
  gone : Took l.fn.cursor l.cursor;
}

abbrev pub decreases-arrays::items-elements : goal.decreases-arrays::items-elements
decreases-arrays::items-elements l = size l.cursor.left

abbrev pub decreases-arrays::array : goal.decreases-arrays::array
decreases-arrays::array l = 8 * size l.cursor.now.left + 8

abbrev pub decreases-arrays::items : goal.decreases-arrays::items
decreases-arrays::items l = 8 * size l.cursor.now.left + 7

abbrev pub decreases-arrays::item : goal.decreases-arrays::item
decreases-arrays::item l = 8 * size l.cursor.now.left + 6

abbrev pub decreases-arrays::comprehension : goal.decreases-arrays::comprehension
decreases-arrays::comprehension l = 8 * size l.cursor.now.left + 7

abbrev pub decreases-arrays::extra : goal.decreases-arrays::extra
decreases-arrays::extra l = 8 * size l.cursor.now.left + 6

abbrev pub decreases-maps::map : goal.decreases-maps::map
decreases-maps::map l = 8 * size l.cursor.now.left + 7

abbrev pub decreases-maps::entry : goal.decreases-maps::entry
decreases-maps::entry l = 8 * size l.cursor.now.left + 6

abbrev pub decreases-component_calls::component : goal.decreases-component_calls::component
decreases-component_calls::component l = 8 * size l.cursor.now.left + 9

abbrev pub decreases-component_calls::attributes : goal.decreases-component_calls::attributes
decreases-component_calls::attributes l = 8 * size l.cursor.now.left + 8

abbrev pub decreases-component_calls::attribute : goal.decreases-component_calls::attribute
decreases-component_calls::attribute l = 8 * size l.cursor.now.left + 7

abbrev pub decreases-component_calls::named_attribute : goal.decreases-component_calls::named_attribute
decreases-component_calls::named_attribute l = 8 * size l.cursor.now.left + 8

abbrev pub decreases-component_calls::attribute_value : goal.decreases-component_calls::attribute_value
decreases-component_calls::attribute_value l = 8 * size l.cursor.now.left + 7

abbrev pub decreases-component_calls::braced : goal.decreases-component_calls::braced
decreases-component_calls::braced l = 8 * size l.cursor.now.left + 6
