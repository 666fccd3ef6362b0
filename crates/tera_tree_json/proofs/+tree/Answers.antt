use Rattle.std.proofs.Common.{rules, ◌≤◌, refl, ◌∙◌, arith}
use Rattle.tera_ast.specs.declared.ast.Expression.{the_lemmas}
use Rattle.tera_ast.specs.declared.ast.If.{size-If}
use Rattle.tera_ast.proofs.Views.{view_const, view_array, view_map, view_var, view_get_attr, view_get_item, view_slice, view_filter, view_test, view_ternary, view_comprehension, view_call, view_function_call, view_unary, view_binary, view_shown, view_set, view_block, view_block_set, view_for, view_if, view_section, block_set_out, for_out, if_out, section_out}
use Rattle.tera_tree_json.proofs.Elifs.{whole, opened_more, closed}
use Rattle.tera_tree_json.proofs.FromFirst.{items_row, one_item, entries_row, one_entry, row_more}
use Rattle.tera_tree_json.proofs.Views.{view_content, view_continue, view_include}
use Rattle.json_members.proofs.Putting.{token, then_token, then_all, from_later, as_well}
use Rattle.tera_tree_json.proofs.+tree.Goals as goal

pub expressions::put_expression-returns-in-Const : goal.expressions::put_expression-returns-in-Const
expressions::put_expression-returns-in-Const t c =
    rw (c.in-Const.is, view_const c.in-Const.s, ← c.span.ensures, ← c.node.ensures) c.put_const.ensures

pub expressions::put_expression-returns-in-Array : goal.expressions::put_expression-returns-in-Array
expressions::put_expression-returns-in-Array t c =
    rw (c.in-Array.is, view_array c.in-Array.s, ← c.span-in-Array.ensures, ← c.node-in-Array.ensures) c.put_array.ensures

pub expressions::put_expression-returns-in-Map : goal.expressions::put_expression-returns-in-Map
expressions::put_expression-returns-in-Map t c =
    rw (c.in-Map.is, view_map c.in-Map.s, ← c.span-in-Map.ensures, ← c.node-in-Map.ensures) c.put_map.ensures

pub expressions::put_expression-returns-in-Var : goal.expressions::put_expression-returns-in-Var
expressions::put_expression-returns-in-Var t c =
    rw (c.in-Var.is, view_var c.in-Var.s, ← c.span-in-Var.ensures, ← c.node-in-Var.ensures, ← c.as_str.ensures.value) c.put_var.ensures

pub expressions::put_expression-returns-in-GetAttr : goal.expressions::put_expression-returns-in-GetAttr
expressions::put_expression-returns-in-GetAttr t c =
    rw (c.in-GetAttr.is, view_get_attr c.in-GetAttr.s, ← c.span-in-GetAttr.ensures, ← c.node-in-GetAttr.ensures) c.put_get_attr.ensures

pub expressions::put_expression-returns-in-GetItem : goal.expressions::put_expression-returns-in-GetItem
expressions::put_expression-returns-in-GetItem t c =
    rw (c.in-GetItem.is, view_get_item c.in-GetItem.s, ← c.span-in-GetItem.ensures, ← c.node-in-GetItem.ensures) c.put_get_item.ensures

pub expressions::put_expression-returns-in-Slice : goal.expressions::put_expression-returns-in-Slice
expressions::put_expression-returns-in-Slice t c =
    rw (c.in-Slice.is, view_slice c.in-Slice.s, ← c.span-in-Slice.ensures, ← c.node-in-Slice.ensures) c.put_slice.ensures

pub expressions::put_expression-returns-in-Filter : goal.expressions::put_expression-returns-in-Filter
expressions::put_expression-returns-in-Filter t c =
    rw (c.in-Filter.is, view_filter c.in-Filter.s, ← c.span-in-Filter.ensures, ← c.node-in-Filter.ensures) c.put_filter.ensures

pub expressions::put_expression-returns-in-Test : goal.expressions::put_expression-returns-in-Test
expressions::put_expression-returns-in-Test t c =
    rw (c.in-Test.is, view_test c.in-Test.s, ← c.span-in-Test.ensures, ← c.node-in-Test.ensures) c.put_test.ensures

pub expressions::put_expression-returns-in-Ternary : goal.expressions::put_expression-returns-in-Ternary
expressions::put_expression-returns-in-Ternary t c =
    rw (c.in-Ternary.is, view_ternary c.in-Ternary.s, ← c.span-in-Ternary.ensures, ← c.node-in-Ternary.ensures) c.put_ternary.ensures

pub expressions::put_expression-returns-in-ListComprehension : goal.expressions::put_expression-returns-in-ListComprehension
expressions::put_expression-returns-in-ListComprehension t c =
    rw (c.in-ListComprehension.is, view_comprehension c.in-ListComprehension.s, ← c.span-in-ListComprehension.ensures, ← c.node-in-ListComprehension.ensures) c.put_comprehension.ensures

pub expressions::put_expression-returns-in-ComponentCall : goal.expressions::put_expression-returns-in-ComponentCall
expressions::put_expression-returns-in-ComponentCall t c =
    rw (c.in-ComponentCall.is, view_call c.in-ComponentCall.s, ← c.span-in-ComponentCall.ensures, ← c.node-in-ComponentCall.ensures) c.put_component_call.ensures

pub expressions::put_expression-returns-in-FunctionCall : goal.expressions::put_expression-returns-in-FunctionCall
expressions::put_expression-returns-in-FunctionCall t c =
    rw (c.in-FunctionCall.is, view_function_call c.in-FunctionCall.s, ← c.span-in-FunctionCall.ensures, ← c.node-in-FunctionCall.ensures) c.put_function_call.ensures

pub expressions::put_expression-returns-in-UnaryOperation : goal.expressions::put_expression-returns-in-UnaryOperation
expressions::put_expression-returns-in-UnaryOperation t c =
    rw (c.in-UnaryOperation.is, view_unary c.in-UnaryOperation.s, ← c.span-in-UnaryOperation.ensures, ← c.node-in-UnaryOperation.ensures) c.put_unary.ensures

pub expressions::put_expression-returns-in-BinaryOperation : goal.expressions::put_expression-returns-in-BinaryOperation
expressions::put_expression-returns-in-BinaryOperation t c =
    rw (c.in-BinaryOperation.is, view_binary c.in-BinaryOperation.s, ← c.span-in-BinaryOperation.ensures, ← c.node-in-BinaryOperation.ensures) c.put_binary.ensures

pub nodes::put_node-returns-in-Content : goal.nodes::put_node-returns-in-Content
nodes::put_node-returns-in-Content t c =
    rw (c.in-Content.is, view_content, ← c.as_str.ensures.value) c.put_content.ensures

pub nodes::put_node-returns-in-Expression : goal.nodes::put_node-returns-in-Expression
nodes::put_node-returns-in-Expression t c = rw (c.in-Expression.is, view_shown) c.put_shown.ensures

pub nodes::put_node-returns-in-Set : goal.nodes::put_node-returns-in-Set
nodes::put_node-returns-in-Set t c = rw (c.in-Set.is, view_set) c.put_set.ensures

pub nodes::put_node-returns-in-BlockSet : goal.nodes::put_node-returns-in-BlockSet
nodes::put_node-returns-in-BlockSet t c = rw (c.in-BlockSet.is, view_block_set, block_set_out) c.put_block_set.ensures

pub nodes::put_node-returns-in-Include : goal.nodes::put_node-returns-in-Include
nodes::put_node-returns-in-Include t c = rw (c.in-Include.is, view_include) c.put_include.ensures

pub nodes::put_node-returns-in-Block : goal.nodes::put_node-returns-in-Block
nodes::put_node-returns-in-Block t c = rw (c.in-Block.is, view_block) c.put_block.ensures

pub nodes::put_node-returns-in-ForLoop : goal.nodes::put_node-returns-in-ForLoop
nodes::put_node-returns-in-ForLoop t c = rw (c.in-ForLoop.is, view_for, for_out) c.put_for.ensures

pub nodes::put_node-returns-in-If : goal.nodes::put_node-returns-in-If
nodes::put_node-returns-in-If t c = rw (c.in-If.is, view_if, if_out) c.put_if.ensures

pub nodes::put_node-returns-in-FilterSection : goal.nodes::put_node-returns-in-FilterSection
nodes::put_node-returns-in-FilterSection t c = rw (c.in-FilterSection.is, view_section, section_out) c.put_section.ensures

pub expressions::put_items-loop-item-preserved : goal.expressions::put_items-loop-item-preserved
expressions::put_items-loop-item-preserved t c =
    let l = c.loop-item in
    let x = c.item-item.result in (
      c.in_ok-put_item.ensures.before ∙ l.invariant.0,
      rw c.in_ok-put_item.ensures.tokens (row_more items_row _ _ _ _ l.item-index x l.invariant.1 (search rules) c.item-item.is (one_item x _)),
    )

pub expressions::put_entries-loop-entry-preserved : goal.expressions::put_entries-loop-entry-preserved
expressions::put_entries-loop-entry-preserved t c =
    let l = c.loop-entry in
    let x = c.entry-item.result in (
      c.in_ok-put_entry.ensures.before ∙ l.invariant.0,
      rw c.in_ok-put_entry.ensures.tokens (row_more entries_row _ _ _ _ l.entry-index x l.invariant.1 (search rules) c.entry-item.is (one_entry x _)),
    )

pub nodes::put_node-returns-in-Continue : goal.nodes::put_node-returns-in-Continue
nodes::put_node-returns-in-Continue t c = rw (c.in-Continue.is, view_continue) c.put_word-in-Continue.ensures

pub nodes::put_if-loop-next-init : goal.nodes::put_if-loop-next-init
nodes::put_if-loop-next-init t c = (refl, omega arith, refl)

pub nodes::put_if-loop-next-preserved : goal.nodes::put_if-loop-next-preserved
nodes::put_if-loop-next-preserved t c =
    let held = c.loop-next.invariant in
    let less : size-If c.in-Some.next.now ≤ size-If c.loop-next.last.now = search (rules, the_lemmas) in (
      c.in_ok-put_branch-2.ensures.before ∙ held.0,
      omega (arith, less, held.1),
      rw c.in_ok-put_branch-2.ensures.tokens (opened_more _ _ c.args.parts.now c.loop-next.last.now c.in-Some.next.now c.in-Some.ensures.some held.2),
    )

pub nodes::put_if-returns : goal.nodes::put_if-returns
nodes::put_if-returns t c =
    let held = c.loop-next.invariant in
    as_well _ (whole c.args.parts.now) (then_all _ c.in_ok-begin.ensures (then_token _ c.in_ok-key.ensures
    (then_token _ c.in_ok-begin_array.ensures (then_all _ c.in_ok-put_branch.ensures
    (from_later _ held.0 (closed _ _ c.args.parts.now c.loop-next.last.now c.in_default.ensures.none held.2)
    (then_token _ c.in_ok-end_array.ensures (then_all _ c.in_ok-put_body.ensures (token _ c.end_object.ensures))))))))

pub expressions::put_array-returns : goal.expressions::put_array-returns
expressions::put_array-returns t c =
    then_all _ c.in_ok-begin_at.ensures (then_token _ c.in_ok-key.ensures (then_all _ c.in_ok-put_items.ensures
    (token _ c.end_object.ensures)))

pub expressions::put_map-returns : goal.expressions::put_map-returns
expressions::put_map-returns t c =
    then_all _ c.in_ok-begin_at.ensures (then_token _ c.in_ok-key.ensures (then_all _
    c.in_ok-put_entries.ensures (token _ c.end_object.ensures)))

pub expressions::put_get_attr-returns : goal.expressions::put_get_attr-returns
expressions::put_get_attr-returns t c =
    rw (← c.as_str.ensures.value) (then_all _ c.in_ok-begin_at.ensures (then_all _ c.in_ok-put_part.ensures
    (then_all _ c.in_ok-put_text.ensures (then_all _ c.in_ok-put_flag.ensures (token _
    c.end_object.ensures)))))

pub expressions::put_get_item-returns : goal.expressions::put_get_item-returns
expressions::put_get_item-returns t c =
    then_all _ c.in_ok-begin_at.ensures (then_all _ c.in_ok-put_part.ensures (then_all _
    c.in_ok-put_part-2.ensures (then_all _ c.in_ok-put_flag.ensures (token _ c.end_object.ensures))))

pub expressions::put_slice-returns : goal.expressions::put_slice-returns
expressions::put_slice-returns t c =
    then_all _ c.in_ok-begin_at.ensures (then_all _ c.in_ok-put_part.ensures (then_all _
    c.in_ok-put_maybe.ensures (then_all _ c.in_ok-put_maybe-2.ensures (then_all _ c.in_ok-put_maybe-3.ensures
    (then_all _ c.in_ok-put_flag.ensures (token _ c.end_object.ensures))))))

pub expressions::put_filter-returns : goal.expressions::put_filter-returns
expressions::put_filter-returns t c =
    rw (← c.as_str.ensures.value) (then_all _ c.in_ok-begin_at.ensures (then_all _ c.in_ok-put_part.ensures
    (then_all _ c.in_ok-put_text.ensures (then_all _ c.in_ok-put_arguments.ensures (token _
    c.end_object.ensures)))))

pub expressions::put_test-returns : goal.expressions::put_test-returns
expressions::put_test-returns t c =
    rw (← c.as_str.ensures.value) (then_all _ c.in_ok-begin_at.ensures (then_all _ c.in_ok-put_part.ensures
    (then_all _ c.in_ok-put_text.ensures (then_all _ c.in_ok-put_arguments.ensures (token _
    c.end_object.ensures)))))

pub expressions::put_ternary-returns : goal.expressions::put_ternary-returns
expressions::put_ternary-returns t c =
    then_all _ c.in_ok-begin_at.ensures (then_all _ c.in_ok-put_part.ensures (then_all _
    c.in_ok-put_part-2.ensures (then_all _ c.in_ok-put_part-3.ensures (token _ c.end_object.ensures))))

pub expressions::put_comprehension-returns : goal.expressions::put_comprehension-returns
expressions::put_comprehension-returns t c =
    rw (← c.as_str.ensures.value) (then_all _ c.in_ok-begin_at.ensures (then_all _ c.in_ok-put_part.ensures
    (then_all _ c.in_ok-put_name.ensures (then_all _ c.in_ok-put_text.ensures (then_all _
    c.in_ok-put_part-2.ensures (then_all _ c.in_ok-put_maybe.ensures (token _ c.end_object.ensures)))))))

pub expressions::put_component_call-returns : goal.expressions::put_component_call-returns
expressions::put_component_call-returns t c =
    rw (← c.as_str.ensures.value) (then_all _ c.in_ok-begin_at.ensures (then_all _ c.in_ok-put_text.ensures
    (then_token _ c.in_ok-key.ensures (then_all _ c.in_ok-put_entries.ensures (then_token _
    c.in_ok-key-2.ensures (then_all _ c.in_ok-put_nodes.ensures (then_all _ c.in_ok-put_flag.ensures (token _
    c.end_object.ensures))))))))

pub expressions::put_function_call-returns : goal.expressions::put_function_call-returns
expressions::put_function_call-returns t c =
    rw (← c.as_str.ensures.value) (then_all _ c.in_ok-begin_at.ensures (then_all _ c.in_ok-put_text.ensures
    (then_all _ c.in_ok-put_arguments.ensures (token _ c.end_object.ensures))))

pub expressions::put_unary-returns : goal.expressions::put_unary-returns
expressions::put_unary-returns t c =
    rw (← c.unary_name.ensures) (then_all _ c.in_ok-begin_at.ensures (then_all _ c.in_ok-put_text.ensures
    (then_all _ c.in_ok-put_part.ensures (token _ c.end_object.ensures))))

pub expressions::put_binary-returns : goal.expressions::put_binary-returns
expressions::put_binary-returns t c =
    rw (← c.binary_name.ensures) (then_all _ c.in_ok-begin_at.ensures (then_all _ c.in_ok-put_text.ensures
    (then_all _ c.in_ok-put_part.ensures (then_all _ c.in_ok-put_part-2.ensures (token _
    c.end_object.ensures)))))

pub expressions::put_pair-returns : goal.expressions::put_pair-returns
expressions::put_pair-returns t c =
    then_all _ c.in_ok-begin.ensures (then_token _ c.in_ok-key.ensures (then_all _ c.in_ok-put_key.ensures
    (then_all _ c.in_ok-put_part.ensures (token _ c.end_object.ensures))))

pub nodes::put_set-returns : goal.nodes::put_set-returns
nodes::put_set-returns t c =
    rw (← c.as_str.ensures.value) (then_all _ c.in_ok-begin.ensures (then_all _ c.in_ok-put_text.ensures
    (then_all _ c.in_ok-put_part.ensures (then_all _ c.in_ok-put_flag.ensures (token _
    c.end_object.ensures)))))

pub nodes::put_block_set-returns : goal.nodes::put_block_set-returns
nodes::put_block_set-returns t c =
    rw (← c.as_str.ensures.value) (then_all _ c.in_ok-begin.ensures (then_all _ c.in_ok-put_text.ensures
    (then_all _ c.in_ok-put_filters.ensures (then_all _ c.in_ok-put_body.ensures (then_all _
    c.in_ok-put_flag.ensures (token _ c.end_object.ensures))))))

pub nodes::put_block-returns : goal.nodes::put_block-returns
nodes::put_block-returns t c =
    rw (← c.span.ensures, ← c.node.ensures, ← c.as_str.ensures.value) (then_all _ c.in_ok-begin_at.ensures
    (then_all _ c.in_ok-put_text.ensures (then_all _ c.in_ok-put_body.ensures (token _ c.end_object.ensures))))

pub nodes::put_for-returns : goal.nodes::put_for-returns
nodes::put_for-returns t c =
    rw (← c.as_str.ensures.value) (then_all _ c.in_ok-begin.ensures (then_all _ c.in_ok-put_name.ensures
    (then_all _ c.in_ok-put_text.ensures (then_all _ c.in_ok-put_part.ensures (then_all _
    c.in_ok-put_body.ensures (then_all _ c.in_ok-put_body-2.ensures (token _ c.end_object.ensures)))))))

pub nodes::put_branch-returns : goal.nodes::put_branch-returns
nodes::put_branch-returns t c =
    then_token _ c.in_ok-begin_object.ensures (then_all _ c.in_ok-put_part.ensures (then_all _ c.in_ok-put_body.ensures
    (token _ c.end_object.ensures)))

pub nodes::put_section-returns : goal.nodes::put_section-returns
nodes::put_section-returns t c =
    then_all _ c.in_ok-begin.ensures (then_all _ c.in_ok-put_filters.ensures (then_all _
    c.in_ok-put_body.ensures (token _ c.end_object.ensures)))
