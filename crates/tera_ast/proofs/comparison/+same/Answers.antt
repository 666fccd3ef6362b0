use Rattle.tera_ast.proofs.Equals.{alike_entry, alike_entries, alike_item, alike_items, entries_first, items_first, differs, goes_on}
use Rattle.tera_ast.proofs.comparison.+same.Goals as goal

pub same_entries-returns-then-not-same_entry : goal.same_entries-returns-then-not-same_entry
same_entries-returns-then-not-same_entry t c =
    differs alike_entries alike_entry entries_first _ _ c.deref-x-items.result.now _ _ c.loop-x.x-index c.x-item.result c.in-Some.y.now c.loop-x.invariant c.loop-x-test.true c.x-item.is c.in-Some.ensures.steps c.same_entry.ensures c.if-not-same_entry.true

pub same_entries-loop-x-preserved : goal.same_entries-loop-x-preserved
same_entries-loop-x-preserved t c =
    goes_on alike_entries alike_entry entries_first _ _ c.deref-x-items.result.now _ _ c.loop-x.x-index c.x-item.result c.in-Some.y.now c.loop-x.invariant c.loop-x-test.true c.x-item.is c.in-Some.ensures.steps c.same_entry.ensures c.if-not-same_entry.false

pub same_items-returns-then-not-same_item : goal.same_items-returns-then-not-same_item
same_items-returns-then-not-same_item t c =
    differs alike_items alike_item items_first _ _ c.deref-x-items.result.now _ _ c.loop-x.x-index c.x-item.result c.in-Some.y.now c.loop-x.invariant c.loop-x-test.true c.x-item.is c.in-Some.ensures.steps c.same_item.ensures c.if-not-same_item.true

pub same_items-loop-x-preserved : goal.same_items-loop-x-preserved
same_items-loop-x-preserved t c =
    goes_on alike_items alike_item items_first _ _ c.deref-x-items.result.now _ _ c.loop-x.x-index c.x-item.result c.in-Some.y.now c.loop-x.invariant c.loop-x-test.true c.x-item.is c.in-Some.ensures.steps c.same_item.ensures c.if-not-same_item.false
