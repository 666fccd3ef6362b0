use Rattle.std.proofs.Common.{rules, true, [], ◌++◌, codes, string_bytes}
use Rattle.std.specs.Result.{IsOk}
use Rattle.std.proofs.Output.{has_written_append}
use Rattle.tera_base.specs.Text.{comma_text}
use Rattle.tera_ast.specs.View.{expression_view, item_view, items_view, entry_view, entries_view}
use Rattle.tera_ast.specs.Text.{text, item_text, items_text, entry_text, entries_text}
use Rattle.tera_base.proofs.Showing.{shown_more}
use Rattle.tera_ast.proofs.Texts.{Argument, one_item, one_entry, one_arg}
use Rattle.tera_ast.proofs.show.+show.Goals as goal

pub show_args-loop-name-init : goal.show_args-loop-name-init
show_args-loop-name-init g t c = ([], λ q. search (rules, q), rw (c.into_iter-name-iterator.ensures.into_iter_gives, c.iter-name-items.ensures.rest))

pub show_items-loop-item-init : goal.show_items-loop-item-init
show_items-loop-item-init g t c = ([], λ q. search (rules, q), rw c.deref-item-items.ensures.value)

pub show_entries-loop-entry-init : goal.show_entries-loop-entry-init
show_entries-loop-entry-init g t c = ([], λ q. search (rules, q), rw c.deref-entry-items.ensures.value)

pub show_args-loop-name-preserved : goal.show_args-loop-name-preserved
show_args-loop-name-preserved g t c =
    let l = c.loop-name in
    let x : Argument = (c.in-Some.name.now, c.in-Some.e.now) in
    let ok : IsOk c.show_arg.result = rw c.in_ok-show_arg.was in (
      l.invariant.0 ++ (comma_text l.later ++ (string_bytes x.0 ++ (codes "=" ++ text (expression_view x.1)))),
      λ q. has_written_append _ _ _ _ _ _ (l.invariant.1 q) (rw (← c.as_str.ensures.value) (c.show_arg.ensures (l.invariant.1 q).plain ok)),
      one_arg _ _ l.later x _ c.next.new.self l.invariant.2 c.in-Some.ensures.steps,
    )

pub show_items-loop-item-preserved : goal.show_items-loop-item-preserved
show_items-loop-item-preserved g t c =
    let l = c.loop-item in
    let x = c.item-item.result in
    let ok : IsOk c.show_item.result = rw c.in_ok-show_item.was in (
      l.invariant.0 ++ (comma_text l.later ++ item_text (item_view x)),
      λ q. has_written_append _ _ _ _ _ _ (l.invariant.1 q) (c.show_item.ensures (l.invariant.1 q).plain ok),
      shown_more (λ ys. items_text l.later (items_view ys)) (λ ys. items_text true (items_view ys)) _ _ (comma_text l.later) (item_text (item_view x)) _ l.item-index x
          l.invariant.2 (search rules) c.item-item.is (one_item l.later x _),
    )

pub show_entries-loop-entry-preserved : goal.show_entries-loop-entry-preserved
show_entries-loop-entry-preserved g t c =
    let l = c.loop-entry in
    let x = c.entry-item.result in
    let ok : IsOk c.show_entry.result = rw c.in_ok-show_entry.was in (
      l.invariant.0 ++ (comma_text l.later ++ entry_text (entry_view x)),
      λ q. has_written_append _ _ _ _ _ _ (l.invariant.1 q) (c.show_entry.ensures (l.invariant.1 q).plain ok),
      shown_more (λ ys. entries_text l.later (entries_view ys)) (λ ys. entries_text true (entries_view ys)) _ _ (comma_text l.later) (entry_text (entry_view x)) _ l.entry-index x
          l.invariant.2 (search rules) c.entry-item.is (one_entry l.later x _),
    )
