use Rattle.std.proofs.Common.{◌∙◌, ap, map}
use Rattle.std.proofs.lemmas.List.{map_push}
use Rattle.std.specs.Option.{option_and_then}
use Rattle.text_edits.specs.Edits.{change_view}
use Rattle.protocol_values.specs.Reading.{each_change}
use Rattle.protocol_values.proofs.ChangeLemmas.{changes_more, changes_none, changes_end}
use Rattle.protocol_values.proofs.reading.changes_of.Goals as goal

pub loop-item-preserved : goal.loop-item-preserved
loop-item-preserved c =
    changes_more (map change_view c.loop-item.changes.items) (map change_view c.push.new.self.items) (change_view c.in-Some-change_of.change) c.in-Some.items.now c.loop-item.item-index c.item-item.result
    c.loop-item-test.true c.item-item.is c.in-Some-change_of.ensures
    (ap (map change_view) c.in_ok-push-in-Some-change_of.ensures.items ∙ map_push change_view c.loop-item.changes.items c.in-Some-change_of.change)
    c.loop-item.invariant

pub returns-in-None : goal.returns-in-None
returns-in-None c =
    changes_none (map change_view c.loop-item.changes.items) c.in-Some.items.now c.loop-item.item-index c.item-item.result
    c.loop-item-test.true c.item-item.is c.in-None.ensures c.loop-item.invariant
    ∙ ap (option_and_then each_change) c.in-Some.ensures

pub returns : goal.returns
returns c =
    changes_end (map change_view c.loop-item.changes.items) c.in-Some.items.now c.loop-item.item-index c.loop-item-test.false c.loop-item.invariant
    ∙ ap (option_and_then each_change) c.in-Some.ensures
