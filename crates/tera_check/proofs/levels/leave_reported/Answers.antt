use Rattle.std.proofs.Common.{rules, ◌≡◌, ◌∙◌, map, ◌<◌, length, ap, set, sym, slice_index_or}
use Rattle.std.proofs.lemmas.List.{get_or-map, map-set, length-map}
use Rattle.std.proofs.lemmas.List.Edits.{map_over_more}
use Rattle.tera_check.specs.Levels.{in_file, level_of, reported_in}
use Rattle.tera_check.proofs.levels.leave_reported.Goals as goal

pub loop-found-preserved : goal.loop-found-preserved
loop-found-preserved c =
    let old = slice_index_or c.loop-found.found-items c.loop-found.found-index c.found-item.result in
    let here : c.loop-found.found-index < length c.loop-found.found-items = search rules in
    let first : c.loop-found.found-index < length c.deref_mut-found-items.result.now = search rules in
    let below : c.loop-found.found-index < length (map in_file c.deref_mut-found-items.result.now) = rw length-map first in
    map-set in_file _ _ _
    ∙ ap (λ findings. set (map in_file c.loop-found.found-items) c.loop-found.found-index (old.file.now, findings)) c.keep_reported.ensures
    ∙ map_over_more (reported_in (level_of c.args.levels)) _ _ c.loop-found.found-index (in_file old) below c.loop-found.invariant
    (sym (get_or-map in_file c.loop-found.found-items c.loop-found.found-index c.found-item.result (in_file old) here))
