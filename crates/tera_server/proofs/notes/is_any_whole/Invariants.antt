use Rattle.std.proofs.Common.{◌≡◌, drop, map}
use Rattle.std.specs.List.{list_any}
use Rattle.text_edits.specs.Edits.{change_view}
use Rattle.tera_server.specs.States.{is_whole}
use Rattle.tera_server.proofs.notes.is_any_whole.Given as goal

abbrev pub invariant-loop-change : goal.invariant-loop-change
invariant-loop-change l = list_any is_whole (map change_view l.changes) ≡ list_any is_whole (map change_view (drop l.change-index l.changes))
