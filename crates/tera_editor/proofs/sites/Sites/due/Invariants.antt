use Rattle.std.proofs.Common.{◌≡◌, flat_map, map, take}
use Rattle.tera_editor.specs.Sites.{due_in, used_view}
use Rattle.tera_editor.proofs.sites.Sites.due.Given as goal

abbrev pub invariant-loop-one : goal.invariant-loop-one
invariant-loop-one l = map used_view l.due.items ≡ flat_map due_in (take l.one-index l.one-items)
