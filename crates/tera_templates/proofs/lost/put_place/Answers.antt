use Rattle.std.proofs.Common.{◌≡◌, ◌∙◌, ap, sym, None, Some, bytes_eq, string_bytes}
use Rattle.std.specs.BTreeMap.{get_by_text}
use Rattle.std.specs.BTreeSet.{keys}
use Rattle.std.specs.Map.{update}
use Rattle.std.proofs.lemmas.Map.Text.{btree_map_updates_text}
use Rattle.tera_templates.specs.Lost.{places_under}
use Rattle.tera_templates.proofs.PlaceLemmas.{no_known, put, some_known}
use Rattle.tera_templates.proofs.lost.put_place.Goals as goal
use Rattle.tera_templates.proofs.lost.put_place.Goals.{in-Some, in-None}

pub returns : goal.returns
returns c = λ n at.
    let old = c.args.places.now in
    let word = c.args.word.now in
    let key = string_bytes c.in_ok-from_str.field-0 in
    let known : keys c.match-remove.known ≡ places_under old word
    = elim c.match-remove.branch [
      | in-Some w ↦ some_known old word c.match-remove.known w.in-Some.known w.known-is w.in-Some.ensures.value
      | in-None w ↦ no_known old word c.match-remove.known w.new-known.result w.known-is w.new-known.ensures.empty w.in-None.ensures.value
    ] in
    put old c.remove.new.self c.insert-2.new.self word n c.args.place at c.match-remove.known c.insert.new.self known c.in_ok-insert.ensures.keys
    (btree_map_updates_text word old c.remove.new.self None c.remove.ensures.updates)
    (λ m. btree_map_updates_text key c.remove.new.self c.insert-2.new.self (Some c.insert.new.self) c.in_ok-insert-2.ensures.updates m
    ∙ ap (λ bs. update bytes_eq (get_by_text c.remove.new.self) bs (Some c.insert.new.self) m) c.in_ok-from_str.ensures.ok)
