use Rattle.std.proofs.Common.{◌≡◌, ℕ, List, map, take, string_bytes}
use Rattle.std.specs.BTreeMap.{get_by_text}
use Rattle.std.specs.Option.{option_map}
use Rattle.tera_workspace.specs.Names.{is_among}
use Rattle.tera_editor.specs.Sites.{asked_if}
use Rattle.tera_editor.proofs.sites.ask_each.Given as goal

abbrev pub invariant-loop-name : goal.invariant-loop-name
invariant-loop-name l =
    (n : List ℕ) → get_by_text l.presences n ≡ option_map (asked_if (is_among n (map string_bytes (take l.name-index l.names)))) (get_by_text l.fn.presences n)
