use Rattle.std.proofs.Common.{◌≡◌, map, string_bytes, take}
use Rattle.settings_files.specs.Paths.{all_led_from}
use Rattle.settings_files.proofs.places.paths_there.Given as goal

-- where the paths so far lead
abbrev pub invariant-loop-path : goal.invariant-loop-path
invariant-loop-path g l =
    map string_bytes l.there.items
    ≡ all_led_from (string_bytes l.file.source.file) (map string_bytes (take l.path-index l.path-items))
