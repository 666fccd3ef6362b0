use Rattle.std.proofs.Common.{◌≡◌, drop, map, string_bytes}
use Rattle.tera_editor.specs.Settings.{folder_of}
use Rattle.tera_editor.proofs.settings.folder_of.Given as goal

abbrev pub invariant-loop-folder : goal.invariant-loop-folder
invariant-loop-folder l =
    folder_of (map string_bytes l.folders) l.path ≡ folder_of (map string_bytes (drop l.folder-index l.folders)) l.path
