use Rattle.std.proofs.Common.{◌≡◌, drop, map, string_bytes}
use Rattle.tera_editor.specs.Templates.{name_in_first}
use Rattle.tera_editor.proofs.templates.name_in_first.Given as goal

abbrev pub invariant-loop-folder : goal.invariant-loop-folder
invariant-loop-folder l =
    name_in_first (map string_bytes l.folders) l.file ≡ name_in_first (map string_bytes (drop l.folder-index l.folders)) l.file
