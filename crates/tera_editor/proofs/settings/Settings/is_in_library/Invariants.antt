use Rattle.std.proofs.Common.{◌≡◌}
use Rattle.std.specs.List.{list_any}
use Rattle.tera_editor.specs.Settings.{has_library}
use Rattle.tera_editor.proofs.settings.Settings.is_in_library.Given as goal

abbrev pub invariant-loop-folder : goal.invariant-loop-folder
invariant-loop-folder l =
    list_any (has_library l.file) l.self.of_folders.entries ≡ list_any (has_library l.file) l._folder-iterator
