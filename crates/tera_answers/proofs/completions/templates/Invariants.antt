use Rattle.std.proofs.Common.{◌≡◌, ◌++◌, drop}
use Rattle.std.specs.List.{filter_map}
use Rattle.tera_tree.specs.Calls.{texts}
use Rattle.tera_editor.specs.Templates.{roots_view, template_name}
use Rattle.tera_answers.proofs.completions.templates.Given as goal

abbrev pub invariant-loop-file : goal.invariant-loop-file
invariant-loop-file l =
    filter_map (template_name (roots_view l.roots)) (texts l.file-items)
    ≡ texts l.names.items ++ filter_map (template_name (roots_view l.roots)) (texts (drop l.file-index l.file-items))
