use Rattle.std.proofs.Common.{◌≡◌, drop, filter, option_map}
use Rattle.tera_tree.specs.Calls.{texts}
use Rattle.tera_editor.specs.Templates.{is_named, nearer, nearest, roots_view}
use Rattle.tera_editor.proofs.templates.nearest_named.Given as goal

abbrev pub invariant-loop-file : goal.invariant-loop-file
invariant-loop-file l =
    nearer (option_map (λ f. f.now) l.best) (nearest (filter (is_named (roots_view l.roots) l.name) (texts (drop l.file-index l.files))))
    ≡ nearest (filter (is_named (roots_view l.roots) l.name) (texts l.files))
