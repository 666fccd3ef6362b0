use Rattle.std.proofs.Common.{◌≡◌, drop, filter, nat_eq, option_map}
use Rattle.std.specs.List.{ends_with}
use Rattle.tera_tree.specs.Calls.{texts}
use Rattle.tera_editor.specs.Templates.{nearer, nearest}
use Rattle.tera_editor.proofs.templates.nearest_below.Given as goal

abbrev pub invariant-loop-file : goal.invariant-loop-file
invariant-loop-file l =
    nearer (option_map (λ f. f.now) l.best) (nearest (filter (λ f. ends_with nat_eq f l.ending) (texts (drop l.file-index l.files))))
    ≡ nearest (filter (λ f. ends_with nat_eq f l.ending) (texts l.files))
