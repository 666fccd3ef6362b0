use Rattle.std.proofs.Common.{◌∙◌, map, option_map, string_bytes, sym, ap}
use Rattle.tera_editor.specs.Templates.{name_by}
use Rattle.tera_editor.proofs.templates.template_name.Goals as goal

pub returns-in-Some : goal.returns-in-Some
returns-in-Some c =
    c.name_below.ensures ∙ ap (λ root. name_by (option_map (λ n. n.now) root) (map string_bytes c.args.roots.folders.now) c.args.file.now) (sym c.in-Some.is)

pub returns-in-None : goal.returns-in-None
returns-in-None c =
    c.name_in_first.ensures ∙ ap (λ root. name_by (option_map (λ n. n.now) root) (map string_bytes c.args.roots.folders.now) c.args.file.now) (sym c.in-None.is)
