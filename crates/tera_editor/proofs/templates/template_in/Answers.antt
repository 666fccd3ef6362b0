use Rattle.std.proofs.Common.{◌≡◌, ◌∙◌, ◌∷◌, List, ℕ, None, Option, filter, nat_eq, option_map, rules, sym, ap}
use Rattle.std.specs.List.{ends_with}
use Rattle.std.specs.Option.{option_or}
use Rattle.tera_tree.specs.Calls.{texts}
use Rattle.tera_editor.specs.Templates.{is_below, is_named, nearest, roots_view}
use Rattle.tera_editor.proofs.templates.template_in.Goals as goal

pub returns : goal.returns
returns c =
    let files = texts c.args.files.now in
    let name = c.args.name.now in
    let ending : c.as_str.result.now ≡ 47 ∷ name = search rules in
    c.nearest_below.ensures
    ∙ ap (λ (e : List ℕ). nearest (filter (λ f. ends_with nat_eq f e) files)) ending
    ∙ ap (λ (o : Option (List ℕ)). option_or o (nearest (filter (is_below name) files))) (ap (option_map (λ f. f.now)) (sym c.in_default.is) ∙ c.nearest_named.ensures)
