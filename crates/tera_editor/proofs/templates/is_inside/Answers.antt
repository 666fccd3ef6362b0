use Rattle.std.proofs.Common.{◌≡◌, ◌∙◌, None, Some, false, option_map, rules, sym, ap}
use Rattle.std.specs.Option.{option_map_or}
use Rattle.file_uris.specs.Names.{is_rooted}
use Rattle.tera_workspace.specs.Sites.{following}
use Rattle.tera_workspace.proofs.PathLemmas.{stripped}
use Rattle.tera_editor.proofs.templates.is_inside.Goals as goal

pub returns-in-Some : goal.returns-in-Some
returns-in-Some c =
    let folder = c.args.folder.now in
    let file = c.args.file.now in
    let rest = c.in-Some.rest.now in
    let below : following folder file ≡ Some rest =
    sym (stripped folder file c.strip_prefix.result c.strip_prefix.ensures.cases) ∙ ap (option_map (λ n. n.now)) c.in-Some.is in
    let rooted : c.starts_with.result ≡ is_rooted rest = search rules in
    rooted ∙ ap (λ o. option_map_or is_rooted o false) (sym below)

pub returns-in-None : goal.returns-in-None
returns-in-None c =
    let folder = c.args.folder.now in
    let file = c.args.file.now in
    let below : following folder file ≡ None =
    sym (stripped folder file c.strip_prefix.result c.strip_prefix.ensures.cases) ∙ ap (option_map (λ n. n.now)) c.in-None.is in
    ap (λ o. option_map_or is_rooted o false) (sym below)
