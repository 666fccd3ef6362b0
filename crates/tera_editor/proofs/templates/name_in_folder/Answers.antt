use Rattle.std.proofs.Common.{◌∙◌, codes, Some, None, option_map, sym, ap}
use Rattle.tera_workspace.proofs.PathLemmas.{stripped}
use Rattle.tera_editor.proofs.TemplateNames.{not_below, not_named, named_below, split_after}
use Rattle.tera_editor.proofs.templates.name_in_folder.Goals as goal

pub returns-in_err-path : goal.returns-in_err-path
returns-in_err-path c =
    let below = stripped c.args.folder.now c.args.file.now c.strip_prefix.result c.strip_prefix.ensures.cases in
    ap (option_map (λ n. n.now)) c.from_residual.ensures ∙ not_below c.args.folder.now c.args.file.now (sym below ∙ ap (option_map (λ n. n.now)) c.in_err-path.was)

pub returns-in_err-name : goal.returns-in_err-name
returns-in_err-name c =
    let path = c.in_ok-path.path.now in
    let below = stripped c.args.folder.now c.args.file.now c.strip_prefix.result c.strip_prefix.ensures.cases in
    let named = stripped (codes "/") path c.strip_prefix-2.result c.strip_prefix-2.ensures.cases in
    ap (option_map (λ n. n.now)) c.from_residual-in_err-name.ensures
    ∙ not_named c.args.folder.now c.args.file.now path (sym below ∙ ap (option_map (λ n. n.now)) c.in_ok-path.was) (sym named ∙ ap (option_map (λ n. n.now)) c.in_err-name.was)

pub returns-in-Some : goal.returns-in-Some
returns-in-Some c =
    let path = c.in_ok-path.path.now in
    let below = stripped c.args.folder.now c.args.file.now c.strip_prefix.result c.strip_prefix.ensures.cases in
    let named = stripped (codes "/") path c.strip_prefix-2.result c.strip_prefix-2.ensures.cases in
    named_below c.args.folder.now c.args.file.now path c.in_ok-name.name.now (Some c.in-Some.inner.now)
    (sym below ∙ ap (option_map (λ n. n.now)) c.in_ok-path.was) (sym named ∙ ap (option_map (λ n. n.now)) c.in_ok-name.was)
    (sym (ap (option_map (λ x. x.1.now)) c.in-Some.is) ∙ split_after (codes "/templates/") path c.split_once.result c.split_once.ensures.cases)

pub returns-in-None : goal.returns-in-None
returns-in-None c =
    let path = c.in_ok-path.path.now in
    let below = stripped c.args.folder.now c.args.file.now c.strip_prefix.result c.strip_prefix.ensures.cases in
    let named = stripped (codes "/") path c.strip_prefix-2.result c.strip_prefix-2.ensures.cases in
    named_below c.args.folder.now c.args.file.now path c.in_ok-name.name.now None
    (sym below ∙ ap (option_map (λ n. n.now)) c.in_ok-path.was) (sym named ∙ ap (option_map (λ n. n.now)) c.in_ok-name.was)
    (sym (ap (option_map (λ x. x.1.now)) c.in-None.is) ∙ split_after (codes "/templates/") path c.split_once.result c.split_once.ensures.cases)
