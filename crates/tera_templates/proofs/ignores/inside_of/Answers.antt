use Rattle.std.proofs.Common.{◌∙◌, ap, sym, Some, option_map}
use Rattle.std.specs.Option.{option_and_then}
use Rattle.tera_templates.specs.Ignores.{preceding, without_dashes}
use Rattle.tera_templates.proofs.IgnoreLemmas.{stripped, stripped_end}
use Rattle.tera_templates.proofs.ignores.inside_of.Goals as goal

pub returns-in_err-following : goal.returns-in_err-following
returns-in_err-following c =
    let front = stripped c.args.marks.start.now c.args.comment.now c.strip_prefix.result c.strip_prefix.ensures.cases in
    ap (option_map (λ r. r.now)) c.from_residual.ensures
    ∙ sym (ap (λ o. option_map without_dashes (option_and_then (preceding c.args.marks.end.now) o)) (sym front ∙ ap (option_map (λ r. r.now)) c.in_err-following.was))

pub returns-in_err-inside : goal.returns-in_err-inside
returns-in_err-inside c =
    let front = stripped c.args.marks.start.now c.args.comment.now c.strip_prefix.result c.strip_prefix.ensures.cases in
    let back = stripped_end c.args.marks.end.now c.in_ok-following.following.now c.strip_suffix.result c.strip_suffix.ensures.cases in
    ap (option_map (λ r. r.now)) c.from_residual-in_err-inside.ensures
    ∙ sym (
    ap (λ o. option_map without_dashes (option_and_then (preceding c.args.marks.end.now) o)) (sym front ∙ ap (option_map (λ r. r.now)) c.in_ok-following.was)
    ∙ ap (option_map without_dashes) (sym back ∙ ap (option_map (λ r. r.now)) c.in_err-inside.was)
    )

pub returns : goal.returns
returns c =
    let front = stripped c.args.marks.start.now c.args.comment.now c.strip_prefix.result c.strip_prefix.ensures.cases in
    let back = stripped_end c.args.marks.end.now c.in_ok-following.following.now c.strip_suffix.result c.strip_suffix.ensures.cases in
    ap Some c.without_dashes.ensures
    ∙ sym (
    ap (λ o. option_map without_dashes (option_and_then (preceding c.args.marks.end.now) o)) (sym front ∙ ap (option_map (λ r. r.now)) c.in_ok-following.was)
    ∙ ap (option_map without_dashes) (sym back ∙ ap (option_map (λ r. r.now)) c.in_ok-inside.was)
    )
