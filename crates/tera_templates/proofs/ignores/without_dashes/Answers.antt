use Rattle.std.proofs.Common.{◌≡◌, ◌∙◌, ap, codes, unwrap_or}
use Rattle.tera_templates.specs.Ignores.{following, preceding}
use Rattle.tera_templates.proofs.IgnoreLemmas.{stripped, stripped_end, unwrapped}
use Rattle.tera_templates.proofs.ignores.without_dashes.Goals as goal

pub returns : goal.returns
returns c =
    let inside = c.args.inside.now in
    let begun = c.unwrap_or-begun.result in
    let first : begun.now ≡ unwrap_or (following (codes "-") inside) inside =
    ap (λ t. t.now) c.unwrap_or-begun.ensures ∙ unwrapped c.strip_prefix.result c.args.inside
    ∙ ap (λ o. unwrap_or o inside) (stripped (codes "-") inside c.strip_prefix.result c.strip_prefix.ensures.cases)
    in
    ap (λ t. t.now) c.unwrap_or.ensures ∙ unwrapped c.strip_suffix.result begun
    ∙ ap (λ o. unwrap_or o begun.now) (stripped_end (codes "-") begun.now c.strip_suffix.result c.strip_suffix.ensures.cases)
    ∙ ap (λ b. unwrap_or (preceding (codes "-") b) b) first
