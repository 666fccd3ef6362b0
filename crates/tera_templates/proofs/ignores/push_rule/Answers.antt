use Rattle.std.proofs.Common.{◌≡◌, ◌∙◌, ◌∷◌, [], ◌++◌, ap, refl, string_bytes}
use Rattle.std.proofs.lemmas.List.{map-append}
use Rattle.std.proofs.lemmas.Str.Ascii.{trim_ascii_is}
use Rattle.tera_templates.specs.Ignores.{ignore_view, ignores_view, skipped, trimmed}
use Rattle.tera_templates.proofs.ignores.push_rule.Goals as goal

pub returns : goal.returns
returns c =
    let rule = c.args.rule.now in
    let old = ignores_view c.args.ignores.now.items in
    let name : string_bytes c.in_ok-from_str.field-0 ≡ trimmed rule =
    c.in_ok-from_str.ensures.ok ∙ trim_ascii_is rule c.trim_ascii.result.now (skipped rule) refl c.trim_ascii.ensures.value in
    ap ignores_view c.in_ok-push.ensures.items
    ∙ map-append ignore_view c.args.ignores.now.items _
    ∙ λ i. old ++ (record { rule = name i; span = c.copied.ensures i; alone = c.args.alone } ∷ [])
