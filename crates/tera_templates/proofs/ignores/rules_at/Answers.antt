use Rattle.std.proofs.Common.{◌≡◌, ◌∙◌, ap, sym, option_map}
use Rattle.std.specs.Option.{option_and_then}
use Rattle.std.proofs.lemmas.Str.Ascii.{trim_ascii_start_is}
use Rattle.tera_templates.specs.Ignores.{following, ignore_word, rules_text, skipped}
use Rattle.tera_templates.proofs.IgnoreLemmas.{stripped}
use Rattle.tera_templates.proofs.ignores.rules_at.Goals as goal

pub returns-in_err-comment : goal.returns-in_err-comment
returns-in_err-comment c =
    ap (option_map (λ r. r.now)) c.from_residual.ensures
    ∙ sym (ap (option_and_then (rules_text c.args.marks.start.now c.args.marks.end.now)) (sym c.text_at.ensures ∙ ap (option_map (λ r. r.now)) c.in_err-comment.was))

pub returns-in_err-inside : goal.returns-in_err-inside
returns-in_err-inside c =
    ap (option_map (λ r. r.now)) c.from_residual-in_err-inside.ensures
    ∙ sym (
    ap (option_and_then (rules_text c.args.marks.start.now c.args.marks.end.now)) (sym c.text_at.ensures ∙ ap (option_map (λ r. r.now)) c.in_ok-comment.was)
    ∙ ap (option_and_then (λ inside. following ignore_word (skipped inside))) (sym c.inside_of.ensures ∙ ap (option_map (λ r. r.now)) c.in_err-inside.was)
    )

pub returns : goal.returns
returns c =
    let inside = c.in_ok-inside.inside.now in
    let start : c.trim_ascii_start.result.now ≡ skipped inside = trim_ascii_start_is inside c.trim_ascii_start.result.now c.trim_ascii_start.ensures.value in
    stripped ignore_word c.trim_ascii_start.result.now c.strip_prefix.result c.strip_prefix.ensures.cases
    ∙ ap (following ignore_word) start
    ∙ sym (
    ap (option_and_then (rules_text c.args.marks.start.now c.args.marks.end.now)) (sym c.text_at.ensures ∙ ap (option_map (λ r. r.now)) c.in_ok-comment.was)
    ∙ ap (option_and_then (λ inside. following ignore_word (skipped inside))) (sym c.inside_of.ensures ∙ ap (option_map (λ r. r.now)) c.in_ok-inside.was)
    )
