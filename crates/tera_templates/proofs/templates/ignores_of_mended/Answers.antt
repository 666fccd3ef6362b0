use Rattle.std.proofs.Common.{◌≡◌, ◌∙◌, ap, filter, rules, string_bytes, subst}
use Rattle.std.proofs.lemmas.Fn.{filter_same}
use Rattle.tera_lexer.specs.grammar.Marks.{default_marks, marks_of}
use Rattle.tera_templates.specs.Ignores.{AreIgnoresOf, ignore_view, ignores_view, is_kept}
use Rattle.tera_templates.proofs.IgnoreLemmas.{kept_view}
use Rattle.tera_templates.proofs.templates.ignores_of_mended.Goals as goal

pub ignores_of-requires : goal.ignores_of-requires
ignores_of-requires c = c.default.ensures.1

pub returns : goal.returns
returns c =
    let source = c.args.source.now in
    let text = string_bytes c.args.mended.now.text in
    let all = c.in_ok-ignores.ignores.items in
    let same : c.as_str-text.result.now ≡ text = c.as_str-text.ensures.value in
    let are : AreIgnoresOf default_marks text (ignores_view all) = subst (λ m. AreIgnoresOf m text (ignores_view all)) c.default.ensures.0 (subst (λ t. AreIgnoresOf (marks_of c.default.result) t (ignores_view all)) same c.in_ok-ignores.ensures) in (
      ignores_view all,
      are,
      ap ignores_view (filter_same _ _ _ (λ x b f' k. search rules) _ _ c.retain.ensures.filtered)
          ∙ kept_view (λ i. is_kept source c.as_str-text.result.now (ignore_view i)) (is_kept source c.as_str-text.result.now) (λ i. search rules) all
          ∙ λ k. filter (is_kept source (same k)) (ignores_view all),
    )
