use Rattle.std.proofs.Common.{[], None, Some, map, sym, ap, ◌∙◌}
use Rattle.std.proofs.lemmas.Result.{err_from_is_err_and}
use Rattle.tera_base.specs.ValueView.{pairs_view, value_view}
use Rattle.tera_grammar.specs.statements.Components.{put_pairs}
use Rattle.tera_grammar.specs.statements.Expressions.{map_output}
use Rattle.tera_tree.specs.Definitions.{named_value}
use Rattle.tera_expr_parts.specs.Allowed.{limits_of}
use Rattle.tera_tags.proofs.ComponentsLemmas.{metadata_given, metadata_refused, no_metadata_there}
use Rattle.tera_tags.proofs.PairsLemmas.{same_pairs}
use Rattle.tera_expect.proofs.Steps.{failed_as}
use Rattle.tera_tags.proofs.components.metadata.Goals as goal

pub returns-then-not-begins-clause-gives : goal.returns-then-not-begins-clause-gives
returns-then-not-begins-clause-gives c =
    (None, no_metadata_there (limits_of c.args.setting.now.limits) c.args.cursor.now.left (sym c.begins.ensures ∙ c.if-not-begins.true), ap (map named_value) c.new.ensures.empty)

pub returns-in_err-value-clause-gives : goal.returns-in_err-value-clause-gives
returns-in_err-value-clause-gives c =
    let there = sym c.begins.ensures ∙ c.if-not-begins.false in
    let p = err_from_is_err_and c.from_residual.result c.from_residual.ensures.1 in
    rw (p.1, p.2) (failed_as _ _ _ _ (λ z h. metadata_refused (limits_of c.args.setting.now.limits) c.args.cursor.now.left there z h) c.in_err-value.ensures.gives)

pub returns-in-Some-clause-gives : goal.returns-in-Some-clause-gives
returns-in-Some-clause-gives c =
    let l = limits_of c.args.setting.now.limits in
    let there = sym c.begins.ensures ∙ c.if-not-begins.false in
    let (m, read, is) = c.in_ok-value.ensures.gives in
    let same = same_pairs (value_view c.in_ok-value.value) (pairs_view c.in-Some.pairs.now) (map_output m) c.in-Some.ensures.pairs is in
    (Some m, metadata_given l c.args.cursor.now.left c.literal_map.new.cursor.left m there read, c.in_ok-by_text-in-Some.ensures ∙ ap (λ ps. put_pairs ps []) same)
