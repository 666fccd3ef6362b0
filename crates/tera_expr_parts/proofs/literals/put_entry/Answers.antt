use Rattle.std.proofs.Common.{◌≡◌, ◌∙◌, Some, ap, sym}
use Rattle.std.specs.Option.{option_map}
use Rattle.tera_base.specs.ValueView.{pairs_view, value_view}
use Rattle.tera_ast.specs.View.{entry_view, expression_view}
use Rattle.tera_expr_parts.specs.Folding.{constant_of, put_entry}
use Rattle.tera_expr_parts.proofs.ConstantMaps.{put_view, pair_put}
use Rattle.tera_expr_parts.proofs.literals.put_entry.Goals as goal

pub returns-clause-puts : goal.returns-clause-puts
returns-clause-puts c =
    let e = expression_view c.in-KeyValue.value in
    let v = value_view c.in-Some.value in
    let is : Some v ≡ constant_of e = sym (ap (option_map value_view) c.in-Some.is) ∙ c.constant.ensures in
    ap pairs_view c.in_ok-_before.ensures.pairs ∙ put_view c.in-KeyValue.key c.in-Some.value c.args.pairs.now
    ∙ pair_put c.in-KeyValue.key e v (pairs_view c.args.pairs.now) is
    ∙ ap (λ x. put_entry (pairs_view c.args.pairs.now) (entry_view x)) (sym c.in-KeyValue.is)
