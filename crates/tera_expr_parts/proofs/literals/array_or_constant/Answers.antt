use Rattle.std.proofs.Common.{rules, ◌∙◌, map, ap, sym}
use Rattle.std.specs.List.{list_all}
use Rattle.tera_base.specs.ValueView.{value_view}
use Rattle.tera_base.proofs.ValueViews.{view_array}
use Rattle.tera_ast.specs.Tree as tree
use Rattle.tera_ast.specs.View.{item_view}
use Rattle.tera_expr_parts.specs.Folding.{is_constant_item}
use Rattle.tera_expr_parts.proofs.Constants.{array_folds, array_stays}
use Rattle.tera_expr_parts.proofs.literals.array_or_constant.Goals as goal

pub returns-in_ok-constants : goal.returns-in_ok-constants
returns-in_ok-constants c =
    let all = ap (list_all (λ i. is_constant_item (item_view i))) (sym c.deref.ensures.value) ∙ sym c.are_constants.ensures ∙ c.if-are_constants.true in
    let made = ap (λ x. tree.Const x c.args.span) (view_array c.in_ok-constants.field-0) in
    let folds = array_folds c.args.items.items (map value_view c.in_ok-constants.field-0.items) c.args.span all c.in_ok-constants.ensures in
    let whole = made ∙ folds in
    search (rules, whole)

pub returns-else-are_constants : goal.returns-else-are_constants
returns-else-are_constants c =
    let other = ap (list_all (λ i. is_constant_item (item_view i))) (sym c.deref.ensures.value) ∙ sym c.are_constants.ensures ∙ c.if-are_constants.false in
    let stays = array_stays c.args.items.items c.args.span other in
    search (rules, stays)
