use Rattle.std.proofs.Common.{◌∙◌, ap, sym}
use Rattle.std.specs.List.{list_all}
use Rattle.tera_base.proofs.ValueViews.{view_map}
use Rattle.tera_ast.specs.Tree as tree
use Rattle.tera_ast.specs.View.{entry_view}
use Rattle.tera_expr_parts.specs.Folding.{is_constant_entry}
use Rattle.tera_expr_parts.proofs.ConstantMaps.{map_folds, map_stays}
use Rattle.tera_expr_parts.proofs.literals.map_or_constant.Goals as goal

pub returns-in_ok-constant-clause-gives : goal.returns-in_ok-constant-clause-gives
returns-in_ok-constant-clause-gives c =
    let all = ap (list_all (λ e. is_constant_entry (entry_view e))) (sym c.deref.ensures.value) ∙ sym c.are_constant_entries.ensures ∙ c.if-are_constant_entries.true in
    c.in_ok-constant.ensures ∙ ap (λ x. tree.Const x c.args.span) (view_map c.in_ok-constant_pairs.field-0)
    ∙ map_folds c.args.entries.items c.in_ok-constant_pairs.field-0 c.args.span all c.in_ok-constant_pairs.ensures.pairs

pub returns-in_ok-map-clause-gives : goal.returns-in_ok-map-clause-gives
returns-in_ok-map-clause-gives c =
    let other = ap (list_all (λ e. is_constant_entry (entry_view e))) (sym c.deref.ensures.value) ∙ sym c.are_constant_entries.ensures ∙ c.if-are_constant_entries.false in
    c.in_ok-map.ensures ∙ map_stays c.args.entries.items c.args.span other
