use Rattle.std.proofs.Common.{Some, None, inr, refl, sym, ap, ◌∙◌, inl}
use Rattle.std.specs.Str.{bytes_eq}
use Rattle.tera_grammar.specs.statements.Reading.Components.{end_name_in}
use Rattle.std.proofs.lemmas.Result.{err_from_is_err_and}
use Rattle.tera_tags.proofs.ComponentsLemmas.{end_agrees, end_differs}
use Rattle.tera_expect.proofs.Steps.{failed}
use Rattle.tera_tags.proofs.components.end_name.Goals as goal

pub returns-then-not-begins_name-clause-gives : goal.returns-then-not-begins_name-clause-gives
unfolding end_name_in
returns-then-not-begins_name-clause-gives c =
    let none = sym c.begins_name.ensures ∙ c.if-not-begins_name.true in
    (None, rw none refl)

pub returns-in_err-end-clause-gives : goal.returns-in_err-end-clause-gives
unfolding end_name_in
returns-in_err-end-clause-gives c =
    let some = sym c.begins_name.ensures ∙ c.if-not-begins_name.false in
    let p = err_from_is_err_and c.from_residual.result c.from_residual.ensures.1 in
    rw (p.1, p.2, some) (failed _ _ _ _ (failed _ _ _ _ c.in_err-end.ensures.gives))

pub returns-then-eq-clause-gives : goal.returns-then-eq-clause-gives
returns-then-eq-clause-gives c =
    let there = sym c.begins_name.ensures ∙ c.if-not-begins_name.false in
    let (m, read, is) = c.in_ok-end.ensures.gives in
    let name = c.args.name.now in
    let same = ap (λ t. bytes_eq t name) (sym is ∙ sym c.as_str.ensures.value) ∙ sym c.eq.ensures ∙ c.if-eq.true in
    (Some m, end_agrees name c.args.cursor.now.left c.component_name.new.cursor.left m there read same)

pub returns-clause-gives : goal.returns-clause-gives
returns-clause-gives c =
    let there = sym c.begins_name.ensures ∙ c.if-not-begins_name.false in
    let (m, read, is) = c.in_ok-end.ensures.gives in
    let name = c.args.name.now in
    let other = ap (λ t. bytes_eq t name) (sym is ∙ sym c.as_str.ensures.value) ∙ sym c.eq.ensures ∙ c.if-eq.false in
    inr (inl (end_differs name c.args.cursor.now.left c.component_name.new.cursor.left m there read other))
