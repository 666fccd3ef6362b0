use Rattle.std.proofs.Common.{◌∙◌, ⊎_elim, [], ap, inl, inr, sym}
use Rattle.std.proofs.lemmas.Result.{err_from_is_err_and}
use Rattle.tera_grammar.specs.statements.Reading.{body}
use Rattle.tera_grammar.specs.statements.Reading.Loops.{turn, weight}
use Rattle.tera_statements.specs.Adding.{here, seen_of}
use Rattle.tera_expr_parts.specs.Allowed.{limits_of}
use Rattle.tera_statements.specs.Templates.{top_depth, phase_if_any, phase_of}
use Rattle.tera_tags.specs.Known.{located_of}
use Rattle.tera_tags.proofs.KnowingLemmas.{inside_knowing}
use Rattle.tera_statements.proofs.EmptyLemmas.{no_item}
use Rattle.tera_statements.proofs.TemplatesLemmas.{fails_excluded, step_fails, turn_excluded}
use Rattle.tera_statements.proofs.templates.next_item.Goals as goal

pub top_item-requires : goal.top_item-requires
top_item-requires c = rw c.in_ok-refuse_extends.ensures.stays c.requires

pub returns-in_err-refuse_extends-clause-gives : goal.returns-in_err-refuse_extends-clause-gives
returns-in_err-refuse_extends-clause-gives c =
    let p = err_from_is_err_and c.from_residual.result c.from_residual.ensures.1 in
    rw (p.1, p.2) (⊎_elim (λ memory. inl memory) (λ excludes. inr (excludes (seen_of c.args.names.now))) c.in_err-refuse_extends.ensures.excludes)

pub returns-in_err-added-clause-gives : goal.returns-in_err-added-clause-gives
returns-in_err-added-clause-gives c =
    let p = err_from_is_err_and c.from_residual-in_err-added.result c.from_residual-in_err-added.ensures.1 in
    let fact = rw c.in_ok-refuse_extends.ensures.stays at c.in_err-added.ensures.gives in
    rw (p.1, p.2) (fails_excluded (limits_of c.args.setting.now.limits) (here c.args.names.now c.args.cursor.now) (phase_of c.args.phase) _ _ c.args.setting.now.valid
    (step_fails (limits_of c.args.setting.now.limits) (phase_of c.args.phase) (here c.args.names.now c.args.cursor.now) _ _ (c.in_ok-refuse_extends.ensures.step (seen_of c.args.names.now)) fact))

pub returns-in_default-clause-gives : goal.returns-in_default-clause-gives
returns-in_default-clause-gives c =
    let none = rw c.in_ok-refuse_extends.ensures.stays at (rw c.in_default.is at c.in_ok-added.ensures.gives) in
    (c.in_ok-refuse_extends.ensures.step (seen_of c.args.names.now) ∙ none.0, none.1)

pub returns-clause-gives : goal.returns-clause-gives
returns-clause-gives c =
    let (i, read, shows) = rw c.in_ok-refuse_extends.ensures.stays at (rw c.in-Some.is at c.in_ok-added.ensures.gives) in
    let turned = ap (turn (phase_of c.args.phase)) (sym (c.weigh.ensures ∙ ap weight shows)) ∙ sym c.following.ensures ∙ ap phase_if_any c.in-Some-following.is in
    (i, c.in_ok-refuse_extends.ensures.step (seen_of c.args.names.now) ∙ read, shows, turned)

pub returns-in_default-following-clause-gives : goal.returns-in_default-following-clause-gives
returns-in_default-following-clause-gives c =
    let (i, read, shows) = rw c.in_ok-refuse_extends.ensures.stays at (rw c.in-Some.is at c.in_ok-added.ensures.gives) in
    let turned = ap (turn (phase_of c.args.phase)) (sym (c.weigh.ensures ∙ ap weight shows)) ∙ sym c.following.ensures ∙ ap phase_if_any c.in_default-following.is in
    inr (turn_excluded (limits_of c.args.setting.now.limits) c.args.setting.now.valid (here c.args.names.now c.args.cursor.now) (phase_of c.args.phase) i _
    (c.in_ok-refuse_extends.ensures.step (seen_of c.args.names.now) ∙ read) turned)

pub returns-in_default-following-clause-refusal : goal.returns-in_default-following-clause-refusal
returns-in_default-following-clause-refusal c =
    let took = rw c.in_ok-refuse_extends.ensures.stays at (rw c.in-Some.is at c.in_ok-added.ensures.later) in
    let represents = rw c.in_ok-refuse_extends.ensures.stays at c.next_place-first.ensures in
    inside_knowing (located_of c.args.names.now.components) _ _ _ (c.ignored.ensures c.args.cursor.now took represents)

pub returns-in_err-added-clause-empty : goal.returns-in_err-added-clause-empty
returns-in_err-added-clause-empty c =
    let p = err_from_is_err_and c.from_residual-in_err-added.result c.from_residual-in_err-added.ensures.1 in
    let refused = rw c.in_ok-refuse_extends.ensures.stays at c.in_err-added.ensures.empty in
    rw p.1 refused

pub returns-in_default-following-clause-empty : goal.returns-in_default-following-clause-empty
returns-in_default-following-clause-empty c = λ empty.
    let l = limits_of c.args.setting.now.limits in
    let (i, read, shows) = rw c.in_ok-refuse_extends.ensures.stays at (rw c.in-Some.is at c.in_ok-added.ensures.gives) in
    no_item l (body (top_depth l) l) [] (seen_of c.args.names.now) c.args.cursor.now.left i _ empty c.requires read

pub returns-in_err-refuse_extends-clause-refusal : goal.returns-in_err-refuse_extends-clause-refusal
returns-in_err-refuse_extends-clause-refusal c =
    let p = err_from_is_err_and c.from_residual.result c.from_residual.ensures.1 in
    rw (p.1, p.2) (inside_knowing (located_of c.args.names.now.components) _ _ _ c.in_err-refuse_extends.ensures.refusal)

pub returns-in_err-added-clause-refusal : goal.returns-in_err-added-clause-refusal
returns-in_err-added-clause-refusal c =
    let p = err_from_is_err_and c.from_residual-in_err-added.result c.from_residual-in_err-added.ensures.1 in
    let refused = rw c.in_ok-refuse_extends.ensures.stays at c.in_err-added.ensures.refusal in
    rw (p.1, p.2) refused
