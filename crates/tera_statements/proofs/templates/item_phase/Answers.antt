use Rattle.std.proofs.Common.{◌∙◌, [], ap, refl, sym}
use Rattle.std.proofs.lemmas.Result.{err_from_is_err_and}
use Rattle.tera_grammar.specs.statements.Reading.{body}
use Rattle.tera_grammar.specs.statements.Reading.Loops.{with_added}
use Rattle.tera_expr_parts.specs.Allowed.{limits_of}
use Rattle.tera_statements.specs.Adding.{here, seen_of}
use Rattle.tera_tree.specs.Outputs.{output_view}
use Rattle.tera_statements.specs.Templates.{phase_of, top_depth}
use Rattle.tera_tags.specs.Known.{located_of}
use Rattle.tera_tags.proofs.KnowingLemmas.{memory_inside_knowing}
use Rattle.tera_statements.proofs.EmptyLemmas.{no_item}
use Rattle.tera_statements.proofs.TemplatesLemmas.{empty_steps}
use Rattle.tera_statements.proofs.templates.item_phase.Goals as goal

pub returns-in_err-added-clause-gives : goal.returns-in_err-added-clause-gives
returns-in_err-added-clause-gives c =
    let p = err_from_is_err_and c.from_residual.result c.from_residual.ensures.1 in
    rw (p.1, p.2) c.in_err-added.ensures.gives

pub returns-in_default-clause-gives : goal.returns-in_default-clause-gives
returns-in_default-clause-gives c =
    let none = rw c.in_default.is at c.in_ok-added.ensures.gives in
    (none.0, none.1, refl)

pub returns-clause-gives : goal.returns-clause-gives
returns-clause-gives c =
    let (i, read, shows, turned) = rw c.in-Some.is at c.in_ok-added.ensures.gives in
    (i, read, c.in_ok-add.ensures.added ∙ ap (with_added (output_view c.args.output.now)) shows, turned)

pub returns-in_err-add-clause-empty : goal.returns-in_err-add-clause-empty
returns-in_err-add-clause-empty c =
    let p = err_from_is_err_and c.from_residual-in_err-add.result c.from_residual-in_err-add.ensures.1 in
    let l = limits_of c.args.setting.now.limits in
    let (i, read, shows, turned) = rw c.in-Some.is at c.in_ok-added.ensures.gives in
    rw p.1 (λ empty. no_item l (body (top_depth l) l) [] (seen_of c.args.names.now) c.args.cursor.now.left i _ empty c.requires
    (sym (empty_steps l (phase_of c.args.phase) (here c.args.names.now c.args.cursor.now) empty) ∙ read))

pub returns-in_err-added-clause-refusal : goal.returns-in_err-added-clause-refusal
returns-in_err-added-clause-refusal c =
    let p = err_from_is_err_and c.from_residual.result c.from_residual.ensures.1 in
    rw (p.1, p.2) c.in_err-added.ensures.refusal

pub returns-in_err-add-clause-refusal : goal.returns-in_err-add-clause-refusal
returns-in_err-add-clause-refusal c =
    let p = err_from_is_err_and c.from_residual-in_err-add.result c.from_residual-in_err-add.ensures.1 in
    rw (p.1, p.2) (memory_inside_knowing (located_of c.args.names.now.components) _ _ _ c.in_err-add.ensures.refusal)
