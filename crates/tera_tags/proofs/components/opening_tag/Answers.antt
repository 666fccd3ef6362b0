use Rattle.std.proofs.Common.{◌∙◌}
use Rattle.std.proofs.lemmas.Result.{err_from_is_err_and}
use Rattle.tera_tags.proofs.ComponentsLemmas.{no_new_name, no_paren, no_parameters, no_metadata, component_kept, head_unfinished, opened_given}
use Rattle.tera_tags.proofs.KnownLemmas.{same_group}
use Rattle.tera_tags.specs.Known.{grouped_of, located_of}
use Rattle.tera_expect.proofs.Steps.{failed_as}
use Rattle.tera_expect.proofs.TakingLemmas.{refused_after, took_all, took_further}
use Rattle.tera_tags.proofs.KnowingLemmas.{knowing, memory_knowing}
use Rattle.tera_tags.proofs.components.opening_tag.Goals as goal

pub returns-in_err-name-clause-gives : goal.returns-in_err-name-clause-gives
returns-in_err-name-clause-gives c =
    let p = err_from_is_err_and c.from_residual.result c.from_residual.ensures.1 in
    rw (p.1, p.2) (failed_as _ _ _ _ (λ z h. no_new_name _ _ _ z h) c.in_err-name.ensures.gives)

pub returns-in_err-expect-clause-gives : goal.returns-in_err-expect-clause-gives
returns-in_err-expect-clause-gives c =
    let p = err_from_is_err_and c.from_residual-in_err-expect.result c.from_residual-in_err-expect.ensures.1 in
    let (n, named, is) = c.in_ok-name.ensures.gives in
    rw (p.1, p.2) (failed_as _ _ _ _ (λ z h. no_paren _ _ _ n _ named z h) c.in_err-expect.ensures.gives)

pub returns-in_err-parameters-clause-gives : goal.returns-in_err-parameters-clause-gives
returns-in_err-parameters-clause-gives c =
    let p = err_from_is_err_and c.from_residual-in_err-parameters.result c.from_residual-in_err-parameters.ensures.1 in
    let (n, named, is) = c.in_ok-name.ensures.gives in
    rw (p.1, p.2) (failed_as _ _ _ _ (λ z h. no_parameters _ _ _ n _ named _ _ c.in_ok-expect.ensures.gives z h) c.in_err-parameters.ensures.gives)

pub returns-in_err-metadata-clause-gives : goal.returns-in_err-metadata-clause-gives
returns-in_err-metadata-clause-gives c =
    let p = err_from_is_err_and c.from_residual-in_err-metadata.result c.from_residual-in_err-metadata.ensures.1 in
    let (n, named, is) = c.in_ok-name.ensures.gives in
    let (ps, listed, are) = c.in_ok-parameters.ensures.gives in
    rw (p.1, p.2) (failed_as _ _ _ _ (λ z h. no_metadata _ _ _ n _ named _ _ c.in_ok-expect.ensures.gives ps _ listed z h) c.in_err-metadata.ensures.gives)

pub returns-in_err-finish-clause-gives : goal.returns-in_err-finish-clause-gives
returns-in_err-finish-clause-gives c =
    let p = err_from_is_err_and c.from_residual-in_err-finish.result c.from_residual-in_err-finish.ensures.1 in
    let (n, named, is) = c.in_ok-name.ensures.gives in
    let (ps, listed, are) = c.in_ok-parameters.ensures.gives in
    let (m, given, holds) = c.in_ok-metadata.ensures.gives in
    rw (p.1, p.2) (failed_as _ _ _ _ (λ z h. head_unfinished _ _ _ n _ named _ _ c.in_ok-expect.ensures.gives ps _ listed m _ given z h) c.in_err-finish.ensures.gives)

pub returns-clause-gives : goal.returns-clause-gives
returns-clause-gives c =
    let (n, named, is) = c.in_ok-name.ensures.gives in
    let (ps, listed, are) = c.in_ok-parameters.ensures.gives in
    let (m, given, holds) = c.in_ok-metadata.ensures.gives in
    let (f, ended) = c.in_ok-finish.ensures.gives in
    let names = c.args.names.now in
    let kept = c.in_ok-keep_parameters.ensures.kept ∙ same_group (grouped_of names.parameters) (c.as_str.ensures.value ∙ is.0) are.1 in (
      record { name = n; paren = c.expect.new.cursor.span; parameters = ps; metadata = m; finish = f },
      opened_given _ _ _ n _ named _ _ c.in_ok-expect.ensures.gives ps _ listed m _ given f _ ended,
      ((is.0, are.0, holds), component_kept (located_of names.blocks) (located_of names.components) _ (grouped_of names.parameters) _ n ps is.1 kept),
    )

pub returns-clause-later : goal.returns-clause-later
returns-clause-later c =
    took_all _ _ _
    (took_further _ _ _ (took_all _ _ _ (took_all _ _ _ c.in_ok-name.ensures.later c.in_ok-expect.ensures.later) c.in_ok-parameters.ensures.later) c.in_ok-metadata.ensures.later)
    c.in_ok-finish.ensures.later

pub returns-in_err-name-clause-refusal : goal.returns-in_err-name-clause-refusal
returns-in_err-name-clause-refusal c =
    let p = err_from_is_err_and c.from_residual.result c.from_residual.ensures.1 in
    rw (p.1, p.2) c.in_err-name.ensures.refusal

pub returns-in_err-expect-clause-refusal : goal.returns-in_err-expect-clause-refusal
returns-in_err-expect-clause-refusal c =
    let p = err_from_is_err_and c.from_residual-in_err-expect.result c.from_residual-in_err-expect.ensures.1 in
    rw (p.1, p.2) (knowing (located_of c.args.names.now.components) _ _ _ (refused_after _ _ _ _ c.in_ok-name.ensures.later c.in_err-expect.ensures.refusal))

pub returns-in_err-parameters-clause-refusal : goal.returns-in_err-parameters-clause-refusal
returns-in_err-parameters-clause-refusal c =
    let p = err_from_is_err_and c.from_residual-in_err-parameters.result c.from_residual-in_err-parameters.ensures.1 in
    rw (p.1, p.2) (knowing (located_of c.args.names.now.components) _ _ _ (refused_after _ _ _ _ (took_all _ _ _ c.in_ok-name.ensures.later c.in_ok-expect.ensures.later) c.in_err-parameters.ensures.refusal))

pub returns-in_err-keep_parameters-clause-refusal : goal.returns-in_err-keep_parameters-clause-refusal
returns-in_err-keep_parameters-clause-refusal c =
    let p = err_from_is_err_and c.from_residual-in_err-keep_parameters.result c.from_residual-in_err-keep_parameters.ensures.1 in
    rw (p.1, p.2) (memory_knowing (located_of c.args.names.now.components) _ _ _ c.in_err-keep_parameters.ensures.refusal)

pub returns-in_err-metadata-clause-refusal : goal.returns-in_err-metadata-clause-refusal
returns-in_err-metadata-clause-refusal c =
    let p = err_from_is_err_and c.from_residual-in_err-metadata.result c.from_residual-in_err-metadata.ensures.1 in
    rw (p.1, p.2) (knowing (located_of c.args.names.now.components) _ _ _ (refused_after _ _ _ _ (took_all _ _ _ (took_all _ _ _ c.in_ok-name.ensures.later c.in_ok-expect.ensures.later) c.in_ok-parameters.ensures.later) c.in_err-metadata.ensures.refusal))

pub returns-in_err-finish-clause-refusal : goal.returns-in_err-finish-clause-refusal
returns-in_err-finish-clause-refusal c =
    let p = err_from_is_err_and c.from_residual-in_err-finish.result c.from_residual-in_err-finish.ensures.1 in
    rw (p.1, p.2) (knowing (located_of c.args.names.now.components) _ _ _ (refused_after _ _ _ _ (took_further _ _ _ (took_all _ _ _ (took_all _ _ _ c.in_ok-name.ensures.later c.in_ok-expect.ensures.later) c.in_ok-parameters.ensures.later) c.in_ok-metadata.ensures.later) c.in_err-finish.ensures.refusal))
