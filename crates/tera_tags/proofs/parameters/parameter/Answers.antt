use Rattle.std.proofs.Common.{refl, sym, ap, ◌∙◌, inl}
use Rattle.std.proofs.lemmas.Result.{err_from_is_err_and}
use Rattle.tera_grammar.specs.statements.Reading.Components as reading
use Rattle.tera_tags.specs.Known.{located_of, met_of}
use Rattle.tera_tags.specs.Parameters.{has_default}
use Rattle.tera_expr_parts.specs.Allowed.{limits_of}
use Rattle.tera_expect.specs.Taking.{name_at}
use Rattle.tera_tags.proofs.ParametersLemmas.{annotation_known, argument_is, at_after, at_read, mistyped, no_annotation, no_assigned, no_fresh_name, parameter_given}
use Rattle.tera_expect.proofs.Steps.{failed_as, fails_by}
use Rattle.tera_tags.proofs.KnownLemmas.{same_place}
use Rattle.tera_grammar.specs.expressions.Marks.{At}
use Rattle.tera_grammar.specs.expressions.Reading.Front.{takes}
use Rattle.tera_expect.proofs.NotesLemmas.{comes_further, goes_left, left_further, took_left}
use Rattle.tera_expect.proofs.TakingLemmas.{goes_further, goes_took, refused_after, took_further}
use Rattle.tera_tags.proofs.CameLemmas.{came_left, fresh_comes, located_came}
use Rattle.tera_tags.proofs.KnowingLemmas.{knowing, knowing_further, memory_knowing}
use Rattle.tera_tags.proofs.ParametersLemmas.{eaten_goes}
use Rattle.tera_tags.proofs.parameters.parameter.Goals as goal

pub returns-in_err-name-clause-gives : goal.returns-in_err-name-clause-gives
returns-in_err-name-clause-gives c =
    let l = limits_of c.args.setting.now.limits in
    let seen = met_of c.args.seen.now in
    let ts = c.args.cursor.now.left in
    let (at, is, opens) = at_read c.eat-implicit.result c.args.cursor.now c.eat-implicit.new.cursor c.eat-implicit.ensures in
    let p = err_from_is_err_and c.from_residual.result c.from_residual.ensures.1 in
    rw (p.1, p.2) (failed_as _ _ _ _ (λ z h. at_after l seen ts _ at opens ∙ no_fresh_name l seen at _ z h) c.in_err-name.ensures.gives)

pub returns-in_err-typ-clause-gives : goal.returns-in_err-typ-clause-gives
returns-in_err-typ-clause-gives c =
    let l = limits_of c.args.setting.now.limits in
    let seen = met_of c.args.seen.now in
    let ts = c.args.cursor.now.left in
    let (at, is, opens) = at_read c.eat-implicit.result c.args.cursor.now c.eat-implicit.new.cursor c.eat-implicit.ensures in
    let p = err_from_is_err_and c.from_residual-in_err-typ.result c.from_residual-in_err-typ.ensures.1 in
    let n = name_at c.fresh_name.new.cursor.span c.in_ok-name.name in
    rw (p.1, p.2) (failed_as _ _ _ _ (λ z h. at_after l seen ts _ at opens ∙ no_annotation l seen at _ n _ c.in_ok-name.ensures.gives z h) c.in_err-typ.ensures.gives)

pub returns-in_err-default-clause-gives : goal.returns-in_err-default-clause-gives
returns-in_err-default-clause-gives c =
    let l = limits_of c.args.setting.now.limits in
    let seen = met_of c.args.seen.now in
    let ts = c.args.cursor.now.left in
    let (at, is, opens) = at_read c.eat-implicit.result c.args.cursor.now c.eat-implicit.new.cursor c.eat-implicit.ensures in
    let p = err_from_is_err_and c.from_residual-in_err-default.result c.from_residual-in_err-default.ensures.1 in
    let n = name_at c.fresh_name.new.cursor.span c.in_ok-name.name in
    let (t, typed, written) = c.in_ok-typ.ensures.gives in
    rw (p.1, p.2) (failed_as _ _ _ _ (λ z h. at_after l seen ts _ at opens ∙ no_assigned l seen at _ n _ c.in_ok-name.ensures.gives t _ typed z h) c.in_err-default.ensures.gives)

pub returns-in_err-check_default-clause-gives : goal.returns-in_err-check_default-clause-gives
returns-in_err-check_default-clause-gives c =
    let l = limits_of c.args.setting.now.limits in
    let seen = met_of c.args.seen.now in
    let ts = c.args.cursor.now.left in
    let (at, is, opens) = at_read c.eat-implicit.result c.args.cursor.now c.eat-implicit.new.cursor c.eat-implicit.ensures in
    let p = err_from_is_err_and c.from_residual-in_err-check_default.result c.from_residual-in_err-check_default.ensures.1 in
    let n = name_at c.fresh_name.new.cursor.span c.in_ok-name.name in
    let (t, typed, written) = c.in_ok-typ.ensures.gives in
    let (d, assigned, value) = c.in_ok-default.ensures.gives in
    let same = c.argument-argument.ensures ∙ argument_is at n t d _ _ _ is written (annotation_known _ _ _ typed) value in
    rw (p.1, p.2) (fails_by _ _ _ (λ h. inl (at_after l seen ts _ at opens ∙ mistyped l seen at _ n _ c.in_ok-name.ensures.gives t _ typed d _ assigned (sym (ap has_default same) ∙ h))) c.in_err-check_default.ensures.fails)

pub returns-clause-gives : goal.returns-clause-gives
returns-clause-gives c =
    let l = limits_of c.args.setting.now.limits in
    let seen = met_of c.args.seen.now in
    let ts = c.args.cursor.now.left in
    let (at, is, opens) = at_read c.eat-implicit.result c.args.cursor.now c.eat-implicit.new.cursor c.eat-implicit.ensures in
    let n = name_at c.fresh_name.new.cursor.span c.in_ok-name.name in
    let (t, typed, written) = c.in_ok-typ.ensures.gives in
    let (d, assigned, value) = c.in_ok-default.ensures.gives in
    let same = c.argument-argument.ensures ∙ argument_is at n t d _ _ _ is written (annotation_known _ _ _ typed) value in (
      reading.parameter at n t d,
      at_after l seen ts _ at opens ∙ parameter_given l seen at _ n _ c.in_ok-name.ensures.gives t _ typed d _ assigned (sym (ap has_default same) ∙ c.in_ok-check_default.ensures.fits),
      ((c.in_ok-from_str.ensures.ok, same), c.in_ok-keep_name.ensures.kept ∙ same_place (located_of c.args.seen.now) refl c.current_span.ensures.span),
    )

pub returns-in_err-name-clause-refusal : goal.returns-in_err-name-clause-refusal
returns-in_err-name-clause-refusal c =
    let ahead = eaten_goes c.eat-implicit.result c.args.cursor.now c.eat-implicit.new.cursor (takes At c.args.cursor.now.left) c.eat-implicit.ensures in
    let p = err_from_is_err_and c.from_residual.result c.from_residual.ensures.1 in
    rw (p.1, p.2) (knowing_further (located_of c.args.seen.now) _ _ _ _ ahead c.in_err-name.ensures.refusal)

pub returns-in_err-keep_name-clause-refusal : goal.returns-in_err-keep_name-clause-refusal
returns-in_err-keep_name-clause-refusal c =
    let p = err_from_is_err_and c.from_residual-in_err-keep_name.result c.from_residual-in_err-keep_name.ensures.1 in
    rw (p.1, p.2) (memory_knowing (located_of c.args.seen.now) _ _ _ c.in_err-keep_name.ensures.refusal)

pub returns-in_err-typ-clause-refusal : goal.returns-in_err-typ-clause-refusal
returns-in_err-typ-clause-refusal c =
    let ahead = eaten_goes c.eat-implicit.result c.args.cursor.now c.eat-implicit.new.cursor (takes At c.args.cursor.now.left) c.eat-implicit.ensures in
    let fresh = goes_took _ _ _ ahead c.in_ok-name.ensures.later in
    let p = err_from_is_err_and c.from_residual-in_err-typ.result c.from_residual-in_err-typ.ensures.1 in
    rw (p.1, p.2) (knowing (located_of c.args.seen.now) _ _ _ (refused_after _ _ _ _ fresh c.in_err-typ.ensures.refusal))

pub returns-in_err-default-clause-refusal : goal.returns-in_err-default-clause-refusal
returns-in_err-default-clause-refusal c =
    let ahead = eaten_goes c.eat-implicit.result c.args.cursor.now c.eat-implicit.new.cursor (takes At c.args.cursor.now.left) c.eat-implicit.ensures in
    let fresh = goes_took _ _ _ ahead c.in_ok-name.ensures.later in
    let p = err_from_is_err_and c.from_residual-in_err-default.result c.from_residual-in_err-default.ensures.1 in
    rw (p.1, p.2) (knowing (located_of c.args.seen.now) _ _ _ (refused_after _ _ _ _ (took_further _ _ _ fresh c.in_ok-typ.ensures.later) c.in_err-default.ensures.refusal))

pub returns-in_err-check_default-clause-refusal : goal.returns-in_err-check_default-clause-refusal
returns-in_err-check_default-clause-refusal c =
    let ahead = eaten_goes c.eat-implicit.result c.args.cursor.now c.eat-implicit.new.cursor (takes At c.args.cursor.now.left) c.eat-implicit.ensures in
    let fresh = goes_took _ _ _ ahead c.in_ok-name.ensures.later in
    let p = err_from_is_err_and c.from_residual-in_err-check_default.result c.from_residual-in_err-check_default.ensures.1 in
    rw (p.1, p.2) (knowing (located_of c.args.seen.now) _ _ _ (refused_after _ _ _ _ (took_further _ _ _ (took_further _ _ _ fresh c.in_ok-typ.ensures.later) c.in_ok-default.ensures.later) c.in_err-check_default.ensures.refusal))

pub returns-clause-kept : goal.returns-clause-kept
returns-clause-kept c = λ start goes came.
    let ahead = eaten_goes c.eat-implicit.result c.args.cursor.now c.eat-implicit.new.cursor (takes At c.args.cursor.now.left) c.eat-implicit.ensures in
    let after = goes_left _ _ (goes_further _ _ _ c.in_ok-typ.ensures.later c.in_ok-default.ensures.later) in
    let took = took_left _ _ c.in_ok-name.ensures.later in
    let n = name_at c.fresh_name.new.cursor.span c.in_ok-name.name in
    let comes = comes_further n _ _ _ (goes_left _ _ (goes_further start _ _ goes ahead)) (fresh_comes (met_of c.args.seen.now) n _ _ c.in_ok-name.ensures.gives) in
    located_came n (located_of c.args.seen.now) (located_of c.keep_name.new.names) c.assigned.new.cursor.left start.left
    (c.in_ok-keep_name.ensures.kept ∙ same_place (located_of c.args.seen.now) refl c.current_span.ensures.span)
    (c.fresh_name.new.cursor.left, comes, after)
    (came_left (located_of c.args.seen.now) _ _ _ (left_further _ _ _ after (left_further _ _ _ took (goes_left _ _ ahead))) came)
