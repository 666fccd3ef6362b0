use Rattle.std.proofs.Common.{inr, refl, sym, ap, subst, ◌∙◌, inl}
use Rattle.std.specs.Option.{is_some}
use Rattle.tera_tags.specs.Known.{located_of, met_of}
use Rattle.tera_expect.proofs.Steps.{failed}
use Rattle.std.proofs.lemmas.Result.{err_from_is_err_and}
use Rattle.tera_tags.proofs.ComponentsLemmas.{component_ends}
use Rattle.tera_tags.proofs.KnownLemmas.{known_as, same_place}
use Rattle.tera_expect.proofs.TakingLemmas.{took_goes}
use Rattle.tera_tags.specs.Knowing.{MeetsAgain}
use Rattle.tera_tags.proofs.CameLemmas.{component_comes, place_found}
use Rattle.tera_tags.proofs.KnowingLemmas.{knowing, memory_knowing}
use Rattle.tera_tags.proofs.components.new_component.Goals as goal

pub returns-in_err-name-clause-gives : goal.returns-in_err-name-clause-gives
returns-in_err-name-clause-gives c =
    let p = err_from_is_err_and c.from_residual.result c.from_residual.ensures.1 in
    rw (p.1, p.2) (failed _ _ _ _ c.in_err-name.ensures.gives)

pub returns-in-Some-clause-gives : goal.returns-in-Some-clause-gives
returns-in-Some-clause-gives c =
    let (n, read, is) = c.in_ok-name.ensures.gives in
    let known = ap (met_of c.args.seen.now) (sym is ∙ sym c.as_str.ensures.value) ∙ sym (known_as c.args.seen.now c.as_str.result.now c.place_of.result c.place_of.ensures) ∙ ap is_some c.in-Some.is in
    inr (inl (rw (read, known) refl))

pub returns-clause-gives : goal.returns-clause-gives
returns-clause-gives c =
    let (n, read, is) = c.in_ok-name.ensures.gives in
    let text = sym c.as_str.ensures.value in
    let unknown = ap (met_of c.args.seen.now) (sym is ∙ text) ∙ sym (known_as c.args.seen.now c.as_str.result.now c.place_of.result c.place_of.ensures) ∙ ap is_some c.in_default.is in
    let ends = component_ends c.args.cursor.now c.component_name.new.cursor n read c.in_ok-name.ensures.later in (
      n,
      rw (read, unknown) refl,
      (is, c.in_ok-keep_name.ensures.kept ∙ same_place (located_of c.args.seen.now) (c.as_str-2.ensures.value ∙ is) (c.current_span.ensures.span ∙ ends)),
    )

pub returns-in_err-name-clause-refusal : goal.returns-in_err-name-clause-refusal
returns-in_err-name-clause-refusal c =
    let p = err_from_is_err_and c.from_residual.result c.from_residual.ensures.1 in
    rw (p.1, p.2) (knowing (located_of c.args.seen.now) _ _ _ c.in_err-name.ensures.refusal)

pub returns-in-Some-clause-refusal : goal.returns-in-Some-clause-refusal
returns-in-Some-clause-refusal c =
    let (n, read, is) = c.in_ok-name.ensures.gives in
    let name = c.as_str.result.now in
    let first = place_found c.place_of.result (located_of c.args.seen.now name) c.in-Some.first c.place_of.ensures c.in-Some.is in
    let comes = component_comes c.args.cursor.now c.component_name.new.cursor n name read c.in_ok-name.ensures.later (c.as_str.ensures.value ∙ is) in
    let same = c.as_str.ensures.value ∙ sym c.as_str-in-Some.ensures.value in
    let known = located_of c.args.seen.now in
    c.repeated_component.ensures known c.args.cursor.now
    (subst (λ text. MeetsAgain known text c.in-Some.first.now c.args.cursor.now c.component_name.new.cursor) same (took_goes _ _ c.in_ok-name.ensures.later, first, comes))

pub returns-in_err-keep_name-clause-refusal : goal.returns-in_err-keep_name-clause-refusal
returns-in_err-keep_name-clause-refusal c =
    let p = err_from_is_err_and c.from_residual-in_err-keep_name.result c.from_residual-in_err-keep_name.ensures.1 in
    rw (p.1, p.2) (memory_knowing (located_of c.args.seen.now) _ _ _ c.in_err-keep_name.ensures.refusal)
