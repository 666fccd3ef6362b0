use Rattle.std.proofs.Common.{inr, sym, ap, ◌∙◌, inl}
use Rattle.std.specs.Option.{is_some}
use Rattle.tera_tags.specs.Known.{located_of, met_of}
use Rattle.tera_expect.specs.Taking.{name_at}
use Rattle.tera_tags.proofs.ParametersLemmas.{fresh_given, named_again}
use Rattle.tera_tags.proofs.KnownLemmas.{known_as}
use Rattle.std.proofs.lemmas.Result.{err_from_is_err_and}
use Rattle.tera_expect.proofs.NotesLemmas.{taken_comes}
use Rattle.tera_expect.proofs.TakingLemmas.{refused_after, took_goes}
use Rattle.tera_tags.proofs.CameLemmas.{place_found}
use Rattle.tera_tags.proofs.KnowingLemmas.{knowing}
use Rattle.tera_tags.proofs.parameters.fresh_name.Goals as goal

pub returns-in-Some-clause-gives : goal.returns-in-Some-clause-gives
returns-in-Some-clause-gives c =
    let known = sym (known_as c.args.seen.now c.in_ok-name.name.now c.place_of.result c.place_of.ensures) ∙ ap is_some c.in-Some.is in
    inr (inl (named_again (met_of c.args.seen.now) _ _ (name_at c.name.new.cursor.span c.in_ok-name.name) c.in_ok-name.ensures.gives (sym c.eq.ensures ∙ c.if-eq.false) known))

pub returns-in-None-clause-gives : goal.returns-in-None-clause-gives
returns-in-None-clause-gives c =
    let unknown = sym (known_as c.args.seen.now c.in_ok-name.name.now c.place_of.result c.place_of.ensures) ∙ ap is_some c.in-None.is in
    fresh_given (met_of c.args.seen.now) _ _ (name_at c.name.new.cursor.span c.in_ok-name.name) c.in_ok-name.ensures.gives (sym c.eq.ensures ∙ c.if-eq.false) unknown

pub returns-in_err-name-clause-refusal : goal.returns-in_err-name-clause-refusal
returns-in_err-name-clause-refusal c =
    let p = err_from_is_err_and c.from_residual.result c.from_residual.ensures.1 in
    rw (p.1, p.2) (knowing (located_of c.args.seen.now) _ _ _ c.in_err-name.ensures.refusal)

pub returns-then-eq-clause-refusal : goal.returns-then-eq-clause-refusal
returns-then-eq-clause-refusal c = knowing (located_of c.args.seen.now) _ _ _ (refused_after _ _ _ _ c.in_ok-name.ensures.later c.parameter_named_body.ensures)

pub returns-in-Some-clause-refusal : goal.returns-in-Some-clause-refusal
returns-in-Some-clause-refusal c =
    let first = place_found c.place_of.result (located_of c.args.seen.now c.in_ok-name.name.now) c.in-Some.first c.place_of.ensures c.in-Some.is in
    c.repeated.ensures (located_of c.args.seen.now) c.args.cursor.now
    (took_goes _ _ c.in_ok-name.ensures.later, first, taken_comes (name_at c.name.new.cursor.span c.in_ok-name.name) _ _ c.in_ok-name.ensures.gives)
