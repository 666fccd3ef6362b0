use Rattle.std.proofs.Common.{inl, inr, refl, ◌∙◌}
use Rattle.tera_expect.specs.Taking.{name_at}
use Rattle.tera_tags.specs.Known.{located_of}
use Rattle.tera_tags.proofs.KnownLemmas.{same_place}
use Rattle.std.proofs.lemmas.Result.{err_from_is_err_and}
use Rattle.tera_grammar.specs.expressions.Marks.{RightParen}
use Rattle.tera_grammar.specs.expressions.Reading.Front.{takes}
use Rattle.tera_expect.proofs.TakingLemmas.{refused_after, took_further}
use Rattle.tera_tags.proofs.KnowingLemmas.{knowing, memory_knowing}
use Rattle.tera_tags.proofs.ParametersLemmas.{eaten_goes}
use Rattle.tera_tags.proofs.parameters.rest_parameter.Goals as goal

pub returns-then-not-eat-clause-gives : goal.returns-then-not-eat-clause-gives
returns-then-not-eat-clause-gives c =
    let none = rw c.if-not-eat.true at c.eat.ensures in
    inr (inl (rw (c.in_ok-name.ensures.gives, none.0, none.1) refl))

pub returns-clause-gives : goal.returns-clause-gives
returns-clause-gives c =
    let end = rw c.if-not-eat.false at c.eat.ensures in (
      name_at c.fresh_name.new.cursor.span c.in_ok-name.name,
      rw (c.in_ok-name.ensures.gives, end.0) refl,
      (c.in_ok-from_str.ensures.ok, c.in_ok-keep_name.ensures.kept ∙ same_place (located_of c.args.seen.now) refl c.current_span.ensures.span),
    )

pub returns-in_err-name-clause-refusal : goal.returns-in_err-name-clause-refusal
returns-in_err-name-clause-refusal c =
    let p = err_from_is_err_and c.from_residual.result c.from_residual.ensures.1 in
    rw (p.1, p.2) c.in_err-name.ensures.refusal

pub returns-in_err-keep_name-clause-refusal : goal.returns-in_err-keep_name-clause-refusal
returns-in_err-keep_name-clause-refusal c =
    let p = err_from_is_err_and c.from_residual-in_err-keep_name.result c.from_residual-in_err-keep_name.ensures.1 in
    rw (p.1, p.2) (memory_knowing (located_of c.args.seen.now) _ _ _ c.in_err-keep_name.ensures.refusal)

pub returns-then-not-eat-clause-refusal : goal.returns-then-not-eat-clause-refusal
returns-then-not-eat-clause-refusal c =
    let stays = eaten_goes c.eat.result c.fresh_name.new.cursor c.eat.new.cursor (takes RightParen c.fresh_name.new.cursor.left) c.eat.ensures in
    knowing (located_of c.args.seen.now) _ _ _ (refused_after _ _ _ _ (took_further _ _ _ c.in_ok-name.ensures.later stays) c.rest_is_not_last.ensures)
