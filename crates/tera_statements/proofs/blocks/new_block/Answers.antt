use Rattle.std.proofs.Common.{inr, refl, sym, ◌∙◌, inl}
use Rattle.tera_expect.specs.Taking.{name_at}
use Rattle.tera_tags.proofs.KnownLemmas.{known_as}
use Rattle.tera_statements.proofs.blocks.new_block.Goals as goal

pub returns-then-is_some-clause-gives : goal.returns-then-is_some-clause-gives
returns-then-is_some-clause-gives c =
    let known = sym (known_as c.args.blocks.now c.in_ok-name.name.now c.place_of.result c.place_of.ensures) ∙ sym c.is_some.ensures ∙ c.if-is_some.true in
    inr (inl (rw (c.in_ok-name.ensures.gives, known) refl))

pub returns-clause-gives : goal.returns-clause-gives
returns-clause-gives c =
    let unknown = sym (known_as c.args.blocks.now c.in_ok-name.name.now c.place_of.result c.place_of.ensures) ∙ sym c.is_some.ensures ∙ c.if-is_some.false in (
      name_at c.name.new.cursor.span c.in_ok-name.name,
      rw (c.in_ok-name.ensures.gives, unknown) refl,
      (refl, c.copied.ensures ∙ c.current_span-2.ensures.span),
    )
