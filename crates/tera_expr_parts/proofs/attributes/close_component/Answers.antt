use Rattle.std.proofs.Common.{◌≡◌, subst, ◌∙◌}
use Rattle.tera_lexer.specs.code.Cursors.{Position}
use Rattle.tera_grammar.specs.expressions.Operators.{Div}
use Rattle.tera_grammar.specs.expressions.Marks.{Operation}
use Rattle.tera_grammar.specs.expressions.Reading.Front.{takes}
use Rattle.tera_expect.specs.Taking.{GivesAs, place_at}
use Rattle.tera_expr_parts.proofs.AttributesLemmas.{closed_gives, looked_at, body_begins, nothing_closes}
use Rattle.tera_expr_parts.proofs.attributes.close_component.Goals as goal

pub returns-then-eat-clause-gives : goal.returns-then-eat-clause-gives
returns-then-eat-clause-gives c =
    let slash = rw c.if-eat.true at c.eat.ensures in
    closed_gives c.args.cursor.now.left c.eat.new.cursor c.expect.new.cursor c.expect.result slash.0 c.expect.ensures.gives

pub returns-then-eat-2-clause-gives : goal.returns-then-eat-2-clause-gives
returns-then-eat-2-clause-gives c =
    let slash = rw c.if-eat.false at c.eat.ensures in
    let greater = rw c.if-eat-2.true at c.eat-2.ensures in
    body_begins c.args.cursor.now c.eat.new.cursor c.eat-2.new.cursor _ slash greater.0

pub returns-in-Some-clause-gives : goal.returns-in-Some-clause-gives
returns-in-Some-clause-gives c =
    let slash = rw c.if-eat.false at c.eat.ensures in
    let greater = rw c.if-eat-2.false at c.eat-2.ensures in
    looked_at c.args.cursor.now c.eat.new.cursor c.eat-2.new.cursor _ slash greater

pub returns-in-None-clause-gives : goal.returns-in-None-clause-gives
returns-in-None-clause-gives c =
    let slash = rw c.if-eat.false at c.eat.ensures in
    let greater = rw c.if-eat-2.false at c.eat-2.ensures in
    let same : c.eat-2.new.cursor ≡ c.args.cursor.now = greater.1 ∙ slash.1 in
    nothing_closes c.args.cursor.now.left c.expect-in-None.new.cursor c.expect-in-None.result slash.0
    (subst (λ (p : Position). GivesAs (place_at c.expect-in-None.new.cursor.span) c.expect-in-None.result c.expect-in-None.new.cursor.left (takes (Operation Div) p.left))
    same c.expect-in-None.ensures.gives)
