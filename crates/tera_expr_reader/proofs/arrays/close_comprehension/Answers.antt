use Rattle.std.proofs.Common.{inl, inr, ap}
use Rattle.tera_grammar.specs.expressions.Marks.{For, RightBracket, mark_token}
use Rattle.tera_grammar.specs.expressions.Reading.Front.{takes}
use Rattle.tera_grammar.proofs.stops.Fronts.{takes_ok}
use Rattle.tera_expr_reader.proofs.arrays.close_comprehension.Goals as goal

pub returns-then-eat-clause-gives : goal.returns-then-eat-clause-gives
returns-then-eat-clause-gives c =
    let again = rw c.if-eat.true at c.eat.ensures in
    inr (inr (inl (mark_token For, c.eat.new.cursor.span, ap (takes RightBracket) (takes_ok For c.args.cursor.now.left (c.eat.new.cursor.span, c.eat.new.cursor.left) again.0))))
