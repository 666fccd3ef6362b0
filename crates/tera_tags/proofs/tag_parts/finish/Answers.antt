use Rattle.tera_tags.proofs.tag_parts.finish.Goals as goal

pub returns-then-eat_end-clause-gives : goal.returns-then-eat_end-clause-gives
returns-then-eat_end-clause-gives c =
    let (dash, read, took) = rw c.if-eat_end.true at c.eat_end.ensures in
    (record { dash = dash; span = c.eat_end.new.cursor.span }, read)
