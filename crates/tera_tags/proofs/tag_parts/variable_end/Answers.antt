use Rattle.tera_tags.proofs.tag_parts.variable_end.Goals as goal

pub returns-then-eat_variable_end-clause-gives : goal.returns-then-eat_variable_end-clause-gives
returns-then-eat_variable_end-clause-gives c =
    let (dash, read, took) = rw c.if-eat_variable_end.true at c.eat_variable_end.ensures in
    (record { dash = dash; span = c.eat_variable_end.new.cursor.span }, read)
