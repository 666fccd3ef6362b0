use Rattle.tera_grammar.specs.statements.Reading.TagParts.{finish_of, tag}
use Rattle.tera_expect.proofs.Steps.{passed}
use Rattle.tera_tags.proofs.tag_parts.closed_tag.Goals as goal

pub returns-clause-gives : goal.returns-clause-gives
returns-clause-gives c =
    let (x, read) = c.in_ok-closed.ensures.gives in
    rw read (passed (tag x.0 x.1) c.finish.result c.finish.new.cursor.left (finish_of c.closed.new.cursor.left) c.finish.ensures.gives)
