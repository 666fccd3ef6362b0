use Rattle.std.proofs.Common.{IfErr, [], cond, subst}
use Rattle.tera_grammar.specs.statements.Reading.Meeting.{nothing_located}
use Rattle.tera_tags.specs.Known.{located_of}
use Rattle.tera_tags.specs.Knowing.{RefusesInKnowing}
use Rattle.tera_statements.proofs.templates.top_item.Goals as goal

pub returns-clause-gives : goal.returns-clause-gives
returns-clause-gives c = c.item.ensures.gives [] c.nothing-around.ensures

pub returns-clause-refusal : goal.returns-clause-refusal
returns-clause-refusal c =
    subst (λ outermost. IfErr c.item.result (RefusesInKnowing (cond outermost (located_of c.args.names.now.components) nothing_located) c.args.cursor.now c.item.new.cursor))
    c.nothing-around.ensures.outermost c.item.ensures.refusal
