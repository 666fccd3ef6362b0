use Rattle.tera_expr_parts.specs.Allowed.{limits_of}
use Rattle.tera_statements.specs.Adding.{seen_of}
use Rattle.tera_tree.specs.Outputs.{output_view}
use Rattle.tera_tags.specs.Known.{located_of}
use Rattle.tera_tags.proofs.KnowingLemmas.{inside_knowing_err}
use Rattle.tera_statements.proofs.TemplatesLemmas.{text_empty, text_gives, text_goes}
use Rattle.tera_statements.proofs.templates.next_phase.Goals as goal

pub returns-in-Some-clause-gives : goal.returns-in-Some-clause-gives
returns-in-Some-clause-gives c =
    text_gives (limits_of c.args.setting.now.limits) c.args.setting.now.valid c.args.phase c.text_phase.result (output_view c.text_phase.new.output) (output_view c.args.output.now)
    (seen_of c.args.names.now) c.args.cursor.now.left c.eat_text.new.cursor.left c.in-Some.text.now c.eat_text.new.cursor.span c.in-Some.ensures.0 c.text_phase.ensures.gives

pub returns-in-Some-clause-refusal : goal.returns-in-Some-clause-refusal
returns-in-Some-clause-refusal c =
    inside_knowing_err c.text_phase.result (located_of c.args.names.now.components) c.args.cursor.now _ (c.text_phase.ensures.refusal c.args.cursor.now c.in-Some.ensures.1)

pub returns-in-Some-clause-empty : goal.returns-in-Some-clause-empty
returns-in-Some-clause-empty c =
    text_empty c.text_phase.result c.args.cursor.now.left c.eat_text.new.cursor.left c.in-Some.text.now c.eat_text.new.cursor.span c.in-Some.ensures.0 c.text_phase.ensures.empty

pub returns-in-Some-clause-later : goal.returns-in-Some-clause-later
returns-in-Some-clause-later c =
    text_goes c.args.phase c.text_phase.result (output_view c.text_phase.new.output) (output_view c.args.output.now) c.in-Some.text.now c.args.cursor.now c.eat_text.new.cursor
    c.text_phase.ensures.gives c.in-Some.ensures.1

pub returns-in-None-clause-gives : goal.returns-in-None-clause-gives
returns-in-None-clause-gives c = rw c.in-None.ensures.0 at c.item_phase.ensures.gives

pub returns-in-None-clause-refusal : goal.returns-in-None-clause-refusal
returns-in-None-clause-refusal c = rw c.in-None.ensures.0 at c.item_phase.ensures.refusal

pub returns-in-None-clause-empty : goal.returns-in-None-clause-empty
returns-in-None-clause-empty c = rw c.in-None.ensures.0 at c.item_phase.ensures.empty

pub returns-in-None-clause-later : goal.returns-in-None-clause-later
returns-in-None-clause-later c = rw c.in-None.ensures.0 at c.item_phase.ensures.later
