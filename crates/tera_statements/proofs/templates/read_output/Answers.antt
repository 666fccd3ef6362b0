use Rattle.tera_expr_parts.specs.Allowed.{limits_of}
use Rattle.tera_statements.proofs.TemplatesLemmas.{template_given, template_refused}
use Rattle.tera_statements.proofs.templates.read_output.Goals as goal

pub returns-clause-gives : goal.returns-clause-gives
returns-clause-gives c = template_given (limits_of c.args.limits) c.whole.result c.args.cursor.left _ c.whole.ensures.gives

pub returns-clause-refusal : goal.returns-clause-refusal
returns-clause-refusal c = template_refused (limits_of c.args.limits) c.whole.result c.args.cursor c.whole.new.cursor c.whole.ensures.gives c.whole.ensures.refusal
