use Rattle.std.proofs.Common.{sym, ◌∙◌}
use Rattle.tera_expr_parts.proofs.FrontsLemmas.{minus_begins, not_begins}
use Rattle.tera_expr_parts.proofs.front.begins_prefix.Goals as goal

pub returns-then-begins : goal.returns-then-begins
returns-then-begins c = c.if-begins.true ∙ sym (minus_begins c.args.cursor.now.left (sym c.begins.ensures ∙ c.if-begins.true))

pub returns-else-begins : goal.returns-else-begins
returns-else-begins c = c.begins-else-begins.ensures ∙ not_begins c.args.cursor.now.left (sym c.begins.ensures ∙ c.if-begins.false)
