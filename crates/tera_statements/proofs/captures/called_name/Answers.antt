use Rattle.std.proofs.Common.{◌∙◌, inr, sym, inl}
use Rattle.tera_statements.proofs.CapturesLemmas.{no_component_name}
use Rattle.tera_statements.proofs.captures.called_name.Goals as goal

pub returns-then-not-begins_name-clause-gives : goal.returns-then-not-begins_name-clause-gives
returns-then-not-begins_name-clause-gives c = inr (inl (no_component_name c.args.cursor.now.left (sym c.begins_name.ensures ∙ c.if-not-begins_name.true)))
