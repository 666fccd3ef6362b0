use Rattle.std.proofs.Common.{refl, sym}
use Rattle.std.proofs.lemmas.List.{append-nil}
use Rattle.tera_answers.specs.Actions.{action_tokens}
use Rattle.tera_answers.proofs.actions.put_if_any.Goals as goal

pub returns-in-Some : goal.returns-in-Some
unfolding action_tokens
returns-in-Some c = rw (c.in-Some.is) (c.put_action.ensures)

pub returns-in-None : goal.returns-in-None
unfolding action_tokens
returns-in-None c = rw (c.in-None.is) (record { tokens = sym (append-nil c.args.out.now.tokens); before = refl })
