use Rattle.std.proofs.Common.{refl, subst, sym}
use Rattle.json.specs.Json.{Json, array, no_items}
use Rattle.tera_answers.specs.Actions.{AreWanted, acting_view}
use Rattle.tera_answers.proofs.Tails.{and_so}
use Rattle.tera_workspace.specs.Definitions.{text_view}
use Rattle.tera_answers.proofs.actions.put_if_wanted.Goals as goal

pub returns-then-wanted-clause-tokens : goal.returns-then-wanted-clause-tokens
returns-then-wanted-clause-tokens c =
    and_so c.put_actions.result c.put_actions.ensures.tokens (λ given. let (j, are, written) = given in (
      j,
      subst (λ wanted. AreWanted wanted (acting_view c.args.acting) (text_view c.args.document) c.args.range j) (sym c.if-wanted.true) are,
      written,
    ))

pub returns-else-wanted-clause-tokens : goal.returns-else-wanted-clause-tokens
returns-else-wanted-clause-tokens c =
    and_so c.put_tokens.result c.put_tokens.ensures.tokens (λ written. (
      array no_items,
      subst (λ wanted. AreWanted wanted (acting_view c.args.acting) (text_view c.args.document) c.args.range (array no_items)) (sym c.if-wanted.false) refl,
      written,
    ))
