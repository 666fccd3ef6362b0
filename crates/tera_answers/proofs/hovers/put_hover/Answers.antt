use Rattle.std.proofs.Common.{Some, subst}
use Rattle.std.specs.Option.{option_map}
use Rattle.tera_outline.specs.Names.{name_view}
use Rattle.tera_answers.specs.Hovers.{IsHead}
use Rattle.tera_answers.proofs.Tails.{and_so}
use Rattle.tera_answers.proofs.hovers.put_hover.Goals as goal

pub returns-in-Some-clause-tokens : goal.returns-in-Some-clause-tokens
returns-in-Some-clause-tokens c =
    and_so c.put_tokens.result c.put_tokens.ensures.tokens
    (λ h. (
      Some c.in-Some.head.now,
      subst (λ head. IsHead c.args.workspace.now (option_map name_view c.args.name.now) (option_map (λ t. t.now) head)) c.in-Some.is c.in_ok-head.ensures,
      h,
    ))
