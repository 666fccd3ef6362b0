use Rattle.std.proofs.Common.{[], None, Some, refl, subst}
use Rattle.json.specs.Json.{array}
use Rattle.json.specs.Value.{items_of}
use Rattle.tera_workspace.specs.Judgements.{IsJudgementOf}
use Rattle.tera_answers.proofs.ArrayLemmas.{array_closed}
use Rattle.tera_answers.proofs.Tails.{and_so}
use Rattle.tera_answers.proofs.actions.put_actions.Goals as goal

pub returns-in_ok-put_suggested-in-Some-clause-tokens : goal.returns-in_ok-put_suggested-in-Some-clause-tokens
returns-in_ok-put_suggested-in-Some-clause-tokens c =
    let (js, are, written) = c.in_ok-put_suggested-in-Some.ensures.tokens in
    and_so c.end_array.result c.end_array.ensures.ok (λ h. (
      array (items_of js),
      record {
        judgement = Some c.in-Some.judgement;
        judged = subst (IsJudgementOf c.args.acting.workspace.now c.args.document.file.now) c.in-Some.is c.in_ok-found.ensures;
        actions = js;
        are = are;
        written = refl;
      },
      array_closed js c.args.out.now.tokens c.begin_array.new.self.tokens c.put_suggested.new.out.tokens c.end_array.new.self.tokens
          c.in_ok-begin_array-in-Some.ensures.ok written h,
    ))

pub returns-in-None-clause-tokens : goal.returns-in-None-clause-tokens
returns-in-None-clause-tokens c =
    and_so c.put_tokens.result c.put_tokens.ensures.tokens (λ h. (
      array (items_of []),
      record {
        judgement = None;
        judged = subst (IsJudgementOf c.args.acting.workspace.now c.args.document.file.now) c.in-None.is c.in_ok-found.ensures;
        actions = [];
        are = refl;
        written = refl;
      },
      h,
    ))
