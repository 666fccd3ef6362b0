use Rattle.tera_workspace.proofs.JudgementLemmas.{named_at, none_among}
use Rattle.tera_workspace.proofs.workspace.Workspace.judgement_of.Goals as goal

pub returns-in_ok-judge-in-Ok : goal.returns-in_ok-judge-in-Ok
returns-in_ok-judge-in-Ok c =
    record {
      number = c.in-Ok.number;
      named = named_at c.args.name.now c.args.self.now.judged.items c.in-Ok.number c.in-Ok.ensures;
      at = c.in_ok-judge-in-Ok.ensures;
    }

pub returns-in-Err : goal.returns-in-Err
returns-in-Err c = none_among c.args.name.now c.args.self.now.judged.items c.in-Err.ensures.none
