use Rattle.std.proofs.Common.{sym, arith}
use Rattle.tera_grammar.proofs.expressions.Stack.{unframed, pushed, keeps_as}
use Rattle.tera_expr_reader.specs.Frames.{frame_view, state_view}
use Rattle.tera_expr_reader.proofs.stack.close.Goals as goal

pub returns-in-None-clause-keeps : goal.returns-in-None-clause-keeps
returns-in-None-clause-keeps c room links = unframed frame_view _ _ _ (omega (arith, c.args.frames.now.ok.0, c.in-None.ensures.cases.0))

pub returns-in-Some-clause-keeps : goal.returns-in-Some-clause-keeps
returns-in-Some-clause-keeps c room links =
    keeps_as frame_view _ state_view _ _ _ _ _ (sym (pushed frame_view _ _ _ _ _ c.in-Some.ensures.items)) (c.resume.ensures.keeps room links)
