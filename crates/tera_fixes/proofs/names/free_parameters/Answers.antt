use Rattle.tera_fixes.specs.Attributes.{call_view}
use Rattle.tera_fixes.proofs.NamesLemmas.{free_more}
use Rattle.tera_fixes.proofs.names.free_parameters.Goals as goal

pub loop-name-preserved : goal.loop-name-preserved
loop-name-preserved c =
    free_more (call_view c.args.call.now) _ _ c.loop-name.yielded c.in-Some.name c.loop-name.invariant c.in_ok-push_if_free.ensures
