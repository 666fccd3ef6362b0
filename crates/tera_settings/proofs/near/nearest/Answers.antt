use Rattle.std.proofs.Common.{rules}
use Rattle.std.specs.Option.{option_map}
use Rattle.tera_settings.specs.Near.{near_view}
use Rattle.tera_settings.proofs.NearLemmas.{best_more}
use Rattle.tera_settings.proofs.near.nearest.Goals as goal

pub loop-name-preserved : goal.loop-name-preserved
loop-name-preserved c =
    best_more c.args.word.now c.args.names.now c.loop-name.name-index (option_map near_view c.loop-name.nearest) (option_map near_view c.nearer-nearest.result) c.in_ok-far.far (search rules)
    c.loop-name.invariant c.in_ok-far.ensures.value c.nearer-nearest.ensures
