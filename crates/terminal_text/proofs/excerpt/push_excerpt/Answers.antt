use Rattle.std.proofs.Common.{sym, ap, ◌∙◌}
use Rattle.std.specs.Prelude.{option_map}
use Rattle.terminal_text.specs.Texts.{window_view}
use Rattle.terminal_text.proofs.Windows.{found_short}
use Rattle.terminal_text.proofs.excerpt.push_excerpt.Goals as goal

pub push_marked-requires-clause-marked : goal.push_marked-requires-clause-marked
push_marked-requires-clause-marked c =
    (found_short _ c.args.marked (window_view c.in-Some.window) (ap (option_map window_view) (sym c.in-Some.is) ∙ c.in_ok-window.ensures.window)).0

pub push_marked-requires-clause-following : goal.push_marked-requires-clause-following
push_marked-requires-clause-following c =
    (found_short _ c.args.marked (window_view c.in-Some.window) (ap (option_map window_view) (sym c.in-Some.is) ∙ c.in_ok-window.ensures.window)).1
