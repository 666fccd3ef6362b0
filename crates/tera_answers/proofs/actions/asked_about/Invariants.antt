use Rattle.std.proofs.Common.{◌≡◌, ◌++◌, drop, filter, map}
use Rattle.tera_answers.specs.Actions.{is_asked}
use Rattle.tera_editor.specs.Settings.{reported_view}
use Rattle.tera_answers.proofs.actions.asked_about.Given as goal

abbrev pub invariant-loop-finding : goal.invariant-loop-finding
invariant-loop-finding l =
    filter (is_asked l.edited.encoding l.edited.text.now l.range (reported_view l.reported)) l.finding-items
    ≡ map (λ f. f.now) l.asked.items ++ filter (is_asked l.edited.encoding l.edited.text.now l.range (reported_view l.reported)) (drop l.finding-index l.finding-items)
