use Rattle.std.proofs.Common.{◌≡◌, drop, map}
use Rattle.tera_editor.specs.Settings.{level_in, rule_view}
use Rattle.tera_editor.proofs.settings.level_in.Given as goal

-- none of the rules so far is that of the kind
abbrev pub invariant-loop-rule : goal.invariant-loop-rule
invariant-loop-rule l = level_in (map rule_view (drop l.rule-index l.rules)) l.kind ≡ level_in (map rule_view l.rules) l.kind
