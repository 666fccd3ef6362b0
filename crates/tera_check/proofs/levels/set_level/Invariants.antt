use Rattle.std.proofs.Common.{◌≡◌, drop}
use Rattle.tera_check.specs.Levels.{set_level}
use Rattle.tera_check.proofs.levels.set_level.Given as goal

-- none of the rules so far is that of the kind
abbrev pub invariant-loop-rule : goal.invariant-loop-rule
invariant-loop-rule l = set_level (drop l.rule-index l.set) l.kind ≡ set_level l.set l.kind
