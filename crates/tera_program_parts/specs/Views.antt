-- What is seen of lists of texts, and of what rules are set to.
use Rattle.std.specs.Prelude.{ℕ, List, Option, map, option_map}
use denote.Ref.{Bor}
use Rattle.tera_findings.specs.declared.finding.Severity.{Severity}
use Rattle.tera_check.specs.declared.levels.RuleLevel.{RuleLevel}
use Rattle.tera_files.specs.Names.{texts}

-- some texts, if they are given
abbrev pub lists_view : Option (Bor (List (Bor (List ℕ)))) → Option (List (List ℕ))
lists_view = option_map (λ t. texts t.now)

-- a rule, and what it is set to
abbrev pub set_view : RuleLevel → List ℕ × Option Severity
set_view r = (r.rule.now, r.level)

abbrev pub sets_view : Bor (List RuleLevel) → List (List ℕ × Option Severity)
sets_view set = map set_view set.now
