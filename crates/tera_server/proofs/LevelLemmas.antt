-- What findings count for, by settings in a server and by those of a check.
use Rattle.std.proofs.Common.{◌≡◌, ◌∷◌, [], List, Bool, true, false, cond, if◌then◌else◌, map, Option, None, Some, refl, ap}
use Rattle.std.specs.List.{find}
use Rattle.std.specs.Option.{option_map_or}
use Rattle.std.specs.Str.{bytes_eq}
use Rattle.tera_findings.specs.Findings.{default_level, kind_name, severity_of}
use Rattle.tera_check.specs.Levels.{is_fault, is_of, level_of}
use Rattle.tera_check.specs.Levels as check
use Rattle.tera_findings.specs.declared.finding.Kind.{Kind}
use Rattle.tera_check.specs.declared.levels.Levels.{Levels}
use Rattle.tera_check.specs.declared.levels.RuleLevel.{RuleLevel}
use Rattle.tera_editor.specs.Settings.{ByRules, RuleVal, level_by, level_in, level_view}

same_set : (set : List RuleLevel) (kind : Kind) → level_in (map level_view set) kind ≡ check.set_level set kind
same_set [] kind = refl
same_set (r ∷ rs) kind = by (is_of kind r) (same_set rs kind)
  where
    by : (here : Bool) → level_in (map level_view rs) kind ≡ check.set_level rs kind →
        option_map_or (λ (s : RuleVal). s.1) (cond here (Some (level_view r)) (find (λ (s : RuleVal). bytes_eq s.0 (kind_name kind)) (map level_view rs))) (default_level kind)
        ≡ option_map_or (λ (s : RuleLevel). s.level) (cond here (Some r) (find (is_of kind) rs)) (default_level kind)
    by true rest = refl
    by false rest = rest

pub same_level : (levels : Levels) (kind : Kind) → levels.select ≡ None → levels.ignore ≡ None → level_by (ByRules (map level_view levels.set.now)) kind ≡ level_of levels kind
same_level levels kind unselected unignored =
    rw (unselected, unignored) (ap (λ set. if is_fault kind then Some (severity_of kind) else set) (same_set levels.set.now kind))
