-- The levels of rules.
use Rattle.std.specs.Prelude.{ℕ, List, Option, None, Some, bytes_eq, codes, if◌then◌else◌, option_and_then, string_bytes}
use Rattle.std.specs.Option.{option_map}
use Rattle.toml.specs.Data.{Data, Members, as_str}
use Rattle.tera_settings.specs.declared.settings.Level.{Level}
use Rattle.tera_settings.specs.declared.settings.Level.TheVariants as levels
use Rattle.tera_settings.specs.declared.settings.RuleLevel.{RuleLevel}
use Rattle.tera_settings.specs.Values.{each_of, entries_of, is_among}

-- the level that a word is for
abbrev pub level_named : List ℕ → Option Level
level_named word =
    if bytes_eq word (codes "off") then Some levels.Off
    else if bytes_eq word (codes "warning") then Some levels.Warning
    else if bytes_eq word (codes "error") then Some levels.Error
    else None

abbrev pub level_of : Data → Option Level
level_of d = option_and_then level_named (as_str d)

-- what a member says of the rule at its key, if that is the name of a rule
abbrev pub rule_of : List (List ℕ) → List ℕ × Data → Option (List ℕ × Level)
rule_of names (key, d) = if is_among names key then option_map (λ level. (key, level)) (level_of d) else None

-- what the members say of rules, if each is about a rule
abbrev pub rule_levels : List (List ℕ) → Members → Option (List (List ℕ × Level))
rule_levels names members = each_of (rule_of names) (entries_of members)

abbrev pub rule_view : RuleLevel → List ℕ × Level
rule_view rule = (string_bytes rule.rule, rule.level)
