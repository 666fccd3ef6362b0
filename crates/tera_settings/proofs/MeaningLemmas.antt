-- What is not in the tables of a table.
use Rattle.std.proofs.Common.{◌≡◌, ℕ, List, Some, IsSomeAnd, codes, map}
use Rattle.std.specs.Prelude.{Vec}
use Rattle.std.specs.declared.alloc.Global.{Global}
use Rattle.toml.specs.Data.{Members}
use Rattle.tera_settings.specs.Levels.{rule_levels, rule_view}
use Rattle.tera_settings.specs.Meaning.{KnownMeans, Means}
use Rattle.tera_settings.specs.Values.{table_at}
use Rattle.tera_settings.specs.declared.settings.Known.{Known}
use Rattle.tera_settings.specs.declared.settings.RuleLevel.{RuleLevel}
use Rattle.tera_settings.specs.declared.settings.Settings.{Settings}

pub no_levels : (rules : List (List ℕ)) (ms : Members)
    → ((levels : Vec RuleLevel Global) → IsSomeAnd (table_at (codes "rules") ms) (λ table. rule_levels rules table ≡ Some (map rule_view levels.items)) → ⊥)
    → (s : Settings) → Means rules ms s → ⊥
no_levels rules ms none s means = none s.rules means.levels

pub no_known : (rules : List (List ℕ)) (ms : Members) → ((known : Known) → IsSomeAnd (table_at (codes "known") ms) (λ table. KnownMeans table known) → ⊥)
    → (s : Settings) → Means rules ms s → ⊥
no_known rules ms none s means = none s.known means.known
