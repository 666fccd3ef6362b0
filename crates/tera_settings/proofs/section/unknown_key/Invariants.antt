use Rattle.std.proofs.Common.{◌≡◌}
use Rattle.toml.specs.View.{table_view}
use Rattle.tera_settings.specs.Values.{texts, unknown_key}
use Rattle.tera_settings.proofs.ValueLemmas.{first_unknown}
use Rattle.tera_settings.proofs.section.unknown_key.Given as goal

-- the first unknown key is the first one of those that are left
abbrev pub invariant-loop-key : goal.invariant-loop-key
invariant-loop-key l = unknown_key (texts l.names) (table_view l.table) ≡ first_unknown (texts l.names) l.key-iterator
