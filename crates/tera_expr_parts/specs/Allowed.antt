-- The limits that a template may be read within.
use Rattle.std.specs.Prelude.{◌≤◌}
use Rattle.tera_grammar.specs.Limits.{Limits}
use Rattle.tera_expr_parts.specs.declared.limits.Limits as own

abbrev pub limits_of : own.Limits → Limits
limits_of l = record { depth = l.depth; links = l.links; subscripts = l.subscripts; arrays = l.arrays; bodies = l.bodies }

-- a template can be read within the limits
pub record AreValid (l : Limits) : Type 0 where
  pub depth : (1 ≤ l.depth) × (l.depth ≤ 100)
  pub links : (1 ≤ l.links) × (l.links ≤ 4096)
  pub subscripts : (1 ≤ l.subscripts) × (l.subscripts ≤ 16)
  pub arrays : (1 ≤ l.arrays) × (l.arrays ≤ 8)
  pub bodies : (1 ≤ l.bodies) × (l.bodies ≤ 100)
