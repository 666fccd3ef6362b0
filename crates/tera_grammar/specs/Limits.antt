-- The limits of a template.
use Rattle.std.specs.Prelude.{ℕ}

-- the greatest numbers of expressions that are open one in another, of links, of open subscripts and of open
-- arrays of one outermost expression; and of open bodies
pub record Limits : Type 0 where
  pub depth : ℕ
  pub links : ℕ
  pub subscripts : ℕ
  pub arrays : ℕ
  pub bodies : ℕ

-- the limits that a program has where it names none
abbrev pub usual : Limits
usual = record { depth = 40; links = 256; subscripts = 4; arrays = 2; bodies = 40 }
