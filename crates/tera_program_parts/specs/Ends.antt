-- How the program ends.
use Rattle.std.specs.Prelude.{ℕ}
use Rattle.tera_check.specs.OrderAndStatus.{status_of}
use Rattle.tera_program_parts.specs.declared.status.Ended.{Ended}

-- 2 if not all could be done or reported, else 1 if something was found that is not a warning
abbrev pub status_at : Ended → ℕ
status_at e = status_of e.found e.failed
