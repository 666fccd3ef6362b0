-- What holds for all that is read under a setting.
use Rattle.std.specs.Prelude.{ℕ}
use Rattle.tera_grammar.specs.statements.Expressions.{Limits}
use Rattle.tera_grammar.specs.statements.Reading.{Reader, body}
use Rattle.tera_expr_parts.specs.Allowed.{limits_of}
use Rattle.tera_tags.specs.declared.settings.Setting.{Setting}

-- the limits
abbrev pub limits_under : Setting → Limits
limits_under s = limits_of s.limits

-- how bodies are read, where so many may still open
abbrev pub bodies_under : Setting → ℕ → Reader
bodies_under s depth = body depth (limits_under s)
