-- The faults that are in templates that were read.
use Rattle.std.specs.Prelude.{Bool, true, false}
use Rattle.tera_base.specs.declared.errors.Error.{Error}
use Rattle.tera_base.specs.declared.errors.ErrorKind.{ErrorKind}
use Rattle.tera_base.specs.declared.errors.ErrorKind.TheVariants as kinds

-- a syntax error: not a text without a place, and not an allocation failure
abbrev pub IsSyntaxErrorKind : ErrorKind → Type 0
IsSyntaxErrorKind kinds.Memory = ⊥
IsSyntaxErrorKind (kinds.Message s) = ⊥
IsSyntaxErrorKind (kinds.SyntaxError b) = Unit {0}

abbrev pub IsSyntaxError : Error → Type 0
IsSyntaxError e = IsSyntaxErrorKind e.kind

-- whether an allocation failed
abbrev pub is_memory_kind : ErrorKind → Bool
is_memory_kind kinds.Memory = true
is_memory_kind (kinds.Message s) = false
is_memory_kind (kinds.SyntaxError b) = false

abbrev pub is_memory : Error → Bool
is_memory e = is_memory_kind e.kind
