-- Why a text has no settings.
use Rattle.std.specs.Prelude.{◌≡◌}
use Rattle.tera_settings.specs.declared.fault.Fault.{Fault}
use Rattle.tera_settings.specs.declared.fault.Fault.TheVariants.{Memory}

-- an allocation failed
abbrev pub IsMemory : Fault → Type 0
IsMemory fault = fault ≡ Memory
