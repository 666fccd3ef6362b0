-- Why an expression is not written.
use Rattle.std.specs.Prelude.{◌≡◌, ⊤, Bool, false, true, Result, Err, OnOk}
use Rattle.tera_source.specs.declared.refusal.Refusal.{Refusal}
use Rattle.tera_source.specs.declared.refusal.Refusal.TheVariants as refusals

-- memory is short, which is the one refusal also a call of a component with a body
abbrev pub IsMemory : Refusal → Type 0
IsMemory refusal = refusal ≡ refusals.Memory

-- the result says whether there is a body in what is written, unless memory is short
abbrev pub Finds : Result ⊤ Refusal → Bool → Type 0
Finds result body = OnOk result (body ≡ false) × (result ≡ Err refusals.Body → body ≡ true)
