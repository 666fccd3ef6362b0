use Rattle.std.proofs.Common.{string_bytes}
use Rattle.tera_expr_parts.specs.Allowed.{limits_of}
use Rattle.tera_show.proofs.Known.{write_fault, written}
use Rattle.tera_show.proofs.stream.show_with.Goals as goal

pub returns : goal.returns
returns g c =
    let (n, less, wrote) = c.in-Err.ensures.err in
    write_fault (limits_of c.args.limits) _ _ _ c.in_ok-input.input.items c.in_ok-outcome.outcome (string_bytes c.in_ok-outcome.text) n c.in_ok-input.ensures.ok
    (rw c.as_slice.ensures.value at c.in_ok-outcome.ensures.ok) (rw c.as_bytes.ensures.value at less) (rw c.as_bytes.ensures.value at wrote)

pub returns-in-Ok : goal.returns-in-Ok
returns-in-Ok g c =
    written (limits_of c.args.limits) _ c.in_ok-input.input.items c.in_ok-outcome.outcome (string_bytes c.in_ok-outcome.text) _ _ c.in_ok-input.ensures.ok
    (rw c.as_slice.ensures.value at c.in_ok-outcome.ensures.ok) (rw c.as_bytes.ensures.value at c.in-Ok.ensures.ok)
