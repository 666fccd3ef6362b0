use Rattle.std.proofs.Common.{◌∙◌, ap, map, string_bytes}
use Rattle.tera_program_parts.proofs.ExcludedLemmas.{in_one}
use Rattle.tera_program_parts.proofs.excluded.is_below_one.Goals as goal

pub returns : goal.returns
returns c = λ folders are.
    let named = ap (map string_bytes) c.as_slice.ensures.value ∙ c.in_ok-names.ensures in
    in_one c.args.paths.now c.as_slice.result.now c.args.path.now folders c.begins_in.result named are c.begins_in.ensures
