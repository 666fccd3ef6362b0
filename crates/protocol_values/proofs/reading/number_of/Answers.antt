use Rattle.std.proofs.Common.{sym, ap, ◌∙◌}
use Rattle.protocol_values.specs.Members.{seen, number_in}
use Rattle.protocol_values.proofs.NumberLemmas.{number_is}
use Rattle.protocol_values.proofs.reading.number_of.Goals as goal

pub returns : goal.returns
returns c = number_is _ _ c.as_u64.ensures ∙ ap (λ v. number_in (seen v)) (sym c.in_ok-value.was)
