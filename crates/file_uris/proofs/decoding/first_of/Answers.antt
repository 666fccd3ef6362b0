use Rattle.std.proofs.Common.{◌∙◌, sym, arith}
use Rattle.file_uris.proofs.DecodingLemmas.{first_encoded, first_plain}
use Rattle.file_uris.proofs.decoding.first_of.Goals as goal
use Rattle.file_uris.proofs.decoding.first_of.Goals.{else-text-ge3-via-then-text-ge3+else-is_encoded, else-text-ge3-via-else-text-ge3}

pub returns-then-is_encoded-clause-first : goal.returns-then-is_encoded-clause-first
returns-then-is_encoded-clause-first c =
    rw (c.value_of.ensures.is, c.value_of-then-is_encoded.ensures.is) (first_encoded _ c.if-text-ge3.true (sym c.is_encoded.ensures ∙ c.if-is_encoded.true))

pub returns-else-text-ge3-clause-first : goal.returns-else-text-ge3-clause-first
returns-else-text-ge3-clause-first c =
    elim c.else-text-ge3.branch [
      | else-text-ge3-via-then-text-ge3+else-is_encoded w ↦ first_plain _ c.requires (λ _. sym w.is_encoded.ensures ∙ w.if-is_encoded.false)
      | else-text-ge3-via-else-text-ge3 w ↦ first_plain _ c.requires (λ l. absurd (omega (arith, l, w.if-text-ge3.false)))
    ]
