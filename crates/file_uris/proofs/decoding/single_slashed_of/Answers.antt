use Rattle.file_uris.proofs.DecodingLemmas.{all_single}
use Rattle.file_uris.proofs.decoding.single_slashed_of.Goals as goal

pub returns : goal.returns
returns c = all_single _ _ _ _ c.slashes.invariant c.is_empty.ensures c.slashes-test.false
