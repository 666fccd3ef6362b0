use Rattle.file_uris.proofs.DecodingLemmas.{all_decoded}
use Rattle.file_uris.proofs.decoding.decoded_of.Goals as goal

pub returns : goal.returns
returns c = all_decoded _ _ _ _ c.bytes.invariant c.is_empty.ensures c.bytes-test.false
