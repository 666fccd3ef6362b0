use Rattle.file_uris.proofs.DecodingLemmas.{encoded_decoded}
use Rattle.file_uris.proofs.laws.decodes.Goals as goal

pub returns : goal.returns
returns c = encoded_decoded
