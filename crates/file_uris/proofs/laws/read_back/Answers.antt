use Rattle.file_uris.proofs.DecodingLemmas.{name_read}
use Rattle.file_uris.proofs.laws.read_back.Goals as goal

pub returns : goal.returns
returns c = name_read
