use Rattle.file_uris.proofs.DecodingLemmas.{path_here}
use Rattle.file_uris.proofs.laws.one_host.Goals as goal

pub returns : goal.returns
returns c = path_here
