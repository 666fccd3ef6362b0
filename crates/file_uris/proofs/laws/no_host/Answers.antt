use Rattle.file_uris.proofs.DecodingLemmas.{names_no_host}
use Rattle.file_uris.proofs.laws.no_host.Goals as goal

pub returns : goal.returns
returns c = names_no_host
